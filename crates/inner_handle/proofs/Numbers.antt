-- The number that a call on a handle comes to is one of 01's.
use Prim.Native.Nat.{ℕ}
use native.Mathlib.Omega.{arith}
use mathlib.Core.List.{List}
use lib.Dec.{leb}
use Rattle.device.specs.declared.Geometry.{Geometry}
use Rattle.device.specs.Device.{flush_m}
use Rattle.slot_rows.specs.Rows.{at, is_dirty, len_of}
use Rattle.pool_state.specs.Numbers.{IsNumber}
use Rattle.pool_state.specs.State.{State}
use Rattle.pool_steps.specs.World.{World, world}
use Rattle.pool_steps.specs.Steps.{sync_row_m}
use Rattle.pool_steps.proofs.Numbers.{LastW, cut_last, either, flush_last, number, read_last, store_last, sync_row_last}
use Rattle.pool_steps.specs.Outcome.{Out, Outcome}
use Rattle.inner_handle.specs.Handles.{file_len_m, filling, is_live, on_handle, read_at_m, read_part, resized_m, set_len_m, sync_m, write_at_m}

module _ (plan : List ℕ) (g : Geometry) (slot generation : ℕ) (w : World) where
  live_number : {R : Type 0} (zeros : R) (o : Outcome R World) → Out o → Out (on_handle slot generation zeros w o)
  live_number zeros o h = either Out (is_live slot generation w.state.rows) h (omega arith)

  pub read_at_number : (pos : ℕ) (buf : List ℕ) → Out (read_at_m plan g slot generation pos buf w)
  unfolding read_at_m read_part
  read_at_number pos buf =
      live_number (filling 0 buf) _ (either Out (leb (len_of (at w.state.rows slot)) pos) (omega arith) (number (read_last plan g slot pos _ w.dev)))

  pub write_at_number : (pos : ℕ) (src : List ℕ) → Out (write_at_m plan g slot generation pos src w)
  unfolding write_at_m resized_m
  write_at_number pos src = live_number tt _ (number (store_last plan g slot pos src w.dev))

  pub set_len_number : (len : ℕ) → Out (set_len_m plan g slot generation len w)
  unfolding set_len_m resized_m
  set_len_number len = live_number tt _ (number (cut_last plan g slot len w.dev))

  pub sync_number : Out (sync_m plan g slot generation w)
  unfolding sync_m
  sync_number =
      live_number tt _
      (number
      (either LastW (is_dirty (at w.state.rows slot)) {x = sync_row_m plan g slot w} {y = world (flush_m plan w.dev) w.state}
      (sync_row_last plan g slot w) (flush_last plan g w.dev)))

pub file_len_number : (slot generation : ℕ) (s : State) → IsNumber (file_len_m slot generation s).out
unfolding file_len_m
file_len_number slot generation s = either IsNumber (is_live slot generation s.rows) (omega arith) (omega arith)
