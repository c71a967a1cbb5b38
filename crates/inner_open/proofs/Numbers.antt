-- The number that open_read, open_write or remove_file comes to is one of 01's.
use Prim.Native.Nat.{ℕ, ◌+◌}
use native.Mathlib.Omega.{arith}
use mathlib.Core.Bool.{Bool}
use mathlib.Core.List.{List}
use lib.Dec.{eqb, ltb}
use lib.ListN.{get_or, length}
use Rattle.limits.specs.Limits.{max_path, last_counter}
use Rattle.device.specs.declared.Geometry.{Geometry}
use Rattle.slot_rows.specs.Rows.{find}
use Rattle.dir_rows.specs.Dirs.{registered}
use Rattle.pool_state.specs.Numbers.{IsNumber}
use Rattle.pool_state.specs.State.{State}
use Rattle.pool_steps.specs.World.{World}
use Rattle.pool_steps.specs.Steps.{release_m}
use Rattle.pool_steps.proofs.Numbers.{cut_last, either, number, release_last}
use Rattle.pool_steps.specs.Outcome.{None, Out, by_device, outcome}
use Rattle.inner_open.specs.Files.{admits_new, create_m, is_file, no_handle, open_new_m, open_read_m, open_write_m, remove_m, reopen_m, room_for}

-- There is room, or one of 7 to 9.
pub room_number : (need : ℕ) (path : List ℕ) (cap : ℕ) (ds : List (List ℕ)) (counter : ℕ) → IsNumber (room_for need path cap ds counter)
unfolding room_for
room_number need path cap ds counter =
    either IsNumber (ltb cap (length (registered ds path))) (omega arith) (either IsNumber (ltb last_counter (counter + need)) (omega arith) (omega arith))

module _ (plan : List ℕ) (g : Geometry) where
  pub open_write_number : (path : List ℕ) (keep : Bool) (w : World) → Out (open_write_m plan g path keep w)
  unfolding open_write_m reopen_m open_new_m create_m admits_new
  open_write_number path keep w =
      let new = admits_new path w.state in
      let i = find path w.state.rows in
      either Out (ltb max_path (length path)) {x = outcome 4 no_handle w} (omega arith)
      (either Out (is_file path w.state) {x = reopen_m plan g i keep w} {y = open_new_m plan g path w}
      (either Out keep (omega arith) (number (cut_last plan g i 0 w.dev)))
      (either Out (eqb new 0) {x = create_m plan g path w} {y = outcome new no_handle w}
      (number (cut_last plan g (get_or w.state.queue 0 0) 0 w.dev))
      (either IsNumber (eqb (length w.state.queue) 0) (omega arith) (room_number 1 path w.state.chosen.dir_rows w.state.dirs w.state.counter))))

  pub remove_number : (path : List ℕ) (w : World) → Out (remove_m plan g path w)
  unfolding remove_m
  remove_number path w =
      either Out (is_file path w.state) {y = outcome {R = None} 5 tt w}
      (either Out (ltb last_counter (w.state.counter + 1)) {x = outcome {R = None} 9 tt w} {y = by_device (release_m plan g i w)} (omega arith) (number (release_last plan g i w))) (omega arith)
    where
      i : ℕ
      i = find path w.state.rows

pub open_read_number : (path : List ℕ) (s : State) → IsNumber (open_read_m path s).out
unfolding open_read_m
open_read_number path s = either IsNumber (is_file path s) (omega arith) (omega arith)
