-- What a call through records comes to: the rows that it left are the front of the array, so the numbers that are put back are theirs.
use mathlib.Core.Path.{◌≡◌, ap, ◌∙◌}
use mathlib.Core.Bool.{true}
use mathlib.Core.List.{List, ◌++◌}
use Prim.Native.Nat.{ℕ, ◌/◌}
use lib.ListN.{length, take, drop}
use lib.Seq.{take_at}
use Rattle.limits.specs.Limits.{row_width}
use Rattle.device.specs.declared.Geometry.{Geometry}
use Rattle.device.specs.Device.{Dev}
use Rattle.pool_state.specs.declared.Pool.{Pool}
use Rattle.pool_state.specs.State.{bufs}
use Rattle.pool_steps.specs.World.{lent}
use Rattle.slot_records.specs.declared.Slot.{Slot}
use Rattle.slot_records.specs.Records.{nums_of}
use Rattle.slot_records.specs.Whole.{whole_rows, spread_of, nums_spread}
use Rattle.calls_gate.specs.declared.Call.{Call}
use Rattle.calls_gate.specs.declared.Reply.{Reply}
use Rattle.calls_gate.specs.Replies.{replied}
use Rattle.calls_gate.specs.Calls.{call_p}

module _ (plan : List ℕ) (g : Geometry) (c : Call) (one two buf : List ℕ) (d : Dev) (q : Pool) (s names dirs : List ℕ) where
  -- rs are the records of the numbers s, ws those that the call left, and s' the numbers that were put back
  pub went_through : (r : Reply) (b h m n f s' : List ℕ) (rs ws : List Slot) → whole_rows s ≡ true → rs ≡ spread_of s
      → length ws ≡ length s / row_width → s' ≡ nums_of (take (length s / row_width) (ws ++ drop (length s / row_width) rs))
      → replied r b h (nums_of ws) m n f ≡ call_p plan g c one two buf (lent d (bufs q (nums_of (take (length s / row_width) rs)) names dirs))
      → replied r b h s' m n f ≡ call_p plan g c one two buf (lent d (bufs q s names dirs))
  went_through r b h m n f s' rs ws whole made long put e =
      ap (λ (x : List ℕ). replied r b h x m n f) (put ∙ ap nums_of (take_at ws (drop (length s / row_width) rs) (length s / row_width) long))
      ∙ e ∙ ap (λ (x : List ℕ). call_p plan g c one two buf (lent d (bufs q x names dirs))) (nums_spread s rs whole made)
