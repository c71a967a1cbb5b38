-- What a mount and an adoption leave on the card: the bytes of every file that they leave.
use Rattle.std.specs.Prelude.{ℕ, ◌≡◌, true, List}
use Rattle.device.specs.declared.Geometry.{Geometry}
use Rattle.slot_rows.specs.Rows.{at, is_bound}
use Rattle.pool_state.specs.State.{view}
use Rattle.pool_steps.specs.World.{Lent}
use Rattle.device.specs.Calls.{SlotStays}
use Rattle.calls_gate.specs.declared.Call.{Call}
use Rattle.calls_gate.specs.declared.Call.TheVariants.{Mount, Adopt}
use Rattle.calls_gate.specs.Calls.{call_p}

module _ (plan : List ℕ) (g : Geometry) (one two buf : List ℕ) (l : Lent) where
  -- Each slot that the call leaves bound has the bytes and the physical length that it had, whatever fails and whatever the call answers.
  abbrev pub KeepsBytes : Call → Type 0
  KeepsBytes c =
      (i : ℕ) → is_bound (at (view (call_p plan g c one two buf l).left.bufs).rows i) ≡ true
      → SlotStays g i l.dev (call_p plan g c one two buf l).left.dev

-- "A slot that a mount or an adoption leaves bound has the bytes and the physical length it had."
abbrev pub MountKeepsBytes : Type 0
MountKeepsBytes =
    (plan : List ℕ) (g : Geometry) (one two buf : List ℕ) (l : Lent) (slots : ℕ)
    → KeepsBytes plan g one two buf l (Mount slots) × KeepsBytes plan g one two buf l (Adopt slots)
