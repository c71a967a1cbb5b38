-- What is promised of every call at once. Each statement is proved in proofs/Promises.antt, under its name in small letters.
use Rattle.std.specs.Prelude.{ℕ, ◌*◌, ◌<◌, ◌≡◌, true, false, cond, List, length}
use Rattle.limits.specs.Limits.{row_width}
use Rattle.device.specs.declared.Geometry.{Geometry}
use Rattle.pool_steps.specs.World.{Lent, Ready}
use Rattle.calls_gate.specs.declared.Answer.{Answer}
use Rattle.calls_gate.specs.declared.Call.{Call}
use Rattle.calls_gate.specs.declared.Call.TheVariants.{Adopt}
use Rattle.calls_gate.specs.declared.Told.{Told}
use Rattle.calls_gate.specs.Answers.{number_of}
use Rattle.calls_gate.specs.Replies.{Came, came}
use Rattle.calls_gate.specs.Table.{takes_of}
use Rattle.calls_gate.specs.Calls.{refused_m, call_p}

-- ---- "any two outcomes it allows are the same"

-- What a call comes to: its answer, what it tells, all that was lent, and the buffer.
pub record End : Type 0 where
  pub answer : Answer
  pub told : Told
  pub left : Lent
  pub buf : List ℕ

abbrev pub ends : End → Came
ends e = came (number_of e.answer) e.told e.left e.buf

-- Two outcomes of one call on the same things lent are the same.
abbrev pub OneOutcome : Type 0
OneOutcome =
    (plan : List ℕ) (g : Geometry) (c : Call) (one two buf : List ℕ) (l : Lent) (e f : End)
    → ends e ≡ call_p plan g c one two buf l → ends f ≡ call_p plan g c one two buf l → e ≡ f

-- ---- "a pool stays a pool"

-- After any call but a mount, on a pool with its device, it is a pool with its device again; and a mount that is done makes one, of
-- whatever was lent.
abbrev pub CallStays : Type 0
CallStays =
    (plan : List ℕ) (g : Geometry) (one two buf : List ℕ) (l : Lent) (c : Call)
    → ((takes_of c).mounts ≡ true → (call_p plan g c one two buf l).number ≡ 0) → ((takes_of c).mounts ≡ false → Ready g l)
    → Ready g (call_p plan g c one two buf l).left

-- ---- the column `writes` of the table

-- The device's bytes and physical lengths, the record and the rows are as they were. The plan's place may have moved: a read is a device
-- call.
pub record Leaves (l left : Lent) : Type 0 where
  pub bytes : left.dev.bytes ≡ l.dev.bytes
  pub phys : left.dev.phys ≡ l.dev.phys
  pub bufs : left.bufs ≡ l.bufs

-- A call that neither writes nor mounts nor adopts leaves them, whether it is refused or not.
abbrev pub LooksLeave : Type 0
LooksLeave =
    (plan : List ℕ) (g : Geometry) (one two buf : List ℕ) (l : Lent) (c : Call)
    → (takes_of c).writes ≡ false → (takes_of c).mounts ≡ false → ((slots : ℕ) → c ≡ Adopt slots → ⊥)
    → Leaves l (call_p plan g c one two buf l).left

-- ---- more than 64 slot rows

-- Four numbers are a row. Every call refuses more than 64 rows: a mount with 2, and any other with 1.
abbrev pub ManyRows : Type 0
ManyRows =
    (plan : List ℕ) (g : Geometry) (c : Call) (one two buf : List ℕ) (l : Lent) → 64 * row_width < length l.bufs.nums
    → call_p plan g c one two buf l ≡ refused_m c (cond (takes_of c).mounts 2 1) buf l
