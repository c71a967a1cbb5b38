-- A blank card: what a mount of slots that hold no header comes to.
use Rattle.std.specs.Prelude.{ℕ, ◌+◌, ◌≤◌, ◌<◌, ◌≡◌, ◌≢◌, true, false, List, [], length, get_or}
use Rattle.lists.specs.Runs.{range}
use Rattle.device.specs.declared.Geometry.{Geometry}
use Rattle.device.specs.Device.{Dev, dev}
use Rattle.device.specs.Calls.{block_of}
use Rattle.slot_rows.specs.Rows.{at, is_bound}
use Rattle.pool_state.specs.State.{view}
use Rattle.pool_steps.specs.World.{Lent}
use Rattle.mount_survey.specs.Heads.{absent, head_of}
use Rattle.calls_gate.specs.declared.Call.TheVariants.{Mount}
use Rattle.calls_gate.specs.Table.{slot_rows, mountable}
use Rattle.calls_gate.specs.Replies.{Came}
use Rattle.calls_gate.specs.Calls.{call_p}
use Rattle.calls_gate.specs.Refusals.{moved_by}

-- Slot i has no valid header: it was never written, or is full of zeros, or holds anything else that is none.
abbrev pub Blank : Geometry → Dev → ℕ → Type 0
Blank g d i = head_of (block_of g i d) ≡ absent

-- What a mount of k slots needs that 2, 12 and 10 are not given.
pub record Ample (plan : List ℕ) (g : Geometry) (k : ℕ) (l : Lent) : Type 0 where
  -- device and rows of the right shape
  pub shape : mountable g l ≡ true
  -- k slot rows, and k slots
  pub rows : k ≤ slot_rows l.bufs.nums
  pub slots : k ≤ length l.dev.phys
  -- the plan fails none of the k header reads; it may cut them short
  pub reads : (j : ℕ) → j < k → get_or plan (l.dev.place.at + j) 0 ≢ 1

-- "No files, no directories, the k slots free in order, counter 1, device unchanged": but for the place, which has moved by the k reads.
pub record Fresh (plan : List ℕ) (k : ℕ) (l : Lent) (x : Came) : Type 0 where
  pub held : length (view x.left.bufs).rows ≡ k
  pub files : (i : ℕ) → is_bound (at (view x.left.bufs).rows i) ≡ false
  pub dirs : (view x.left.bufs).dirs ≡ []
  pub free : (view x.left.bufs).queue ≡ range 0 k
  pub counter : (view x.left.bufs).counter ≡ 1
  pub device : x.left.dev ≡ dev l.dev.bytes l.dev.phys (moved_by plan k l.dev.place)

-- "A mount of k blank slots": it is done where there is room for it, and then the pool is fresh.
abbrev pub BlankCard : Type 0
BlankCard =
    (plan : List ℕ) (g : Geometry) (k : ℕ) (one two buf : List ℕ) (l : Lent) → ((i : ℕ) → i < k → Blank g l.dev i)
    → let x = call_p plan g (Mount k) one two buf l in
    (Ample plan g k l → x.number ≡ 0) × (x.number ≡ 0 → Fresh plan k l x)
