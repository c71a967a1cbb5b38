-- 01's column "Left behind" as one theorem over all calls: what a refusal leaves of everything lent.
use Rattle.std.specs.Prelude.{ℕ, zero, suc, ◌≡◌, ◌≢◌, Bool, true, false, cond, ◌||◌, List, eqb}
use Rattle.device.specs.declared.Place.{Place}
use Rattle.device.specs.declared.Geometry.{Geometry}
use Rattle.device.specs.Device.{onward}
use Rattle.pool_state.specs.State.{Bufs}
use Rattle.pool_steps.specs.World.{Lent}
pub use Rattle.pool_steps.specs.Outcome.{NotRefused}
use Rattle.calls_gate.specs.declared.Call.{Call}
use Rattle.calls_gate.specs.declared.Call.TheVariants.{Mount, Adopt, OpenWrite, OpenRead, ReadAt, WriteAt, SetLen, FileLen}
use Rattle.calls_gate.specs.declared.Call.TheVariants.{Sync, SyncDir, Rename, RemoveFile, CreateDirAll, ReadDir, Exists, Metadata}
use Rattle.calls_gate.specs.Replies.{nothing, Came}
use Rattle.calls_gate.specs.Table.{takes_of, unmounted}
use Rattle.calls_gate.specs.Calls.{call_p}

-- ---- which numbers

-- A refusal is every number but 0 (done), 10 (a device call failed) and 11 (a write stored too little).
abbrev pub IsRefusal : ℕ → Type 0
IsRefusal n = (n ≢ 0) × (n ≢ 10) × (n ≢ 11)

-- The refusals of a mount and an adoption that come after the header reads. Another number that does joins here, and nothing else changes.
unfoldable pub after_headers : ℕ → Bool
after_headers n = eqb n 8 || eqb n 9

-- ---- the reads made

-- How many slots a call takes into the pool: it reads the header of each before anything else.
unfoldable pub takes_in : Call → ℕ
takes_in (Mount slots) = slots
takes_in (Adopt slots) = slots
takes_in (OpenWrite how) = 0
takes_in OpenRead = 0
takes_in (ReadAt slot generation pos) = 0
takes_in (WriteAt slot generation pos) = 0
takes_in (SetLen slot generation len) = 0
takes_in (FileLen slot generation) = 0
takes_in (Sync slot generation) = 0
takes_in SyncDir = 0
takes_in Rename = 0
takes_in RemoveFile = 0
takes_in CreateDirAll = 0
takes_in ReadDir = 0
takes_in Exists = 0
takes_in Metadata = 0

-- How many header reads a call has made that comes to this refusal: none, but for those of `after_headers` of a mount or an adoption.
unfoldable pub reads_made : Call → ℕ → ℕ
reads_made c n = cond (after_headers n) (takes_in c) 0

-- The place after k device calls that were done: each moves it on by one, and not past the plan's end.
unfoldable pub moved_by : List ℕ → ℕ → Place → Place
moved_by plan zero p = p
moved_by plan (suc k) p = moved_by plan k (onward plan 0 p)

-- ---- the statement

-- All results are zero, the buffer and the device's bytes and lengths are as they were, and record and rows are b.
pub record LeftBehind (buf : List ℕ) (l : Lent) (b : Bufs) (x : Came) : Type 0 where
  pub told : x.told ≡ nothing
  pub buf_stays : x.buf ≡ buf
  pub bytes : x.left.dev.bytes ≡ l.dev.bytes
  pub phys : x.left.dev.phys ≡ l.dev.phys
  pub bufs : x.left.bufs ≡ b

-- "Every number but 0, 10 and 11, not a mount: all results zero, everything lent as it was, but for the place after 8 and 9 of adopt, which
-- moved by the reads made. At mount: record and rows zero, device as it was." A mount is refused with 10 too.
abbrev pub ARefusalChangesNothing : Type 0
ARefusalChangesNothing =
    (plan : List ℕ) (g : Geometry) (c : Call) (one two buf : List ℕ) (l : Lent)
    → let x = call_p plan g c one two buf l in
    ((takes_of c).mounts ≡ false → IsRefusal x.number → LeftBehind buf l l.bufs x)
    × ((takes_of c).mounts ≡ true → x.number ≢ 0 → LeftBehind buf l (unmounted l.bufs) x)
    × (IsRefusal x.number → x.left.dev.place ≡ moved_by plan (reads_made c x.number) l.dev.place)
