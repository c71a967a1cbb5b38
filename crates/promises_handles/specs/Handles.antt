-- What becomes of handles under the public calls, as the contract of `calls::make` gives them (`call_p`). A handle is a slot and a
-- generation. Most statements do not ask that what is lent is a pool with its device: on anything else a call is refused and changes
-- nothing. Each is proved under its name in small letters, the first two in proofs/HandleCalls.antt, the others in proofs/Theorems.antt;
-- proofs/Witness.antt has for each an example in which its premises hold.
use Rattle.std.specs.Prelude.{ℕ, ◌<◌, ◌≡◌, ◌⊎◌, true, false, List, [], ◌∷◌, length}
use Rattle.path.specs.Path.{same_path}
use Rattle.header.specs.Block.{bound_header, encoded}
use Rattle.device.specs.declared.Geometry.{Geometry}
use Rattle.device.specs.Device.{Dev}
use Rattle.slot_rows.specs.Rows.{at, len_of, find}
use Rattle.pool_state.specs.State.{State, view, IsPool}
use Rattle.pool_steps.specs.World.{Lent, Ready}
use Rattle.pool_steps.specs.Steps.{fine_m, put_m}
use Rattle.inner_handle.specs.Handles.{is_live}
use Rattle.calls_gate.specs.declared.Call.{Call}
use Rattle.calls_gate.specs.declared.Call.TheVariants.{OpenWrite, OpenRead, ReadAt, WriteAt, SetLen, FileLen, Sync, Rename, RemoveFile}
use Rattle.calls_gate.specs.declared.Opening.{Opening}
use Rattle.calls_gate.specs.Table.{takes_of}
use Rattle.calls_gate.specs.Replies.{nothing, Came, came}
use Rattle.calls_gate.specs.Calls.{call_p}
use Rattle.calls_gate.specs.Refusals.{NotRefused}

-- ---- a handle

-- What the lent buffers hold.
abbrev pub pool_in : Lent → State
pool_in l = view l.bufs

-- A handle is live: its slot is held, and bound under its generation.
abbrev pub IsLive : Lent → ℕ → ℕ → Type 0
IsLive l slot generation = is_live slot generation (pool_in l).rows ≡ true

-- It is stale: it is not live.
abbrev pub IsStale : Lent → ℕ → ℕ → Type 0
IsStale l slot generation = is_live slot generation (pool_in l).rows ≡ false

-- A handle that this pool may have given out: its slot is held, and its generation was spent. Every handle that is live in a pool is one.
pub record GivenOut (l : Lent) (slot generation : ℕ) : Type 0 where
  pub held : slot < length (pool_in l).rows
  pub spent : generation < (pool_in l).counter

-- The slot of a path. Where no file has it, it is the count of the slots, of which no handle is live.
abbrev pub file_slot : List ℕ → Lent → ℕ
file_slot path l = find path (pool_in l).rows

-- ---- what a handle is good for

-- On a pool with its device, every call on a stale handle gives 6 and changes nothing; of a live one file_len gives 0.
abbrev pub StaleGetsSix : Type 0
StaleGetsSix =
    (plan : List ℕ) (g : Geometry) (one two buf : List ℕ) (l : Lent) (slot generation : ℕ) → Ready g l
    → (IsLive l slot generation → (call_p plan g (FileLen slot generation) one two buf l).number ≡ 0)
    × (IsStale l slot generation → (pos len : ℕ)
    → (call_p plan g (FileLen slot generation) one two buf l ≡ came 6 nothing l buf)
    × (call_p plan g (ReadAt slot generation pos) one two buf l ≡ came 6 nothing l buf)
    × (call_p plan g (WriteAt slot generation pos) one two buf l ≡ came 6 nothing l buf)
    × (call_p plan g (SetLen slot generation len) one two buf l ≡ came 6 nothing l buf)
    × (call_p plan g (Sync slot generation) one two buf l ≡ came 6 nothing l buf))

-- A call tells a handle that is live in what it leaves.
abbrev pub TellsLive : Came → Type 0
TellsLive x = IsLive x.left x.told.slot x.told.generation

-- An open that is done does.
abbrev pub OpensGive : Type 0
OpensGive =
    (plan : List ℕ) (g : Geometry) (path two buf : List ℕ) (l : Lent)
    → ((call_p plan g OpenRead path two buf l).number ≡ 0 → TellsLive (call_p plan g OpenRead path two buf l))
    × ((how : Opening) → (call_p plan g (OpenWrite how) path two buf l).number ≡ 0 → TellsLive (call_p plan g (OpenWrite how) path two buf l))

-- ---- a live handle

-- "a truncating reopen leaves each live handle live", and so does every other open for writing, whatever of it fails.
abbrev pub ReopenKeeps : Type 0
ReopenKeeps =
    (plan : List ℕ) (g : Geometry) (how : Opening) (path two buf : List ℕ) (l : Lent) (slot generation : ℕ)
    → IsLive l slot generation → IsLive (call_p plan g (OpenWrite how) path two buf l).left slot generation

-- "remove too, also if its release fails": a remove that was not refused makes the handles of its file stale.
abbrev pub RemoveMakesStale : Type 0
RemoveMakesStale =
    (plan : List ℕ) (g : Geometry) (path two buf : List ℕ) (l : Lent) (generation : ℕ)
    → NotRefused (call_p plan g RemoveFile path two buf l).number
    → IsLive l (file_slot path l) generation → IsStale (call_p plan g RemoveFile path two buf l).left (file_slot path l) generation

module _ (plan : List ℕ) (g : Geometry) (from to : List ℕ) (l : Lent) where
  -- A rename's own header: the new path and the next generation, with the file's length.
  abbrev pub own_header : List ℕ
  own_header = encoded (bound_header (length to) (len_of (at (pool_in l).rows (file_slot from l))) (pool_in l).counter) to

  -- The device after the rename's own put, which is its first: the header written and flushed.
  abbrev pub own_put : Dev
  own_put = put_m plan g (file_slot from l) own_header l.dev

-- "a rename between different paths whose own header was written and flushed makes the handles of `from` and of the old `to` stale, also if
-- the target's release fails": its number may be 10 or 11. Between equal paths it gives 0 and changes nothing, and a refused one makes no
-- put.
abbrev pub RenameMakesStale : Type 0
RenameMakesStale =
    (plan : List ℕ) (g : Geometry) (from to buf : List ℕ) (l : Lent) (slot generation : ℕ)
    → NotRefused (call_p plan g Rename from to buf l).number → same_path from to ≡ false → fine_m (own_put plan g from to l) ≡ true
    → (slot ≡ file_slot from l) ⊎ (slot ≡ file_slot to l)
    → IsLive l slot generation → IsStale (call_p plan g Rename from to buf l).left slot generation

-- Of a rename between different paths that gives 0 the own header was written and flushed.
abbrev pub DoneRenameHasPut : Type 0
DoneRenameHasPut =
    (plan : List ℕ) (g : Geometry) (from to buf : List ℕ) (l : Lent) → (call_p plan g Rename from to buf l).number ≡ 0
    → same_path from to ≡ false → fine_m (own_put plan g from to l) ≡ true

-- "a rename whose own put fails leaves `from`'s live", and every other. (Nor does a refused rename change any.)
abbrev pub FailedRenameKeeps : Type 0
FailedRenameKeeps =
    (plan : List ℕ) (g : Geometry) (from to buf : List ℕ) (l : Lent) (slot generation : ℕ) → fine_m (own_put plan g from to l) ≡ false
    → IsLive l slot generation → IsLive (call_p plan g Rename from to buf l).left slot generation

-- ---- a stale handle

-- "a handle that was given out and is stale stays stale under any later calls but a mount": one call. The slot has to be held, since an
-- adoption may bind one that is not under any generation that it finds; and a mount begins its count again, so that a header which a
-- failed release left behind gives its old generation a second life (`back`, proofs/Witness.antt).
abbrev pub StaleStays : Type 0
StaleStays =
    (plan : List ℕ) (g : Geometry) (c : Call) (one two buf : List ℕ) (l : Lent) (slot generation : ℕ) → (takes_of c).mounts ≡ false
    → GivenOut l slot generation → IsStale l slot generation → IsStale (call_p plan g c one two buf l).left slot generation

-- A call to come, with all that it is lent but the pool and its device: these are as the call before it left them.
pub record Coming : Type 0 where
  pub plan : List ℕ
  pub geometry : Geometry
  pub call : Call
  pub first : List ℕ
  pub second : List ℕ
  pub buf : List ℕ

-- What they leave, one after the other.
unfoldable pub after_all : List Coming → Lent → Lent
after_all [] l = l
after_all (x ∷ xs) l = after_all xs (call_p x.plan x.geometry x.call x.first x.second x.buf l).left

-- None of them is a mount.
abbrev pub NoMount : List Coming → Type 0
NoMount [] = Unit {0}
NoMount (x ∷ xs) = ((takes_of x.call).mounts ≡ false) × NoMount xs

-- Any number of later calls. A handle that was live in the pool, and went stale in the calls xs, stays stale in the calls ys.
abbrev pub StaleForGood : Type 0
StaleForGood =
    (xs ys : List Coming) (l : Lent) (slot generation : ℕ) → IsPool l.bufs → NoMount xs → NoMount ys
    → IsLive l slot generation → IsStale (after_all xs l) slot generation → IsStale (after_all ys (after_all xs l)) slot generation
