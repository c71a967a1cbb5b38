-- 01's "Order: 1, 2, 3, then these": what a call refuses before anything of its own, for every call in one place.
use Rattle.std.specs.Prelude.{ℕ, ◌*◌, ◌/◌, Bool, true, false, cond, ◌&&◌, List, eqb, leb, length, replicate}
use Rattle.limits.specs.Limits.{max_path, row_width, dir_width}
use Rattle.text.specs.Text.{is_text}
use Rattle.device.specs.declared.Geometry.{Geometry}
use Rattle.device.specs.Device.{shape_b}
use Rattle.pool_state.specs.declared.Chosen.{Chosen}
use Rattle.pool_state.specs.State.{Bufs, bufs, choosing}
use Rattle.pool_test.specs.Test.{is_pool}
use Rattle.pool_steps.specs.World.{Lent}
use Rattle.mount.specs.Mount.{zero_pool}
use Rattle.calls_gate.specs.declared.Call.{Call}
use Rattle.calls_gate.specs.declared.Call.TheVariants.{Mount, Adopt, OpenWrite, OpenRead, ReadAt, WriteAt, SetLen, FileLen}
use Rattle.calls_gate.specs.declared.Call.TheVariants.{Sync, SyncDir, Rename, RemoveFile, CreateDirAll, ReadDir, Exists, Metadata}
use Rattle.calls_gate.specs.declared.Opening.{Opening}
use Rattle.calls_gate.specs.declared.Takes.{Takes}

-- ---- how a file is opened for writing

-- With what it holds kept, or truncated, and nothing else asked: every other option comes to a caller through this one.
abbrev pub opening : Bool → Opening
opening keep = record { keep = keep }

-- ---- the table

abbrev pub takes : Bool → Bool → Bool → Bool → Takes
takes m f s w = record { mounts = m; first = f; second = s; writes = w }

-- Whether it mounts; whether its first run is a path, and its second; whether it writes.
unfoldable pub takes_of : Call → Takes
takes_of (Mount slots) = takes true false false false
takes_of (Adopt slots) = takes false false false false
takes_of (OpenWrite how) = takes false true false true
takes_of OpenRead = takes false true false false
takes_of (ReadAt slot generation pos) = takes false false false false
takes_of (WriteAt slot generation pos) = takes false false false true
takes_of (SetLen slot generation len) = takes false false false true
takes_of (FileLen slot generation) = takes false false false false
takes_of (Sync slot generation) = takes false false false true
takes_of SyncDir = takes false true false true
takes_of Rename = takes false true true true
takes_of RemoveFile = takes false true false true
takes_of CreateDirAll = takes false true false true
takes_of ReadDir = takes false true false false
takes_of Exists = takes false true false false
takes_of Metadata = takes false true false false

-- ---- the tests

-- How many slot rows and directory rows the buffers are.
abbrev pub slot_rows : List ℕ → ℕ
slot_rows nums = length nums / row_width

abbrev pub dir_rows : List ℕ → ℕ
dir_rows dirs = length dirs / dir_width

-- What a mount chooses: as many rows as it is lent.
abbrev pub chosen_of : Bufs → Chosen
chosen_of b = choosing (slot_rows b.nums) (dir_rows b.dirs)

-- Row buffers of the right shape: not "more than 64 slot rows or 256 directory rows", and each buffer is so many rows long.
unfoldable pub rows_b : List ℕ → List ℕ → List ℕ → Bool
rows_b nums names dirs =
    leb (slot_rows nums) 64 && (leb (dir_rows dirs) 256
    && (eqb (length nums) (slot_rows nums * row_width) && (eqb (length names) (slot_rows nums * max_path) && eqb (length dirs) (dir_rows dirs * dir_width))))

-- "A shape is wrong if it breaks the device's first sentence above, the device has fewer slots than the pool holds"
unfoldable pub holds_pool : Geometry → Lent → Bool
holds_pool g l = shape_b g l.dev.bytes l.dev.phys && leb l.bufs.pool.held (length l.dev.phys)

-- ".. or, at mount, there are more than 64 slot rows or 256 directory rows"
unfoldable pub mountable : Geometry → Lent → Bool
mountable g l = shape_b g l.dev.bytes l.dev.phys && rows_b l.bufs.nums l.bufs.names l.bufs.dirs

-- A run is text, where it is a path.
unfoldable pub text_if : Bool → List ℕ → Bool
text_if asked path = cond asked (is_text path) true

-- Each test that a call has to pass, with the number of its refusal, in the order in which they are made; so 14 will be one more line.
-- The number of the first that fails, and 0 where there is none.
unfoldable pub refusal_of : Geometry → Call → List ℕ → List ℕ → Lent → ℕ
refusal_of g c one two l =
    cond (takes_of c).mounts (cond (mountable g l) 0 2)
    (cond (is_pool l.bufs)
    (cond (holds_pool g l)
    (cond (text_if (takes_of c).first one)
    (cond (text_if (takes_of c).second two) 0 3) 3) 2) 1)

-- ---- what it leaves: "unchanged; at mount the record and rows are zero"

abbrev pub zeroed : List ℕ → List ℕ
zeroed s = replicate (length s) 0

abbrev pub unmounted : Bufs → Bufs
unmounted b = bufs zero_pool (zeroed b.nums) (zeroed b.names) (zeroed b.dirs)

unfoldable pub refused_b : Call → Bufs → Bufs
refused_b c b = cond (takes_of c).mounts (unmounted b) b
