-- The steps that the pool's calls share, over a header written and flushed (`put_m` of crate device_lent): a release (01, "Release"), and the sync of one row (01, "sync").
use Rattle.std.specs.Prelude.{Option}
use Rattle.std.specs.Prelude.{ℕ, Bool, cond, List, [], length}
use Rattle.header.specs.declared.Header.{Header}
use Rattle.header.specs.Block.{free_header, bound_header, encoded, decoded}
use Rattle.device.specs.declared.Geometry.{Geometry}
use Rattle.device.specs.Device.{Dev, data_truncate_m}
use Rattle.device.specs.Calls.{block_of}
pub use Rattle.device_lent.specs.Put.{fine_m, and_then}
unfoldable pub use Rattle.device_lent.specs.Put.{put_m}
use Rattle.slot_rows.specs.Rows.{Row, unbound, at, path_of, gen_of, len_of, cleaned}
use Rattle.pool_state.specs.State.{State}
use Rattle.pool_state.specs.Queue.{queued, spent}
use Rattle.pool_state.specs.Changes.{with_row}
use Rattle.pool_steps.specs.World.{World, world}

-- ---- on the device

-- The block of a free header.
abbrev pub free_block : ℕ → List ℕ
free_block generation = encoded (free_header generation) []

-- "write the free header, flush, truncate to 0"
unfoldable pub free_m : List ℕ → Geometry → ℕ → ℕ → Dev → Dev
free_m plan g slot generation d = and_then (put_m plan g slot (free_block generation) d) (data_truncate_m plan g slot 0)

-- What a slot's header says that is read in full.
abbrev pub says : Geometry → ℕ → Dev → Option Header
says g i d = decoded (block_of g i d) (length (block_of g i d))

-- ---- on the pool

-- "Unbind under a new generation, length 0": an unbound row has length 0 and is clean.
unfoldable pub unbinds : ℕ → State → State
unbinds i s = spent (with_row i (unbound s.counter) s)

-- ".. join the queue's end. It stops at the first failure and the slot is then neither bound nor free. Its row is clean either way."
unfoldable pub released : ℕ → Bool → State → State
released i fine s = cond fine (queued i (unbinds i s)) (unbinds i s)

-- "Release", the whole of it. The number that it came to, 0, 10 or 11, stays the last outcome.
unfoldable pub release_m : List ℕ → Geometry → ℕ → World → World
release_m plan g i w =
    let d = free_m plan g i w.state.counter w.dev in
    world d (released i (fine_m d) w.state)

-- The header of a bound row, and its block.
unfoldable pub row_header : Row → Header
row_header r = bound_header (length (path_of r)) (len_of r) (gen_of r)

abbrev pub row_block : Row → List ℕ
row_block r = encoded (row_header r) (path_of r)

-- "Sync writes and flushes a dirty header ..; success makes it clean"; a failure changes no row.
unfoldable pub sync_row_m : List ℕ → Geometry → ℕ → World → World
sync_row_m plan g i w =
    let r = at w.state.rows i in
    let d = put_m plan g i (row_block r) w.dev in
    world d (cond (fine_m d) (with_row i (cleaned r) w.state) w.state)
