-- The calls on a handle, which is a slot and a generation: file_len, and 01's "Read", "Write", "set_len" and "sync". Each gives 6 where
-- the handle is not live; else the number of its device call, and 0 where it makes none.
use Rattle.std.specs.Prelude.{ℕ, ◌+◌, ◌-◌, min, max, Bool, true, false, cond, List, ◌++◌, eqb, ltb, leb, length, take, drop, Option, None, Some}
use Rattle.device.specs.declared.Geometry.{Geometry}
use Rattle.device.specs.Device.{Dev, dev, flush_m, data_read_m, data_write_m, data_truncate_m}
use Rattle.slot_rows.specs.Rows.{Row, at, is_bound, gen_of, len_of, is_dirty, resized}
use Rattle.pool_state.specs.State.{State}
use Rattle.pool_state.specs.Changes.{with_row}
use Rattle.pool_steps.specs.World.{World, world}
use Rattle.pool_steps.specs.Steps.{fine_m, sync_row_m}
use Rattle.pool_steps.specs.Outcome.{Outcome, outcome, None as Nothing, by_device}

-- Not "handle stale, or slot out of range": the slot is held, bound, and under this generation.
unfoldable pub is_live : ℕ → ℕ → List Row → Bool
is_live slot generation rs = cond (ltb slot (length rs)) (cond (is_bound (at rs slot)) (eqb (gen_of (at rs slot)) generation) false) false

-- "6, device": what the call comes to where the handle is live, and 6 with its other results zero where it is not.
abbrev pub on_handle : {R : Type 0} → ℕ → ℕ → R → World → Outcome R World → Outcome R World
on_handle slot generation zeros w o = cond (is_live slot generation w.state.rows) o (outcome 6 zeros w)

-- ---- file_len

-- The number of the call, and the file's length.
pub record Len : Type 0 where
  pub out : ℕ
  pub len : ℕ

-- The length, or 6 where there is none.
abbrev pub len_told : Option ℕ → Len
len_told None = record { out = 6; len = 0 }
len_told (Some n) = record { out = 0; len = n }

unfoldable pub file_len_m : ℕ → ℕ → State → Len
file_len_m slot generation s = record {
  out = cond (is_live slot generation s.rows) 0 6;
  len = cond (is_live slot generation s.rows) (len_of (at s.rows slot)) 0;
}

-- ---- "Read"

-- How many bytes were read, and the buffer after it.
pub record Filling : Type 0 where
  pub count : ℕ
  pub buf : List ℕ

abbrev pub filling : ℕ → List ℕ → Filling
filling n b = record { count = n; buf = b }

-- "the device reads up to the smaller of buffer and rest; bytes past the count stay"
unfoldable pub read_part : List ℕ → Geometry → ℕ → ℕ → List ℕ → World → Outcome Filling World
read_part plan g slot pos buf w =
    let want = min (length buf) (len_of (at w.state.rows slot) - pos) in
    let r = data_read_m plan g slot pos (take want buf) w.dev in
    outcome r.got.place.last (filling r.got.count (r.dst ++ drop want buf)) (world (dev w.dev.bytes w.dev.phys r.got.place) w.state)

-- "At or past the length gives 0, no device call. Else .."
unfoldable pub read_at_m : List ℕ → Geometry → ℕ → ℕ → ℕ → List ℕ → World → Outcome Filling World
read_at_m plan g slot generation pos buf w =
    on_handle slot generation (filling 0 buf) w
    (cond (leb (len_of (at w.state.rows slot)) pos) (outcome 0 (filling 0 buf) w) (read_part plan g slot pos buf w))

-- ---- "Write", "set_len"

-- "In both, 10 or 11 changes no row": the row has its new length, and is dirty, where the device call was done.
unfoldable pub resized_m : Dev → ℕ → ℕ → State → World
resized_m d i n s = world d (cond (fine_m d) (with_row i (resized n true (at s.rows i)) s) s)

-- "On success the length is at least at + bytes, also for no bytes; dirty."
unfoldable pub write_at_m : List ℕ → Geometry → ℕ → ℕ → ℕ → List ℕ → World → Outcome Nothing World
write_at_m plan g slot generation pos src w =
    on_handle slot generation tt w
    (by_device (resized_m (data_write_m plan g slot pos src w.dev) slot (max (len_of (at w.state.rows slot)) (pos + length src)) w.state))

-- "set_len truncates; on success that is the length; dirty."
unfoldable pub set_len_m : List ℕ → Geometry → ℕ → ℕ → ℕ → World → Outcome Nothing World
set_len_m plan g slot generation len w =
    on_handle slot generation tt w (by_device (resized_m (data_truncate_m plan g slot len w.dev) slot len w.state))

-- ---- "sync"

-- "Sync writes and flushes a dirty header, else only flushes; success makes it clean."
unfoldable pub sync_m : List ℕ → Geometry → ℕ → ℕ → World → Outcome Nothing World
sync_m plan g slot generation w =
    on_handle slot generation tt w
    (by_device (cond (is_dirty (at w.state.rows slot)) (sync_row_m plan g slot w) (world (flush_m plan w.dev) w.state)))
