-- The calls by path: open_read, and 01's "Open for writing" and "Remove", with their refusals in 01's order.
use Rattle.std.specs.Prelude.{ℕ, ◌+◌, Bool, true, cond, List, eqb, ltb, length, get_or, Option, None, Some}
use Rattle.limits.specs.Limits.{max_path, last_counter}
use Rattle.device.specs.declared.Geometry.{Geometry}
use Rattle.device.specs.Device.{data_truncate_m}
use Rattle.slot_rows.specs.Rows.{File, file, bound, at, gen_of, len_of, find}
use Rattle.dir_rows.specs.Dirs.{registered}
use Rattle.pool_state.specs.State.{State}
use Rattle.pool_state.specs.Queue.{queued, unqueued, spent}
use Rattle.pool_state.specs.Changes.{with_row, with_dirs}
use Rattle.pool_steps.specs.World.{World, world}
use Rattle.pool_steps.specs.Steps.{fine_m, release_m}
use Rattle.pool_steps.specs.Outcome.{Outcome, outcome, None as Nothing, by_device}
use Rattle.inner_handle.specs.Handles.{resized_m}
use Rattle.inner_open.specs.declared.Reader.{Reader}

-- A file has this path: `find` is its slot, and no slot where there is none.
abbrev pub is_file : List ℕ → State → Bool
is_file path s = ltb (find path s.rows) (length s.rows)

-- ---- refusals that two calls share

-- "more directories to hold than directory rows" is 8, "counter + generations needed above 2^63" is 9.
unfoldable pub room_for : ℕ → List ℕ → ℕ → List (List ℕ) → ℕ → ℕ
room_for need path cap dirs counter = cond (ltb cap (length (registered dirs path))) 8 (cond (ltb last_counter (counter + need)) 9 0)

abbrev pub room : ℕ → List ℕ → State → ℕ
room need path s = room_for need path s.chosen.dir_rows s.dirs s.counter

-- ---- a file bound

-- The ancestors of a path are registered.
unfoldable pub registers : List ℕ → State → State
registers path s = with_dirs (registered s.dirs path) s

-- Slot i becomes the file of a path, whose ancestors are registered.
unfoldable pub binds : ℕ → List ℕ → File → State → State
binds i path f s = registers path (with_row i (bound path f) s)

-- ---- open_read

-- The number of the call, and the handle.
pub record ReaderTold : Type 0 where
  pub out : ℕ
  pub slot : ℕ
  pub generation : ℕ

-- The handle, or 5 where there is none.
abbrev pub reader_told : Option Reader → ReaderTold
reader_told None = record { out = 5; slot = 0; generation = 0 }
reader_told (Some r) = record { out = 0; slot = r.slot; generation = r.generation }

unfoldable pub open_read_m : List ℕ → State → ReaderTold
open_read_m path s = record {
  out = cond (is_file path s) 0 5;
  slot = cond (is_file path s) (find path s.rows) 0;
  generation = cond (is_file path s) (gen_of (at s.rows (find path s.rows))) 0;
}

-- ---- "Open for writing"

-- A handle, and the file's length.
pub record Handle : Type 0 where
  pub slot : ℕ
  pub generation : ℕ
  pub len : ℕ

abbrev pub handle : ℕ → ℕ → ℕ → Handle
handle i g n = record { slot = i; generation = g; len = n }

-- Of a refused call, all other results are zero.
abbrev pub no_handle : Handle
no_handle = handle 0 0 0

-- "Existing: keep, or truncate to 0 and mark dirty; generation stays. A device failure changes no row."
unfoldable pub reopen_m : List ℕ → Geometry → ℕ → Bool → World → Outcome Handle World
reopen_m plan g i keep w =
    let r = at w.state.rows i in
    let d = data_truncate_m plan g i 0 w.dev in
    cond keep (outcome 0 (handle i (gen_of r) (len_of r)) w)
    (outcome d.place.last (cond (fine_m d) (handle i (gen_of r) 0) no_handle) (resized_m d i 0 w.state))

-- "New: first of the queue, next generation, truncate; on failure the slot goes to the queue's end and the generation stays spent. Then
-- bound, length 0, dirty, ancestors registered."
unfoldable pub created : List ℕ → Bool → State → State
created path fine s =
    let i = get_or s.queue 0 0 in
    let t = spent (unqueued s) in
    cond fine (binds i path (file s.counter 0 true) t) (queued i t)

unfoldable pub create_m : List ℕ → Geometry → List ℕ → World → Outcome Handle World
create_m plan g path w =
    let i = get_or w.state.queue 0 0 in
    let d = data_truncate_m plan g i 0 w.dev in
    outcome d.place.last (cond (fine_m d) (handle i w.state.counter 0) no_handle) (world d (created path (fine_m d) w.state))

-- "7, 8, 9", or 0
unfoldable pub admits_new : List ℕ → State → ℕ
admits_new path s = cond (eqb (length s.queue) 0) 7 (room 1 path s)

unfoldable pub open_new_m : List ℕ → Geometry → List ℕ → World → Outcome Handle World
open_new_m plan g path w = cond (eqb (admits_new path w.state) 0) (create_m plan g path w) (outcome (admits_new path w.state) no_handle w)

-- "Open: 4, existing file, 7, 8, 9, device."
unfoldable pub open_write_m : List ℕ → Geometry → List ℕ → Bool → World → Outcome Handle World
open_write_m plan g path keep w =
    cond (ltb max_path (length path)) (outcome 4 no_handle w)
    (cond (is_file path w.state) (reopen_m plan g (find path w.state.rows) keep w) (open_new_m plan g path w))

-- ---- "Remove"

-- "Remove: 5, 9, device." "Remove unbinds even if its release fails."
unfoldable pub remove_m : List ℕ → Geometry → List ℕ → World → Outcome Nothing World
remove_m plan g path w =
    cond (is_file path w.state)
    (cond (ltb last_counter (w.state.counter + 1)) (outcome 9 tt w) (by_device (release_m plan g (find path w.state.rows) w)))
    (outcome 5 tt w)
