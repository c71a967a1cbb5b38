-- The tables that a script ends with, in the order of docs/EXPORTS.md. All numbers are little-endian: `le 1` is a u8, `le 2` a u16 and so on.
use Rattle.std.specs.Prelude.{ℕ, ◌+◌, Bool, true, false, cond, List, [], ◌∷◌, ◌++◌, eqb, length}
use Rattle.lists.specs.Blocks.{cat}
use Rattle.lists.specs.Runs.{range}
use Rattle.le.specs.Le.{le}
use Rattle.row_order.specs.Spans.{in_order}
use Rattle.slot_rows.specs.Rows.{Row, at, is_bound, path_of, gen_of, len_of, is_dirty}
use Rattle.device.specs.Device.{Dev}
use Rattle.pool_state.specs.State.{State, Bufs, view}
use Rattle.pool_test.specs.Test.{is_pool}
use Rattle.output.specs.Writer.{run_of}

-- ---- slot rows

-- x is one of the numbers.
unfoldable pub is_in : ℕ → List ℕ → Bool
is_in x [] = false
is_in x (y ∷ s) = cond (eqb y x) true (is_in x s)

-- What a mark adds.
abbrev pub weight : Bool → ℕ → ℕ
weight b x = cond b x 0

-- "u8 marks (1 bound, 2 in the free queue, 4 dirty)"
unfoldable pub marks_of : Bool → Bool → Bool → ℕ
marks_of bound queued dirty = weight bound 1 + weight queued 2 + weight dirty 4

-- of row i
abbrev pub marks_at : List ℕ → List Row → ℕ → ℕ
marks_at queue rs i = marks_of (is_bound (at rs i)) (is_in i queue) (is_dirty (at rs i))

-- "generation u64, length u64, run path as given (empty if unbound)"
unfoldable pub row_shown : List ℕ → List Row → ℕ → List ℕ
row_shown queue rs i =
    le 1 (marks_at queue rs i) ++ le 8 (gen_of (at rs i)) ++ le 8 (len_of (at rs i)) ++ run_of (path_of (at rs i))

-- ---- directories

-- "u16, then that many runs": "directories, normal spelling, in byte order"
unfoldable pub dirs_shown : List (List ℕ) → List ℕ
dirs_shown ds = le 2 (length ds) ++ cat run_of (in_order ds)

-- ---- the record

-- "u64 counter", "u8 N, slots the pool holds", "N rows", "u8, then that many u8: the free queue from its front", and the directories.
unfoldable pub pool_shown : State → List ℕ
pool_shown s =
    le 8 s.counter ++ le 1 (length s.rows) ++ cat (row_shown s.queue s.rows) (range 0 (length s.rows))
    ++ le 1 (length s.queue) ++ s.queue ++ dirs_shown s.dirs

-- "u8 1 if the record is a pool". "If there is no pool the rows, queue and directories have count 0", and the counter is 0.
unfoldable pub record_shown : Bufs → List ℕ
record_shown b = cond (is_pool b) (le 1 1 ++ pool_shown (view b)) (le 1 0 ++ le 8 0 ++ le 1 0 ++ le 1 0 ++ le 2 0)

-- ---- the device

-- "u32 the plan's place", "D x u32 physical lengths", "D x slot size bytes: the device"
unfoldable pub device_shown : Dev → List ℕ
device_shown d = le 4 d.place.at ++ cat (le 4) d.phys ++ d.bytes
