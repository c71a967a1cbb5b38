-- Slot rows as records (01, A pool: "the slot rows are a lent run of records, one row a slot"), and the flat numbers of crate slot_rows.
use Rattle.std.specs.Prelude.{List, [], ◌∷◌, ◌++◌, ℕ, ◌+◌, ◌*◌, length, get_or, take, drop, replicate}
use Rattle.limits.specs.Limits.{row_width}
use Rattle.lists.specs.Blocks.{pad, cat}
use Rattle.slot_rows.specs.Rows.{Row, unbound, bound, mark_of}
use Rattle.slot_records.specs.declared.Slot.{Slot}

-- a row that there is not: its numbers are zero
abbrev pub none : Slot
none = record { mark = 0; path_len = 0; len = 0; generation = 0 }

-- row i
abbrev pub slot_at : List Slot → ℕ → Slot
slot_at rs i = get_or rs i none

-- the record of a row of crate slot_rows: all of the row but its path
unfoldable pub slot_of : Row → Slot
slot_of (unbound g) = record { mark = 0; path_len = 0; len = 0; generation = g }
slot_of (bound p f) = record { mark = mark_of f.dirty; path_len = length p; len = f.len; generation = f.gen }

-- ---- the flat numbers

-- mark, path length, file length, generation
unfoldable pub slot_nums : Slot → List ℕ
slot_nums r = r.mark ∷ r.path_len ∷ r.len ∷ r.generation ∷ []

-- the numbers of the rows, one row after the other
unfoldable pub nums_of : List Slot → List ℕ
nums_of rs = cat slot_nums rs

-- the record of the four numbers from i * 4 on
unfoldable pub slot_in : List ℕ → ℕ → Slot
slot_in s i = record { mark = get_or s (i * row_width) 0; path_len = get_or s (i * row_width + 1) 0; len = get_or s (i * row_width + 2) 0; generation = get_or s (i * row_width + 3) 0 }

-- the records of a run of numbers, four a record
unfoldable pub slots_of : List ℕ → List Slot
slots_of [] = []
slots_of (m ∷ []) = []
slots_of (m ∷ k ∷ []) = []
slots_of (m ∷ k ∷ n ∷ []) = []
slots_of (m ∷ k ∷ n ∷ g ∷ s) = record { mark = m; path_len = k; len = n; generation = g } ∷ slots_of s

-- a buffer with the rows' numbers over its front
unfoldable pub loaded : List Slot → List ℕ → List ℕ
loaded rs s = nums_of rs ++ drop (length rs * row_width) s

-- the rows with the numbers at a buffer's front for theirs
unfoldable pub stored : List ℕ → List Slot → List Slot
stored s rs = slots_of (take (length rs * row_width) s)

-- the numbers of at most 64 rows, zero filled
unfoldable pub flat_of : List Slot → List ℕ
flat_of rs = pad 256 (nums_of rs)

-- the rows with the first n of them zero
unfoldable pub cleared : ℕ → List Slot → List Slot
cleared n rs = replicate n none ++ drop n rs
