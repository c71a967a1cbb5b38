-- What `dump` prints: 01, "The command program". 102 is `f`, 100 is `d`, 32 is a space, and 10 ends a line.
use Rattle.std.specs.Prelude.{ℕ, ◌<◌, Bool, cond, List, [], ◌∷◌, ◌++◌, length}
use Rattle.lists.specs.Runs.{range}
use Rattle.lists.specs.Blocks.{cat}
use Rattle.lists.specs.Sort.{All, keep, sort}
use Rattle.slot_rows.specs.Rows.{Row, at, is_bound, path_of, gen_of, len_of, is_dirty}
use Rattle.pool_state.specs.State.{State, Bufs, view}
use Rattle.pool_test.specs.Test.{is_pool}
use Rattle.row_order.specs.Spans.{slot_of, file_before, in_order}
use Rattle.line_answers.specs.Answers.{spaced, no_text}

-- A path at a line's end.
unfoldable pub path_end : List ℕ → List ℕ
path_end p = 32 ∷ (p ++ (10 ∷ []))

-- A dirty file has 1.
abbrev pub bit_of : Bool → ℕ
bit_of d = cond d 1 0

-- "`f SLOT GEN LEN DIRTY PATH`", of the file in slot i
unfoldable pub file_numbers : ℕ → ℕ → ℕ → ℕ → List ℕ
file_numbers i generation len dirty = (102 ∷ []) ++ (spaced i ++ (spaced generation ++ (spaced len ++ spaced dirty)))

unfoldable pub file_line : List Row → ℕ → List ℕ
file_line rs i = let r = at rs i in file_numbers i (gen_of r) (len_of r) (bit_of (is_dirty r)) ++ path_end (path_of r)

-- "`d PATH`"
unfoldable pub dir_line : List ℕ → List ℕ
dir_line d = 100 ∷ path_end d

-- "`free COUNT`"
unfoldable pub free_line : ℕ → List ℕ
free_line n = (102 ∷ 114 ∷ 101 ∷ 101 ∷ []) ++ (spaced n ++ (10 ∷ []))

-- The slots of all files, "in byte order of normal spelling".
unfoldable pub files_of : List Row → List ℕ
files_of rs = sort (file_before rs) (keep (λ (i : ℕ). is_bound (at rs i)) (range 0 (length rs)))

unfoldable pub files_text : List Row → List ℕ
files_text rs = cat (file_line rs) (files_of rs)

-- "then directories in the same order"
unfoldable pub dirs_text : List (List ℕ) → List ℕ
dirs_text ds = cat dir_line (in_order ds)

-- Files, "then directories .., then `free COUNT`"
unfoldable pub dump_text : State → List ℕ
dump_text s = files_text s.rows ++ (dirs_text s.dirs ++ free_line (length s.queue))

-- A record that is no pool is refused as in any call.
unfoldable pub dump_answer : Bufs → List ℕ
dump_answer b = cond (is_pool b) (dump_text (view b)) (no_text 1)

-- ---- spans of files, as they are printed

-- The slot of each is one of the first n.
unfoldable pub SlotsBelow : ℕ → List ℕ → Type 0
SlotsBelow n xs = All (λ x. slot_of x < n) xs
