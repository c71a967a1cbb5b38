-- What a mount makes of the rows that it has staged, in the words of survey's Staged: 01, "Mount, adopt". A new slot's row is bound where its
-- header is a claim, and zero where not.
use Rattle.std.specs.Prelude.{ℕ, ◌+◌, ◌≤◌, ◌≡◌, cond, Option, None, Some, List, [], ◌∷◌, leb, ltb, length, take, drop}
use Rattle.limits.specs.Limits.{last_counter}
use Rattle.lists.specs.Lends.{Run}
use Rattle.slot_rows.specs.Rows.{Row, rows_of, flat_nums, flat_names}
use Rattle.dir_rows.specs.Rows.{dirs_of, flat_dirs}
use Rattle.mount_survey.specs.Staged.{claimed}
use Rattle.pool_state.specs.declared.Pool.{Pool}
use Rattle.pool_state.specs.Queue.{pushed}

-- How many the directories ds are, if cap rows hold them; else none, and 8 is due.
unfoldable pub answered : ℕ → List (List ℕ) → Option ℕ
answered cap ds = cond (leb (length ds) cap) (Some (length ds)) None

-- The buffer then: it holds them, or is as it was.
unfoldable pub kept : ℕ → List (List ℕ) → List ℕ → List ℕ
kept cap ds b = cond (leb (length ds) cap) (flat_dirs cap ds) b

-- 8, "more directories to hold than directory rows"; 9, "counter + generations needed above 2^63", which is one for each of k losers; or 0.
unfoldable pub refusal : ℕ → List (List ℕ) → ℕ → ℕ → ℕ
refusal cap ds counter k = cond (ltb cap (length ds)) 8 (cond (ltb last_counter (counter + k)) 9 0)

-- The three row buffers.
pub record Three : Type 0 where
  pub nums : List ℕ
  pub names : List ℕ
  pub dirs : List ℕ

abbrev pub three : List ℕ → List ℕ → List ℕ → Three
three l n b = record { nums = l; names = n; dirs = b }

-- The row buffers that a function was lent, as they were, and as they are left.
abbrev pub three_before : Run → Run → Run → Three
three_before nums names dirs = three nums names dirs

abbrev pub three_after : Run → Run → Run → Three
three_after nums names dirs = three nums names dirs

-- The m slot rows that a function was lent, as they were.
abbrev pub rows_before : Run → Run → ℕ → List Row
rows_before nums names m = rows_of nums names m

-- The d directories that it was lent, and with the ancestors of the rows from n to m - 1.
abbrev pub claimed_before : Run → Run → Run → ℕ → ℕ → ℕ → List (List ℕ)
claimed_before nums names dirs n m d = claimed (drop n (rows_before nums names m)) (dirs_of dirs d)

-- Taken: the d directories ds lie in their buffer, and the slot rows are as staged.
pub record Taken (cap : ℕ) (ds : List (List ℕ)) (d : ℕ) (a b : Three) : Type 0 where
  pub count : d ≡ length ds
  pub few : length ds ≤ cap
  pub rows : b ≡ three a.nums a.names (flat_dirs cap ds)

-- Refused: the buffers hold the first n of the m rows, and the directories stay.
unfoldable pub unstaged : ℕ → ℕ → ℕ → Three → Three
unstaged cap n m a =
    three (flat_nums cap (take n (rows_of a.nums a.names m))) (flat_names cap (take n (rows_of a.nums a.names m))) a.dirs

-- The slots join the queue's end, one after the other.
unfoldable pub pushed_all : List ℕ → Pool → Pool
pushed_all [] q = q
pushed_all (i ∷ is) q = pushed_all is (pushed i q)

-- The record counts m slots and d directories, under this counter.
abbrev pub holding : ℕ → ℕ → ℕ → Pool → Pool
holding m d c q = record { chosen = q.chosen; held = m; dirs = d; counter = c; free = q.free; queue = q.queue }
