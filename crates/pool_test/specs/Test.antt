-- Whether lent buffers are a pool (01, "A pool"), as a test: sizes first, then that the buffers hold nothing but their view, then what the view
-- says. That it is right is `PoolExactly`, at the end.
use Rattle.std.specs.Prelude.{ℕ, ◌+◌, ◌-◌, ◌*◌, ◌≡◌, ◌↔◌, List, [], ◌∷◌, Bool, true, not, cond, ◌&&◌, eqb, ltb, leb, length, take, drop, get_or}
use Rattle.limits.specs.Limits.{max_path, row_width, dir_width, last_counter}
use Rattle.lists.specs.Runs.{all_of, any_of}
use Rattle.lists.specs.Same.{same_bytes}
use Rattle.le.specs.Le.{le, field}
use Rattle.text.specs.Text.{is_text}
use Rattle.text.specs.Greatest.{greatest}
use Rattle.path.specs.Path.{normal, ancestors}
use Rattle.slot_rows.specs.Rows.{Row, at, is_bound, path_of, gen_of, find, rows_of}
use Rattle.dir_rows.specs.Dirs.{has_path}
use Rattle.dir_rows.specs.Rows.{dir_at, dirs_of}
use Rattle.pool_state.specs.declared.Pool.{Pool}
use Rattle.pool_state.specs.State.{Bufs, IsPool}

-- ---- sizes

-- The counts are those of a pool, and the buffers are as long as the record says. A record's queue has 64 cells by its type.
unfoldable pub sizes_ok : Pool → ℕ → ℕ → ℕ → Bool
sizes_ok q l n d =
    leb q.chosen.rows 64 && (leb q.chosen.dir_rows 256
    && (leb q.held q.chosen.rows && (leb q.dirs q.chosen.dir_rows && (leb q.free 64
    && (leb 1 q.counter && (leb q.counter last_counter
    && (eqb l (q.chosen.rows * row_width) && (eqb n (q.chosen.rows * max_path) && (eqb d (q.chosen.dir_rows * dir_width) && eqb (length q.queue) 64)))))))))

-- ---- nothing but the view

-- Nothing but zeros.
unfoldable pub is_zero : List ℕ → Bool
is_zero l = eqb (greatest l) 0

-- The part of l from a up to e.
abbrev pub cut_out : List ℕ → ℕ → ℕ → List ℕ
cut_out l a e = take (e - a) (drop a l)

-- Rows past the counts are zero, and so are cells past the queue.
unfoldable pub rest_ok : Bufs → Bool
rest_ok b =
    is_zero (cut_out b.nums (b.pool.held * row_width) (length b.nums))
    && (is_zero (cut_out b.names (b.pool.held * max_path) (length b.names))
    && (is_zero (cut_out b.dirs (b.pool.dirs * dir_width) (length b.dirs))
    && is_zero (cut_out b.pool.queue b.pool.free 64)))

-- An unbound row has no path and no length.
unfoldable pub bare_ok : ℕ → ℕ → ℕ → Bool
bare_ok m k n = cond (eqb m 0) (eqb k 0 && eqb n 0) true

-- Slot row i, of mark m, path length k and file length n, is the row of some slot: the mark is 0, 1 or 2, and the name is zero behind the path.
unfoldable pub row_fits : List ℕ → List ℕ → ℕ → Bool
row_fits l s i =
    leb (get_or l (i * row_width) 0) 2
    && (leb (get_or l (i * row_width + 1) 0) max_path
    && (bare_ok (get_or l (i * row_width) 0) (get_or l (i * row_width + 1) 0) (get_or l (i * row_width + 2) 0)
    && is_zero (cut_out s (i * max_path + get_or l (i * row_width + 1) 0) (i * max_path + max_path))))

-- Directory row j is the row of some directory: a length in two bytes, and zeros behind the spelling.
unfoldable pub dir_fits : List ℕ → ℕ → Bool
dir_fits b j =
    same_bytes (le 2 (field b (j * dir_width) 2)) (take 2 (drop (j * dir_width) b))
    && (leb (field b (j * dir_width) 2) max_path && is_zero (cut_out b (j * dir_width + 2 + field b (j * dir_width) 2) (j * dir_width + dir_width)))

-- ---- what the view says

-- No other row before i is bound to the path of the bound row i.
unfoldable pub first_ok : List Row → ℕ → Bool
first_ok rs i = cond (is_bound (at rs i)) (eqb (find (path_of (at rs i)) rs) i) true

-- Row i is below the counter c, its path is text and held by no other.
unfoldable pub row_ok : ℕ → List Row → ℕ → Bool
row_ok c rs i = ltb (gen_of (at rs i)) c && (is_text (path_of (at rs i)) && first_ok rs i)

-- Number j of l is x; one of the first k numbers is.
unfoldable pub is_at : List ℕ → ℕ → ℕ → Bool
is_at l x j = eqb (get_or l j 0) x

abbrev pub has_num : List ℕ → ℕ → ℕ → Bool
has_num l k x = any_of (is_at l x) 0 k

-- Cell k of the queue is an unbound slot that no cell before it is.
unfoldable pub cell_ok : List Row → List ℕ → ℕ → Bool
cell_ok rs q k =
    ltb (get_or q k 0) (length rs) && (not (is_bound (at rs (get_or q k 0))) && not (has_num q k (get_or q k 0)))

-- The nearest ancestor, if there is one, is a directory. Then all of them are.
unfoldable pub first_held : List (List ℕ) → List (List ℕ) → Bool
first_held ds [] = true
first_held ds (a ∷ xs) = has_path ds a

abbrev pub up_held : List (List ℕ) → List ℕ → Bool
up_held ds d = first_held ds (ancestors d)

-- Directory j of m is normal, none before it is the same path, and its nearest ancestor is a directory.
unfoldable pub dir_ok : List ℕ → ℕ → ℕ → Bool
dir_ok b m j =
    same_bytes (normal (dir_at b j)) (dir_at b j) && (not (has_path (dirs_of b j) (dir_at b j)) && up_held (dirs_of b m) (dir_at b j))

-- ---- the whole

unfoldable pub fits_ok : Bufs → Bool
fits_ok b = all_of (row_fits b.nums b.names) 0 b.pool.held && all_of (dir_fits b.dirs) 0 b.pool.dirs

unfoldable pub view_ok : Bufs → Bool
view_ok b =
    all_of (row_ok b.pool.counter (rows_of b.nums b.names b.pool.held)) 0 b.pool.held
    && (all_of (cell_ok (rows_of b.nums b.names b.pool.held) b.pool.queue) 0 b.pool.free
    && all_of (dir_ok b.dirs b.pool.dirs) 0 b.pool.dirs)

unfoldable pub is_pool : Bufs → Bool
is_pool b = sizes_ok b.pool (length b.nums) (length b.names) (length b.dirs) && (rest_ok b && (fits_ok b && view_ok b))

-- The test says exactly what a pool is, for any record and any buffers (`pool_exactly`, proofs/Exactly.antt).
abbrev pub PoolExactly : Type 0
PoolExactly = (b : Bufs) → is_pool b ≡ true ↔ IsPool b
