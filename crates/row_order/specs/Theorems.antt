-- What the order means: rows whose paths differ come out rising, and they are the rows that went in; parts of rows are sorted as the rows are.
use Rattle.std.specs.Prelude.{ℕ, ◌+◌, ◌*◌, ◌<◌, ◌≤◌, ◌≡◌, Bool, true, List, map, length}
use Rattle.std.proofs.Common.{arith, sym}
use Rattle.limits.specs.Limits.{dir_width}
use Rattle.lists.specs.Runs.{range}
use Rattle.lists.specs.Sort.{keep, sort, by, Strict, OneWay, by_strict, by_total, apart_range}
use Rattle.lists.specs.Sorted.{Ordered, ordered_sort, count_sort}
use Rattle.path.specs.Path.{components, path_order}
use Rattle.path.proofs.Theorems.{same_path_lem, order_ranks, order_equal}
use Rattle.slot_rows.specs.Rows.{rows_of, Flat}
use Rattle.dir_rows.specs.Rows.{dirs_of}
use Rattle.row_order.specs.Spans.{path_before, in_order, span_before, file_span, dir_span, file_before, dir_before}
use Rattle.row_order.specs.InOrder.{map_sort}
use Rattle.row_order.specs.Picks.{file_spelled, dir_spelled}

-- The order of paths is strict, and of two that are not equal one comes before the other.
pub path_strict : Strict path_before
unfolding path_before
path_strict = by_strict path_order (λ (p : List ℕ). p) order_ranks

pub path_one_way : (a b : List ℕ) → (components a ≡ components b → ⊥) → OneWay path_before a b
unfolding path_before
path_one_way a b h = by_total path_order (λ (p : List ℕ). p) order_ranks a b (λ e. h ((same_path_lem a b).0 ((order_equal a b).0 e)))

-- What is put in order has as many that pass any test as before: it is the same paths.
pub in_order_same : (p : List ℕ → Bool) (ps : List (List ℕ)) → length (keep p (in_order ps)) ≡ length (keep p ps)
unfolding in_order
in_order_same p ps = count_sort path_before p ps

-- Rows that are picked by number, no two of one path, come out rising.
module _ (path : ℕ → List ℕ) (p : ℕ → Bool) (n : ℕ)
    (apart : (i j : ℕ) → i < n → j < n → p i ≡ true → p j ≡ true → components (path i) ≡ components (path j) → i ≡ j) where
  pub rows_rise : Ordered (by path_order path) (sort (by path_order path) (keep p (range 0 n)))
  rows_rise = ordered_sort (by path_order path) (by_strict path_order path order_ranks) (keep p (range 0 n)) (apart_range (by path_order path) p 0 n one_way)
    where
      one_way : (x y : ℕ) → x < y → y < 0 + n → p x ≡ true → p y ≡ true → OneWay (by path_order path) x y
      one_way x y h k a b =
          by_total path_order path order_ranks x y
          (λ e. let z = apart x y (omega arith) (omega arith) a b ((same_path_lem (path x) (path y)).0 ((order_equal (path x) (path y)).0 e)) in omega arith)

-- Parts of slot rows are sorted as the rows are,
pub files_sorted : (cap n : ℕ) (l s : List ℕ) → Flat cap n l s → (is : List ℕ)
    → sort (span_before s) (map (file_span (rows_of l s n)) is) ≡ map (file_span (rows_of l s n)) (sort (file_before (rows_of l s n)) is)
unfolding span_before file_before
files_sorted cap n l s F is =
    let rs = rows_of l s n in
    sym (map_sort (file_span rs) (file_before rs) (span_before s) (λ x y. rw (file_spelled cap n l s F x, file_spelled cap n l s F y)) is)

-- and those of directory rows too.
pub dirs_sorted : (m : ℕ) (b : List ℕ) → m * dir_width ≤ length b → (js : List ℕ)
    → sort (span_before b) (map (dir_span (dirs_of b m)) js) ≡ map (dir_span (dirs_of b m)) (sort (dir_before (dirs_of b m)) js)
unfolding span_before dir_before
dirs_sorted m b h js =
    let ds = dirs_of b m in
    sym (map_sort (dir_span ds) (dir_before ds) (span_before b) (λ x y. rw (dir_spelled m b h x, dir_spelled m b h y)) js)
