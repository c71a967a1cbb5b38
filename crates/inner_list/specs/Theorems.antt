-- What a listing is: its files rise in byte order of normal spelling, and so do its directories; they are the files and directories of the
-- path and no others; and what read_dir answers is one of 01's numbers.
use Rattle.std.specs.Prelude.{ℕ, ◌≡◌, refl, Bool, true, false, cond, List, [], ◌∷◌, ◌++◌, map, leb, length, drop}
use Rattle.std.proofs.Common.{arith, sym, ap, subst, ◌∙◌}
use mathlib.Core.List.Memᴰ
use Rattle.lists.specs.Distinct.{In, Distinct}
use Rattle.lists.specs.Distinct.Distinct.{more}
use Rattle.lists.specs.Runs.{range}
use Rattle.lists.specs.Sort.{All, Apart, OneWay, keep, sort, by, apart_keep}
use Rattle.lists.specs.Sorted.{Ordered, ordered_sort}
use Rattle.path.specs.Path.{is_parent, path_order}
use Rattle.path.proofs.Theorems.{same_normal}
use Rattle.slot_rows.specs.Rows.{Row, none, at, is_bound, path_of}
use Rattle.dir_rows.specs.Dirs.{Normals, has_path}
use Rattle.pool_state.specs.Numbers.{IsNumber}
use Rattle.pool_state.specs.State.{State, Valid}
use Rattle.row_order.specs.Spans.{path_before, in_order}
use Rattle.row_order.specs.InOrder.{map_sort}
use Rattle.row_order.specs.Picks.{picked_rows}
use Rattle.row_order.specs.Theorems.{path_strict, path_one_way, rows_rise}
use Rattle.inner_list.specs.Listing.{is_child, files_in, dirs_in, listing_of, listing, fitted, read_dir_m}

-- ---- the numbers

pub read_dir_number : (dir buf : List ℕ) (s : State) → IsNumber (read_dir_m dir buf s).out
unfolding read_dir_m fitted
read_dir_number dir buf s = go (has_path s.dirs dir) (leb (length (listing_of dir s)) (length buf))
  where
    go : (t u : Bool)
        → IsNumber (cond t (cond u (listing 0 (length (listing_of dir s)) (listing_of dir s ++ drop (length (listing_of dir s)) buf)) (listing 13 0 buf)) (listing 5 0 buf)).out
    go true true = omega arith
    go true false = omega arith
    go false u = omega arith

-- ---- in order

-- Rising by what they stand for, elements stand for what rises.
ordered_map : {A B : Type 0} (f : A → B) (less : A → A → Bool) (less' : B → B → Bool) → ((x y : A) → less' (f x) (f y) ≡ less x y)
    → (l : List A) → Ordered less l → Ordered less' (map f l)
ordered_map f less less' e [] o = tt
ordered_map {A} {B} f less less' e (x ∷ l) o = (mapped l o.0, ordered_map f less less' e l o.1)
  where
    mapped : (t : List A) → All (λ y. less x y ≡ true) t → All (λ y. less' (f x) y ≡ true) (map f t)
    mapped [] a = tt
    mapped (y ∷ t) a = (e x y ∙ a.0, mapped t a.1)

child_bound : (dir : List ℕ) (r : Row) → is_child dir r ≡ true → is_bound r ≡ true
unfolding is_child
child_bound dir r e = go (is_bound r) refl e
  where
    go : (t : Bool) → is_bound r ≡ t → cond t (is_parent dir (path_of r)) false ≡ true → t ≡ true
    go true h f = refl
    go false h f = f

pub files_rise : (dir : List ℕ) (s : State) → Valid s → Ordered path_before (in_order (files_in dir s))
unfolding files_in in_order path_before
files_rise dir s ok =
    let rs = s.rows in
    let path : ℕ → List ℕ = λ i. path_of (at rs i) in
    let child : ℕ → Bool = λ i. is_child dir (at rs i) in
    let o = rows_rise path child (length rs) (λ i j h k a b e. ok.slots.apart i j (child_bound dir (at rs i) a) (child_bound dir (at rs j) b) e) in
    subst (Ordered path_before)
    (map_sort path (by path_order path) path_before (λ x y. refl) (keep child (range 0 (length rs)))
    ∙ ap (sort path_before) (picked_rows (is_child dir) path_of none rs))
    (ordered_map path (by path_order path) path_before (λ x y. refl) (sort (by path_order path) (keep child (range 0 (length rs)))) o)

all_in : {A : Type 0} (P : A → Type 0) (l : List A) → ((x : A) → In x l → P x) → All P l
all_in P [] h = tt
all_in P (x ∷ l) h = (h x (Memᴰ.head refl), all_in P l (λ y m. h y (Memᴰ.tail m)))

dirs_apart : (ds : List (List ℕ)) → Normals ds → Distinct ds → Apart path_before ds
dirs_apart [] n d = tt
dirs_apart (x ∷ ds) n (more f d) = (
  all_in (OneWay path_before x) ds
      (λ y m. path_one_way x y
      (λ e. f (subst (λ (z : List ℕ). In z ds) (sym (sym (n x (Memᴰ.head refl)) ∙ (same_normal x y).1 e ∙ n y (Memᴰ.tail m))) m))),
  dirs_apart ds (λ y m. n y (Memᴰ.tail m)) d,
)

pub dirs_rise : (dir : List ℕ) (s : State) → Valid s → Ordered path_before (in_order (dirs_in dir s))
unfolding dirs_in in_order
dirs_rise dir s ok =
    ordered_sort path_before path_strict (keep (is_parent dir) s.dirs)
    (apart_keep (is_parent dir) path_before s.dirs (dirs_apart s.dirs ok.directories.dirs.normals ok.directories.dirs.once))
