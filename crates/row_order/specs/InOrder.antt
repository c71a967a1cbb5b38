-- What the crates above use of the order: it is total, the sort keeps what it is given, and a list goes through it as its paths do.
use Rattle.std.specs.Prelude.{ℕ, zero, suc, ◌<◌, ◌≡◌, Bool, length, get_or, drop}
use Rattle.std.proofs.Common.{arith, ◌∙◌}
use Rattle.std.proofs.Math.Path.{refl, ap}
use Rattle.std.proofs.Math.Bool.{true, false, cond}
use mathlib.Core.List.{List, [], ◌∷◌, map}
use Rattle.lists.specs.Order.{byte_order, byte_orders}
use Rattle.lists.specs.Sort.{Strict, insert, sort, all_sort, by_strict}
use Rattle.path.specs.Path.{normal, path_order}
use Rattle.path.proofs.Theorems.{order_ranks}
use Rattle.row_order.specs.Spans.{spelled, SpanInside, AllInside, span_before, path_before, in_order}
use Rattle.row_order.specs.Risen.{Levels, by_levels}

-- ---- the order

pub before_strict : (b : List ℕ) → Strict (span_before b)
unfolding span_before
before_strict b = by_strict path_order (spelled b) order_ranks

pub before_levels : (b : List ℕ) → Levels (span_before b)
unfolding span_before path_order
before_levels b = by_levels byte_order (λ (x : ℕ). normal (spelled b x)) byte_orders

-- ---- the sort

length_insert : {A : Type 0} (less : A → A → Bool) (x : A) (s : List A) → length (insert less x s) ≡ suc (length s)
unfolding insert
length_insert less x [] = refl
length_insert {A} less x (y ∷ ys) = go (less x y) (length_insert less x ys)
  where
    go : (t : Bool) → length (insert less x ys) ≡ suc (length ys) → length (cond t (x ∷ y ∷ ys) (y ∷ insert less x ys)) ≡ suc (suc (length ys))
    go true h = refl
    go false h = ap suc h

pub length_sorted : {A : Type 0} (less : A → A → Bool) (l : List A) → length (sort less l) ≡ length l
unfolding sort
length_sorted less [] = refl
length_sorted less (x ∷ xs) = length_insert less x (sort less xs) ∙ ap suc (length_sorted less xs)

-- Sorted by what they stand for, elements are in the order of what they stand for.
module _ {A B : Type 0} (f : A → B) (less : A → A → Bool) (less' : B → B → Bool) (e : (x y : A) → less' (f x) (f y) ≡ less x y) where
  map_insert : (x : A) (s : List A) → map f (insert less x s) ≡ insert less' (f x) (map f s)
  unfolding insert
  map_insert x [] = refl
  map_insert x (y ∷ ys) = rw (e x y) (go (less x y) (map_insert x ys))
    where
      go : (t : Bool) → map f (insert less x ys) ≡ insert less' (f x) (map f ys)
          → map f (cond t (x ∷ y ∷ ys) (y ∷ insert less x ys)) ≡ cond t (f x ∷ f y ∷ map f ys) (f y ∷ insert less' (f x) (map f ys))
      go true h = refl
      go false h = ap (λ (l : List B). f y ∷ l) h

  pub map_sort : (l : List A) → map f (sort less l) ≡ sort less' (map f l)
  unfolding sort
  map_sort [] = refl
  map_sort (x ∷ xs) = map_insert x (sort less xs) ∙ ap (insert less' (f x)) (map_sort xs)

-- What the parts spell, once they are sorted, is in order.
pub spelled_sort : (b xs : List ℕ) → map (spelled b) (sort (span_before b) xs) ≡ in_order (map (spelled b) xs)
unfolding span_before in_order path_before
spelled_sort b xs = map_sort (spelled b) (span_before b) path_before (λ x y. refl) xs

-- ---- parts that lie inside

pub inside_get : (b xs : List ℕ) (k : ℕ) → AllInside b xs → k < length xs → SpanInside b (get_or xs k 0)
unfolding AllInside
inside_get b [] k a h = absurd (omega arith)
inside_get b (x ∷ xs) zero a h = a.0
inside_get b (x ∷ xs) (suc k) a h = inside_get b xs k a.1 (omega arith)

pub inside_drop : (b xs : List ℕ) (k : ℕ) → AllInside b xs → AllInside b (drop k xs)
unfolding AllInside
inside_drop b xs zero a = a
inside_drop b [] (suc k) a = tt
inside_drop b (x ∷ xs) (suc k) a = inside_drop b xs k a.1

pub inside_more : (b : List ℕ) (x : ℕ) (xs : List ℕ) → SpanInside b x → AllInside b xs → AllInside b (x ∷ xs)
unfolding AllInside
inside_more b x xs h a = (h, a)

pub inside_sort : (b xs : List ℕ) → AllInside b xs → AllInside b (sort (span_before b) xs)
unfolding AllInside
inside_sort b xs a = all_sort (span_before b) (SpanInside b) xs a
