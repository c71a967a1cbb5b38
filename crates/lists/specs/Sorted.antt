-- What the insertion sort means: it is ordered, it has the same elements, and its kth element is the one with k below it.
use Rattle.std.specs.Prelude.{◌≡◌, ℕ, zero, suc, ◌<◌, Bool, true, false, cond, List, [], ◌∷◌, length, slice_index_or}
use Rattle.std.proofs.Math.Path.{refl, ap}
use Rattle.std.proofs.Common.{sym, ◌∙◌, arith}
use Rattle.lists.specs.Sort.{keep, insert, sort, Strict, All, all_map, all_sort, all_insert, Apart, OneWay, irrefl}

module _ {A : Type 0} (less : A → A → Bool) where
  -- each element is below all later ones
  abbrev pub Ordered : List A → Type 0
  Ordered [] = Unit {0}
  Ordered (x ∷ xs) = All (λ y. less x y ≡ true) xs × Ordered xs

  -- how many pass a test is the same before and after
  count_insert : (p : A → Bool) (x : A) (s : List A) → length (keep p (insert less x s)) ≡ length (keep p (x ∷ s))
  unfolding insert keep
  count_insert p x [] = refl
  count_insert p x (y ∷ ys) = go (less x y) (p x) (p y) refl (count_insert p x ys)
    where
      go : (t b d : Bool) → p x ≡ b → length (keep p (insert less x ys)) ≡ length (cond (p x) (x ∷ keep p ys) (keep p ys))
          → length (keep p (cond t (x ∷ y ∷ ys) (y ∷ insert less x ys))) ≡ length (cond (p x) (x ∷ cond (p y) (y ∷ keep p ys) (keep p ys)) (cond (p y) (y ∷ keep p ys) (keep p ys)))
      go true b d e h = refl
      go false b d e h = two (p x) (p y) h
        where
          two : (u v : Bool) → length (keep p (insert less x ys)) ≡ length (cond u (x ∷ keep p ys) (keep p ys))
              → length (cond v (y ∷ keep p (insert less x ys)) (keep p (insert less x ys))) ≡ length (cond u (x ∷ cond v (y ∷ keep p ys) (keep p ys)) (cond v (y ∷ keep p ys) (keep p ys)))
          two true true g = ap suc g
          two true false g = g
          two false true g = ap suc g
          two false false g = g

  pub count_sort : (p : A → Bool) (l : List A) → length (keep p (sort less l)) ≡ length (keep p l)
  unfolding sort keep
  count_sort p [] = refl
  count_sort p (x ∷ xs) = count_insert p x (sort less xs) ∙ go (p x) (count_sort p xs)
    where
      go : (b : Bool) → length (keep p (sort less xs)) ≡ length (keep p xs) → length (cond b (x ∷ keep p (sort less xs)) (keep p (sort less xs))) ≡ length (cond b (x ∷ keep p xs) (keep p xs))
      go true h = ap suc h
      go false h = h

  module _ (S : Strict less) where
    ordered_insert : (x : A) (s : List A) → All (OneWay less x) s → Ordered s → Ordered (insert less x s)
    unfolding insert
    ordered_insert x [] w o = (tt, tt)
    ordered_insert x (y ∷ ys) w o = go (less x y) refl (ordered_insert x ys w.1 o.1)
      where
        go : (b : Bool) → less x y ≡ b → Ordered (insert less x ys) → Ordered (cond b (x ∷ y ∷ ys) (y ∷ insert less x ys))
        go true e r = ((e, all_map (λ z q. S.chain x y z e q) ys o.0), o)
        go false e r = (all_insert less (λ z. less y z ≡ true) x ys (w.0 e) o.0, r)

    pub ordered_sort : (l : List A) → Apart less l → Ordered (sort less l)
    unfolding sort
    ordered_sort [] a = tt
    ordered_sort (x ∷ xs) a = ordered_insert x (sort less xs) (all_sort less (OneWay less x) xs a.0) (ordered_sort xs a.1)

    none_below : (x : A) (s : List A) → All (λ y. less x y ≡ true) s → length (keep (λ y. less y x) s) ≡ 0
    unfolding keep
    none_below x [] a = refl
    none_below x (y ∷ ys) a = rw (S.asym x y a.0) (none_below x ys a.1)

    all_at : (P : A → Type 0) (s : List A) (k : ℕ) (d : A) → All P s → k < length s → P (slice_index_or s k d)
    all_at P [] k d a h = absurd (omega arith)
    all_at P (x ∷ xs) zero d a h = a.0
    all_at P (x ∷ xs) (suc k) d a h = all_at P xs k d a.1 (omega arith)

    pub rank_ordered : (s : List A) (k : ℕ) (d : A) → Ordered s → k < length s → length (keep (λ y. less y (slice_index_or s k d)) s) ≡ k
    unfolding keep
    rank_ordered [] k d o h = absurd (omega arith)
    rank_ordered (x ∷ xs) zero d o h = rw (irrefl less S x) (none_below x xs o.0)
    rank_ordered (x ∷ xs) (suc k) d o h = rw (all_at (λ y. less x y ≡ true) xs k d o.0 (omega arith)) (ap suc (rank_ordered xs k d o.1 (omega arith)))

    -- the kth of the sort has exactly k elements of the list below it
    pub rank_sort : (l : List A) (k : ℕ) (d : A) → Apart less l → k < length (sort less l) → length (keep (λ y. less y (slice_index_or (sort less l) k d)) l) ≡ k
    rank_sort l k d a h = sym (count_sort (λ y. less y (slice_index_or (sort less l) k d)) l) ∙ rank_ordered (sort less l) k d (ordered_sort l a) h
