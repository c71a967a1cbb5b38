-- Where an element goes in a list that is in order, and that the insertion sort puts it there.
use Rattle.std.specs.declared.cmp.Ordering.{Ordering}
use Rattle.std.specs.declared.cmp.Ordering.TheVariants.{Equal, Greater, Less}
use Rattle.std.specs.Prelude.{ℕ, zero, suc, ◌<◌, ◌≤◌, ◌≡◌, Bool, cond, length, get_or, take, drop}
use Rattle.std.proofs.Common.{arith, ap, ◌∙◌}
use Rattle.std.proofs.Math.Path.{refl}
use Rattle.std.proofs.Math.Bool.{true, false}
use mathlib.Core.List.{List, [], ◌∷◌, ◌++◌}
use Rattle.lists.specs.Order.{Orders, flip}
use Rattle.lists.specs.Sort.{insert, sort, All, all_map, all_insert, by, is_less}

-- The number of elements at the front that x does not come before.
unfoldable pub place : (ℕ → ℕ → Bool) → ℕ → List ℕ → ℕ
place less x [] = 0
place less x (y ∷ ys) = cond (less x y) 0 (suc (place less x ys))

-- No element comes before an earlier one.
abbrev pub Risen : {A : Type 0} → (A → A → Bool) → List A → Type 0
Risen less [] = Unit {0}
Risen less (x ∷ xs) = All (λ y. less y x ≡ false) xs × Risen less xs

-- ---- the place is where the insertion sort inserts

pub insert_place : (less : ℕ → ℕ → Bool) (x : ℕ) (s : List ℕ) → insert less x s ≡ take (place less x s) s ++ (x ∷ drop (place less x s) s)
unfolding insert place
insert_place less x [] = refl
insert_place less x (y ∷ ys) = go (less x y) (insert_place less x ys)
  where
    go : (t : Bool) → insert less x ys ≡ take (place less x ys) ys ++ (x ∷ drop (place less x ys) ys)
        → cond t (x ∷ y ∷ ys) (y ∷ insert less x ys) ≡ take (cond t 0 (suc (place less x ys))) (y ∷ ys) ++ (x ∷ drop (cond t 0 (suc (place less x ys))) (y ∷ ys))
    go true h = refl
    go false h = ap (λ (l : List ℕ). y ∷ l) h

-- The place is known by what stands before it and what stands there.
pub place_is : (less : ℕ → ℕ → Bool) (x : ℕ) (s : List ℕ) (k : ℕ) → k ≤ length s
    → ((j : ℕ) → j < k → less x (get_or s j 0) ≡ false) → (k < length s → less x (get_or s k 0) ≡ true) → k ≡ place less x s
unfolding place
place_is less x [] k h f t = omega arith
place_is less x (y ∷ ys) zero h f t = rw (t (omega arith))
place_is less x (y ∷ ys) (suc k) h f t = rw (f 0 (omega arith)) (ap suc (place_is less x ys k (omega arith) (λ j l. f (suc j) (omega arith)) (λ l. t (omega arith))))

pub place_few : (less : ℕ → ℕ → Bool) (x : ℕ) (s : List ℕ) → place less x s ≤ length s
unfolding place
place_few less x [] = omega arith
place_few less x (y ∷ ys) = go (less x y) (place_few less x ys)
  where
    go : (t : Bool) → place less x ys ≤ length ys → cond t 0 (suc (place less x ys)) ≤ suc (length ys)
    go true h = omega arith
    go false h = omega arith

-- ---- an order in which levels go together

-- What comes before y comes before all that do not come before y; and none comes before what comes before it.
pub record Levels {A : Type 0} (less : A → A → Bool) : Type 0 where
  pub asym : (x y : A) → less x y ≡ true → less y x ≡ false
  pub up : (x y z : A) → less x y ≡ true → less z y ≡ false → less x z ≡ true

-- By a key, a total order is one.
pub by_levels : {A K : Type 0} (cmp : K → K → Ordering) (key : A → K) → Orders cmp → Levels (by cmp key)
by_levels {A} {K} cmp key L = record {
  asym = λ x y e. rw (L.flips (key x) (key y), less_of (cmp (key x) (key y)) e);
  up = λ x y z e f. higher (key x) (key y) (key z) (less_of (cmp (key x) (key y)) e) (cmp (key z) (key y)) refl f;
}
  where
    less_of : (w : Ordering) → is_less w ≡ true → w ≡ Less
    less_of Less e = refl
    less_of Equal e = cc
    less_of Greater e = cc

    higher : (a b c : K) → cmp a b ≡ Less → (w : Ordering) → cmp c b ≡ w → is_less w ≡ false → is_less (cmp a c) ≡ true
    higher a b c e Less g f = cc
    higher a b c e Equal g f = rw (L.equal c b g, e)
    higher a b c e Greater g f = rw (L.chain a b c e (L.flips c b ∙ ap flip g))

module _ {A : Type 0} (less : A → A → Bool) (L : Levels less) where
  risen_insert : (x : A) (s : List A) → Risen less s → Risen less (insert less x s)
  unfolding insert
  risen_insert x [] r = (tt, tt)
  risen_insert x (y ∷ ys) r = go (less x y) refl (risen_insert x ys r.1)
    where
      go : (t : Bool) → less x y ≡ t → Risen less (insert less x ys) → Risen less (cond t (x ∷ y ∷ ys) (y ∷ insert less x ys))
      go true e h = ((L.asym x y e, all_map (λ z f. L.asym x z (L.up x y z e f)) ys r.0), r)
      go false e h = (all_insert less (λ z. less z y ≡ false) x ys e r.0, h)

  -- The sort is in order, whatever the list.
  pub risen_sort : (l : List A) → Risen less (sort less l)
  unfolding sort
  risen_sort [] = tt
  risen_sort (x ∷ xs) = risen_insert x (sort less xs) (risen_sort xs)

  -- In order, what x comes before goes on to the end.
  pub risen_up : (x : A) (s : List A) (d : A) (i j : ℕ) → Risen less s → i ≤ j → j < length s → less x (get_or s i d) ≡ true → less x (get_or s j d) ≡ true
  risen_up x [] d i j r h k e = absurd (omega arith)
  risen_up x (y ∷ ys) d zero zero r h k e = e
  risen_up x (y ∷ ys) d zero (suc j) r h k e = L.up x y (get_or ys j d) e (all_get ys j r.0 (omega arith))
    where
      all_get : (l : List A) (k : ℕ) → All (λ z. less z y ≡ false) l → k < length l → less (get_or l k d) y ≡ false
      all_get [] k a h = absurd (omega arith)
      all_get (z ∷ l) zero a h = a.0
      all_get (z ∷ l) (suc k) a h = all_get l k a.1 (omega arith)
  risen_up x (y ∷ ys) d (suc i) zero r h k e = absurd (omega arith)
  risen_up x (y ∷ ys) d (suc i) (suc j) r h k e = risen_up x ys d i j r.1 (omega arith) (omega arith) e
