-- Insertion sort by a strict order, and the step that selection takes through it: a listing is defined by the sort and made by selection.
-- What the sort means is in Sorted.
use Rattle.std.specs.Prelude.{None, Option, Some}
use Rattle.std.specs.declared.cmp.Ordering.{Ordering}
use Rattle.std.specs.declared.cmp.Ordering.TheVariants.{Equal, Greater, Less}
use Rattle.std.specs.Prelude.{◌≡◌, ℕ, zero, suc, ◌+◌, ◌<◌, ◌≤◌, Bool, true, false, cond, List, [], ◌∷◌, ◌++◌, length, ◌≢◌}
use Rattle.std.proofs.Math.Path.{refl, subst}
use Rattle.std.proofs.Common.{sym, ap, ◌∙◌, arith}
use Rattle.std.proofs.Math.ListN.{length-append}
use Rattle.lists.specs.Order.{Ranks, flip}
use Rattle.lists.specs.Runs.{range}
use Rattle.lists.specs.Blocks.{cat}

-- ---- definitions

-- the elements that pass
unfoldable pub keep : {A : Type 0} → (A → Bool) → List A → List A
keep p [] = []
keep p (x ∷ xs) = cond (p x) (x ∷ keep p xs) (keep p xs)

unfoldable pub insert : {A : Type 0} → (A → A → Bool) → A → List A → List A
insert less x [] = x ∷ []
insert less x (y ∷ ys) = cond (less x y) (x ∷ y ∷ ys) (y ∷ insert less x ys)

unfoldable pub sort : {A : Type 0} → (A → A → Bool) → List A → List A
sort less [] = []
sort less (x ∷ xs) = insert less x (sort less xs)

abbrev pub first_of : List ℕ → Option ℕ
first_of [] = None
first_of (x ∷ xs) = Some x

-- the first of two comes before the second
abbrev pub is_less : Ordering → Bool
is_less Less = true
is_less Equal = false
is_less Greater = false

-- the better of what was found and x
abbrev pub better_of : (ℕ → ℕ → Bool) → Option ℕ → ℕ → Option ℕ
better_of less None x = Some x
better_of less (Some b) x = cond (less x b) (Some x) (Some b)

-- the elements after the last one that was taken
abbrev pub follows : (ℕ → ℕ → Bool) → Option ℕ → ℕ → Bool
follows less None x = true
follows less (Some j) x = less j x

abbrev pub InRange : Option ℕ → ℕ → Type 0
InRange None n = Unit {0}
InRange (Some j) n = j < n

-- the order of elements by their keys
abbrev pub by : {A K : Type 0} → (K → K → Ordering) → (A → K) → A → A → Bool
by cmp key x y = is_less (cmp (key x) (key y))

-- ---- laws
pub record Strict {A : Type 0} (less : A → A → Bool) : Type 0 where
  pub asym : (x y : A) → less x y ≡ true → less y x ≡ false
  pub chain : (x y z : A) → less x y ≡ true → less y z ≡ true → less x z ≡ true

is_less_lem : (w : Ordering) → is_less w ≡ true → w ≡ Less
is_less_lem Less e = refl
is_less_lem Equal e = cc
is_less_lem Greater e = cc

-- by a key, a total order is strict; and two elements whose keys are not equal stand one way or the other
pub by_strict : {A K : Type 0} (cmp : K → K → Ordering) (key : A → K) → Ranks cmp → Strict (by cmp key)
by_strict cmp key L = record {
  asym = λ x y e. rw (L.flips (key x) (key y), is_less_lem (cmp (key x) (key y)) e);
  chain = λ x y z p q. rw (L.chain (key x) (key y) (key z) (is_less_lem (cmp (key x) (key y)) p) (is_less_lem (cmp (key y) (key z)) q));
}

other_way : (w : Ordering) → is_less w ≡ false → (w ≢ Equal) → is_less (flip w) ≡ true
other_way Less e h = sym e
other_way Equal e h = absurd (h refl)
other_way Greater e h = refl

pub by_total : {A K : Type 0} (cmp : K → K → Ordering) (key : A → K) → Ranks cmp → (x y : A) → (cmp (key x) (key y) ≢ Equal) → by cmp key x y ≡ false → by cmp key y x ≡ true
by_total cmp key L x y h e = rw (L.flips (key x) (key y)) (other_way (cmp (key x) (key y)) e h)

abbrev pub All : {A : Type 0} → (A → Type 0) → List A → Type 0
All P [] = Unit {0}
All P (x ∷ xs) = P x × All P xs

pub all_map : {A : Type 0} {P Q : A → Type 0} → ((x : A) → P x → Q x) → (l : List A) → All P l → All Q l
all_map f [] a = tt
all_map f (x ∷ xs) a = (f x a.0, all_map f xs a.1)

-- what two elements of a list without doubles are to each other
abbrev pub OneWay : {A : Type 0} → (A → A → Bool) → A → A → Type 0
OneWay less x y = less x y ≡ false → less y x ≡ true

-- no element is level with a later one
abbrev pub Apart : {A : Type 0} → (A → A → Bool) → List A → Type 0
Apart less [] = Unit {0}
Apart less (x ∷ xs) = All (OneWay less x) xs × Apart less xs

-- ---- keep
module _ {A : Type 0} (p : A → Bool) where
  pub keep_yes : (x : A) (xs : List A) → p x ≡ true → keep p (x ∷ xs) ≡ x ∷ keep p xs
  unfolding keep
  keep_yes x xs e = rw e

  pub keep_no : (x : A) (xs : List A) → p x ≡ false → keep p (x ∷ xs) ≡ keep p xs
  unfolding keep
  keep_no x xs e = rw e

  pub keep_all : (xs : List A) → All (λ x. p x ≡ true) xs → keep p xs ≡ xs
  unfolding keep
  keep_all [] a = refl
  keep_all (x ∷ xs) a = rw (a.0, keep_all xs a.1)

  pub all_keep : (P : A → Type 0) (xs : List A) → All P xs → All P (keep p xs)
  unfolding keep
  all_keep P [] a = tt
  all_keep P (x ∷ xs) a = go (p x) (all_keep P xs a.1)
    where
      go : (b : Bool) → All P (keep p xs) → All P (cond b (x ∷ keep p xs) (keep p xs))
      go true r = (a.0, r)
      go false r = r

  pub apart_keep : (less : A → A → Bool) (xs : List A) → Apart less xs → Apart less (keep p xs)
  unfolding keep
  apart_keep less [] a = tt
  apart_keep less (x ∷ xs) a = go (p x) (apart_keep less xs a.1)
    where
      go : (b : Bool) → Apart less (keep p xs) → Apart less (cond b (x ∷ keep p xs) (keep p xs))
      go true r = (all_keep (OneWay less x) xs a.0, r)
      go false r = r

  -- a stronger test after a weaker one
  pub keep_keep : (q : A → Bool) → ((x : A) → q x ≡ true → p x ≡ true) → (xs : List A) → keep q (keep p xs) ≡ keep q xs
  unfolding keep
  keep_keep q h [] = refl
  keep_keep q h (x ∷ xs) = go (p x) (q x) refl refl (keep_keep q h xs)
    where
      go : (b d : Bool) → p x ≡ b → q x ≡ d → keep q (keep p xs) ≡ keep q xs → keep q (cond b (x ∷ keep p xs) (keep p xs)) ≡ cond d (x ∷ keep q xs) (keep q xs)
      go true true s t r = rw (t, r)
      go true false s t r = rw (t, r)
      go false true s t r = let u = h x t in cc
      go false false s t r = r

  -- what is kept passes
  pub kept_pass : (xs : List A) → All (λ x. p x ≡ true) (keep p xs)
  unfolding keep
  kept_pass [] = tt
  kept_pass (x ∷ xs) = go (p x) refl (kept_pass xs)
    where
      go : (b : Bool) → p x ≡ b → All (λ x. p x ≡ true) (keep p xs) → All (λ x. p x ≡ true) (cond b (x ∷ keep p xs) (keep p xs))
      go true e r = (e, r)
      go false e r = r

-- ---- sort
module _ {A : Type 0} (less : A → A → Bool) where
  pub all_insert : (P : A → Type 0) (x : A) (s : List A) → P x → All P s → All P (insert less x s)
  unfolding insert
  all_insert P x [] h a = (h, tt)
  all_insert P x (y ∷ ys) h a = go (less x y) (all_insert P x ys h a.1)
    where
      go : (b : Bool) → All P (insert less x ys) → All P (cond b (x ∷ y ∷ ys) (y ∷ insert less x ys))
      go true r = (h, a)
      go false r = (a.0, r)

  pub all_sort : (P : A → Type 0) (l : List A) → All P l → All P (sort less l)
  unfolding sort
  all_sort P [] a = tt
  all_sort P (x ∷ xs) a = all_insert P x (sort less xs) a.0 (all_sort P xs a.1)

  -- where x is below all of s, it goes to the front
  insert_front : (x : A) (s : List A) → All (λ y. less x y ≡ true) s → insert less x s ≡ x ∷ s
  unfolding insert
  insert_front x [] a = refl
  insert_front x (y ∷ ys) a = rw a.0

  -- m stands in l once, and is below all others of l
  pub data Least (m : A) : List A → Type 0 where
    here : {xs : List A} → All (λ y. less m y ≡ true) xs → Least m (m ∷ xs)
    there : {x : A} {xs : List A} → less m x ≡ true → Least m xs → Least m (x ∷ xs)

  module _ (S : Strict less) where
    pub irrefl : (x : A) → less x x ≡ false
    irrefl x = go (less x x) refl
      where
        go : (b : Bool) → less x x ≡ b → less x x ≡ false
        go true e = S.asym x x e
        go false e = e

    -- the least stands first, and the rest is the sort of what is above it: the selection step
    pub sort_step : (m : A) {l : List A} → Least m l → sort less l ≡ m ∷ sort less (keep (less m) l)
    unfolding sort keep insert
    sort_step m (here {xs = xs} a) = rw (irrefl m, keep_all (less m) xs a) (insert_front m (sort less xs) (all_sort (λ y. less m y ≡ true) xs a))
    sort_step m (there {x = x} {xs = xs} h r) = rw (sort_step m r, S.asym m x h, h)

    least_below : (x m : A) {l : List A} → less x m ≡ true → Least m l → All (λ y. less x y ≡ true) l
    least_below x m h (here {xs = xs} a) = (h, all_map (λ y e. S.chain x m y h e) xs a)
    least_below x m h (there {x = z} {xs = xs} g r) = (S.chain x m z h g, least_below x m h r)

    pub least_of : (P : A → Type 0) (m : A) {l : List A} → Least m l → All P l → P m
    least_of P m (here a) b = b.0
    least_of P m (there h r) b = least_of P m r b.1

    sort_nil : (P : A → Type 0) (l : List A) → sort less l ≡ [] → All P l
    unfolding sort insert
    sort_nil P [] e = tt
    sort_nil P (x ∷ xs) e = go (sort less xs) e
      where
        go : (s : List A) → insert less x s ≡ [] → All P (x ∷ xs)
        go [] q = let z : ◌≡◌ {A = ℕ} 0 1 = cc in absurd (omega arith)
        go (y ∷ ys) q = by_case (less x y) q
          where
            by_case : (b : Bool) → cond b (x ∷ y ∷ ys) (y ∷ insert less x ys) ≡ [] → All P (x ∷ xs)
            by_case true w = let z : ◌≡◌ {A = ℕ} 0 1 = cc in absurd (omega arith)
            by_case false w = let z : ◌≡◌ {A = ℕ} 0 1 = cc in absurd (omega arith)

    -- the head of the sort is the least
    pub head_least : (l : List A) (m : A) (r : List A) → Apart less l → sort less l ≡ m ∷ r → Least m l
    unfolding sort insert
    head_least [] m r a e = let z : ◌≡◌ {A = ℕ} 0 1 = cc in absurd (omega arith)
    head_least (x ∷ xs) m r a e = go (sort less xs) refl (λ m' r' q. head_least xs m' r' a.1 q) e
      where
        go : (s : List A) → sort less xs ≡ s → ((m' : A) (r' : List A) → sort less xs ≡ m' ∷ r' → Least m' xs) → insert less x s ≡ m ∷ r → Least m (x ∷ xs)
        go [] q ih e' = let k : x ≡ m = cc in subst (λ (z : A). Least z (x ∷ xs)) k (here (sort_nil (λ y. less x y ≡ true) xs q))
        go (y ∷ ys) q ih e' = by_case (less x y) refl e'
          where
            by_case : (b : Bool) → less x y ≡ b → cond b (x ∷ y ∷ ys) (y ∷ insert less x ys) ≡ m ∷ r → Least m (x ∷ xs)
            by_case true t w = let k : x ≡ m = cc in subst (λ (z : A). Least z (x ∷ xs)) k (here (least_below x y t (ih y ys q)))
            by_case false t w =
                let k : y ≡ m = cc in
                subst (λ (z : A). Least z (x ∷ xs)) k (there (least_of (OneWay less x) y (ih y ys q) a.0 t) (ih y ys q))

  -- what is laid out for the elements is as long in any order
  module _ (f : A → List ℕ) where
    length_insert : (x : A) (s : List A) → length (cat f (insert less x s)) ≡ length (f x) + length (cat f s)
    unfolding cat insert
    length_insert x [] = simp length-append
    length_insert x (y ∷ ys) = go (less x y) (length_insert x ys)
      where
        go : (b : Bool) → length (cat f (insert less x ys)) ≡ length (f x) + length (cat f ys) → length (cat f (cond b (x ∷ y ∷ ys) (y ∷ insert less x ys))) ≡ length (f x) + length (f y ++ cat f ys)
        go true h = simp length-append
        go false h = simp length-append (omega arith)

    pub length_sort : (l : List A) → length (cat f (sort less l)) ≡ length (cat f l)
    unfolding cat sort
    length_sort [] = refl
    length_sort (x ∷ xs) = simp (length_insert, length-append) (omega (arith, length_sort xs))

-- ---- numbers of rows
module _ (less : ℕ → ℕ → Bool) where
  pub first_insert : (x : ℕ) (s : List ℕ) → first_of (insert less x s) ≡ better_of less (first_of s) x
  unfolding insert
  first_insert x [] = refl
  first_insert x (y ∷ ys) = go (less x y)
    where
      go : (b : Bool) → first_of (cond b (x ∷ y ∷ ys) (y ∷ insert less x ys)) ≡ cond b (Some x) (Some y)
      go true = refl
      go false = refl

  pub better_in : (o : Option ℕ) (x n : ℕ) → InRange o n → x < n → InRange (better_of less o x) n
  better_in None x n h k = k
  better_in (Some b) x n h k = go (less x b)
    where
      go : (t : Bool) → InRange (cond t (Some x) (Some b)) n
      go true = k
      go false = h

  -- the selection step: where the first of the sort of what comes after `last` is m, the rest of the sort is the sort of what comes after m
  pub select : Strict less → (last : Option ℕ) (m : ℕ) (l : List ℕ) → Apart less l
      → first_of (sort less (keep (follows less last) l)) ≡ Some m
      → sort less (keep (follows less last) l) ≡ m ∷ sort less (keep (follows less (Some m)) l)
  select S last m l a e = go (sort less (keep (follows less last) l)) refl e
    where
      go : (s : List ℕ) → sort less (keep (follows less last) l) ≡ s → first_of s ≡ Some m → sort less (keep (follows less last) l) ≡ m ∷ sort less (keep (follows less (Some m)) l)
      go [] q f = let z : ◌≡◌ {A = ℕ} 0 1 = cc in absurd (omega arith)
      go (y ∷ ys) q f =
          let k : y ≡ m = cc in
          let q' : sort less (keep (follows less last) l) ≡ m ∷ ys = rw (← k) q in
          let w = head_least less S (keep (follows less last) l) m ys (apart_keep (follows less last) less l a) q' in
          let p : follows less last m ≡ true = least_of less S (λ x. follows less last x ≡ true) m w (kept_pass (follows less last) l) in
          sort_step less S m w ∙ ap (λ (r : List ℕ). m ∷ sort less r) (keep_keep (follows less last) (less m) (λ x h. trans_after last p x h) l)
        where
          trans_after : (o : Option ℕ) → follows less o m ≡ true → (x : ℕ) → less m x ≡ true → follows less o x ≡ true
          trans_after None g x h = refl
          trans_after (Some j) g x h = S.chain j m x g h

  pub select_none : (s : List ℕ) → first_of s ≡ None → s ≡ []
  select_none [] e = refl
  select_none (y ∷ ys) e = cc

-- ---- runs of indices

pub all_range : (P : ℕ → Type 0) (i k : ℕ) → ((j : ℕ) → i ≤ j → j < i + k → P j) → All P (range i k)
unfolding range
all_range P i zero h = tt
all_range P i (suc k) h = (h i (omega arith) (omega arith), all_range P (suc i) k (λ j p q. h j (omega arith) (omega arith)))

pub keep_intro : {A : Type 0} (p : A → Bool) (P : A → Type 0) (l : List A) → All (λ x. p x ≡ true → P x) l → All P (keep p l)
unfolding keep
keep_intro p P [] a = tt
keep_intro p P (x ∷ xs) a = go (p x) refl (keep_intro p P xs a.1)
  where
    go : (b : Bool) → p x ≡ b → All P (keep p xs) → All P (cond b (x ∷ keep p xs) (keep p xs))
    go true e r = (a.0 e, r)
    go false e r = r

-- rows of different numbers that pass are one way or the other, so the list of those that pass is apart
pub apart_range : (less : ℕ → ℕ → Bool) (p : ℕ → Bool) (i k : ℕ) → ((x y : ℕ) → x < y → y < i + k → p x ≡ true → p y ≡ true → OneWay less x y) → Apart less (keep p (range i k))
unfolding range keep
apart_range less p i zero h = tt
apart_range less p i (suc k) h = go (p i) refl (apart_range less p (suc i) k (λ x y a b. h x y a (omega arith)))
  where
    go : (b : Bool) → p i ≡ b → Apart less (keep p (range (suc i) k)) → Apart less (cond b (i ∷ keep p (range (suc i) k)) (keep p (range (suc i) k)))
    go true e r = (keep_intro p (OneWay less i) (range (suc i) k) (all_range (λ x. p x ≡ true → OneWay less i x) (suc i) k (λ j a b g. h i j (omega arith) (omega arith) e g)), r)
    go false e r = r
