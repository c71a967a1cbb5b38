-- Runs of indices: what is tested, sought or listed over i, i + 1, .., and the laws by which a loop goes through one.
-- Each law is stated for the k = n - i indices that a loop at i still has before it.
use Rattle.std.specs.Prelude.{◌≡◌, ℕ, zero, suc, ◌+◌, ◌-◌, ◌<◌, ◌≤◌, Bool, true, false, cond, List, [], ◌∷◌, length, take, slice_index_or}
use Rattle.std.proofs.Math.Path.{refl, ap, ap₂}
use Rattle.std.proofs.Common.{sym, ◌∙◌, add-zero}
use Rattle.std.proofs.lemmas.Bool.{false≢true}
use native.Mathlib.Omega.{arith}
use Rattle.std.proofs.Math.Decide.{ℕ_discrete}
use Rattle.std.proofs.Math.Numerals.{add-one}

-- i, i + 1, .., i + k - 1
unfoldable pub range : ℕ → ℕ → List ℕ
range i zero = []
range i (suc k) = i ∷ range (suc i) k

-- f i, f (i + 1), .., f (i + k - 1)
unfoldable pub tab : {A : Type 0} → (ℕ → A) → ℕ → ℕ → List A
tab f i zero = []
tab f i (suc k) = f i ∷ tab f (suc i) k

-- f holds at each of the k indices from i on
unfoldable pub all_of : (ℕ → Bool) → ℕ → ℕ → Bool
all_of f i zero = true
all_of f i (suc k) = cond (f i) (all_of f (suc i) k) false

-- f holds at one of the k indices from i on
unfoldable pub any_of : (ℕ → Bool) → ℕ → ℕ → Bool
any_of f i zero = false
any_of f i (suc k) = cond (f i) true (any_of f (suc i) k)

-- the first of the k indices from i on at which f holds, or i + k
unfoldable pub first_from : (ℕ → Bool) → ℕ → ℕ → ℕ
first_from f i zero = i
first_from f i (suc k) = cond (f i) i (first_from f (suc i) k)

-- a loop that starts at 0 has all n before it
pub from_start : {A : Type 0} (g : ℕ → ℕ → A) (n : ℕ) → g 0 n ≡ g 0 (n - 0)
from_start g n = let e : n - 0 ≡ n = omega arith in rw e

-- one index is left at least
one_more : (i n : ℕ) → i < n → n - i ≡ suc (n - (i + 1))
one_more i n h = omega arith

none_left : (i n : ℕ) → n ≤ i → n - i ≡ 0
none_left i n h = omega arith

pub length_range : (i k : ℕ) → length (range i k) ≡ k
unfolding range
length_range i zero = refl
length_range i (suc k) = ap suc (length_range (suc i) k)

module _ (n i : ℕ) where
  pub range_more : i < n → range i (n - i) ≡ i ∷ range (i + 1) (n - (i + 1))
  unfolding range
  range_more h = rw (one_more i n h, add-one)

  pub range_end : n ≤ i → range i (n - i) ≡ []
  unfolding range
  range_end h = rw (none_left i n h)

  -- the same for a loop that counts down
  pub range_down : 0 < i → i ≤ n → range (i - 1) (n - (i - 1)) ≡ (i - 1) ∷ range i (n - i)
  unfolding range
  range_down p q =
      let e : n - (i - 1) ≡ suc (n - i) = omega arith in
      let k : suc (i - 1) ≡ i = omega arith in
      rw (e, k)

module _ {A : Type 0} (f : ℕ → A) where
  pub length_tab : (i k : ℕ) → length (tab f i k) ≡ k
  unfolding tab
  length_tab i zero = refl
  length_tab i (suc k) = ap suc (length_tab (suc i) k)

  pub get_or_tab : (i k j : ℕ) (d : A) → j < k → slice_index_or (tab f i k) j d ≡ f (i + j)
  unfolding tab
  get_or_tab i zero j d h = absurd (omega arith)
  get_or_tab i (suc k) zero d h = rw (add-zero i)
  get_or_tab i (suc k) (suc j) d h =
      let e : i + suc j ≡ suc i + j = omega arith in
      rw e (get_or_tab (suc i) k j d (omega arith))

  -- a front
  pub take_tab : (i m n : ℕ) → m ≤ n → take m (tab f i n) ≡ tab f i m
  unfolding tab
  take_tab i zero n h = refl
  take_tab i (suc m) zero h = absurd (omega arith)
  take_tab i (suc m) (suc n) h = ap (λ (l : List A). f i ∷ l) (take_tab (suc i) m n (omega arith))

  -- all elements of a list
  pub tab_all : (l : List A) (d : A) (i : ℕ) → ((j : ℕ) → j < length l → f (i + j) ≡ slice_index_or l j d) → tab f i (length l) ≡ l
  unfolding tab
  tab_all [] d i h = refl
  tab_all (x ∷ l) d i h =
      let z : i + 0 ≡ i = omega arith in
      ap₂ {C = List A} (λ y ys. y ∷ ys) (ap f (sym z) ∙ h 0 (omega arith))
      (tab_all l d (suc i) (λ j k. let s : suc i + j ≡ i + suc j = omega arith in ap f s ∙ h (suc j) (omega arith)))

  pub tab_more : (n i : ℕ) → i < n → tab f i (n - i) ≡ f i ∷ tab f (i + 1) (n - (i + 1))
  unfolding tab
  tab_more n i h = rw (one_more i n h, add-one)

  pub tab_end : (n i : ℕ) → n ≤ i → tab f i (n - i) ≡ []
  unfolding tab
  tab_end n i h = rw (none_left i n h)

module _ (f : ℕ → Bool) (n i : ℕ) where
  pub all_next : i < n → f i ≡ true → all_of f i (n - i) ≡ all_of f (i + 1) (n - (i + 1))
  unfolding all_of
  all_next h e = rw (one_more i n h, add-one, e)

  pub all_not : i < n → f i ≡ false → all_of f i (n - i) ≡ false
  unfolding all_of
  all_not h e = rw (one_more i n h, e)

  pub all_end : n ≤ i → all_of f i (n - i) ≡ true
  unfolding all_of
  all_end h = rw (none_left i n h)

  pub any_hit : i < n → f i ≡ true → any_of f i (n - i) ≡ true
  unfolding any_of
  any_hit h e = rw (one_more i n h, e)

  pub any_next : i < n → f i ≡ false → any_of f i (n - i) ≡ any_of f (i + 1) (n - (i + 1))
  unfolding any_of
  any_next h e = rw (one_more i n h, add-one, e)

  pub any_end : n ≤ i → any_of f i (n - i) ≡ false
  unfolding any_of
  any_end h = rw (none_left i n h)

  pub first_hit : i < n → f i ≡ true → first_from f i (n - i) ≡ i
  unfolding first_from
  first_hit h e = rw (one_more i n h, e)

  pub first_next : i < n → f i ≡ false → first_from f i (n - i) ≡ first_from f (i + 1) (n - (i + 1))
  unfolding first_from
  first_next h e = rw (one_more i n h, add-one, e)

  pub first_end : i ≤ n → n ≤ i → first_from f i (n - i) ≡ n
  unfolding first_from
  first_end g h = let e : i ≡ n = omega arith in rw (none_left i n h, e)

-- what the tests mean
pub all_at : (f : ℕ → Bool) (i k j : ℕ) → all_of f i k ≡ true → i ≤ j → j < i + k → f j ≡ true
unfolding all_of
all_at f i zero j e p q = absurd (omega arith)
all_at f i (suc k) j e p q = go (f i) refl e (ℕ_discrete i j) (all_at f (suc i) k j)
  where
    go : (b : Bool) → f i ≡ b → cond b (all_of f (suc i) k) false ≡ true → Dec (i ≡ j)
        → (all_of f (suc i) k ≡ true → suc i ≤ j → j < suc i + k → f j ≡ true) → f j ≡ true
    go false t u d ih = absurd (false≢true u)
    go true t u (yes s) ih = rw (← s) t
    go true t u (no s) ih = ih u (omega arith) (omega arith)

pub all_intro : (f : ℕ → Bool) (i k : ℕ) → ((j : ℕ) → i ≤ j → j < i + k → f j ≡ true) → all_of f i k ≡ true
unfolding all_of
all_intro f i zero h = refl
all_intro f i (suc k) h = rw (h i (omega arith) (omega arith)) (all_intro f (suc i) k (λ j p q. h j (omega arith) (omega arith)))

pub any_not : (f : ℕ → Bool) (i k j : ℕ) → any_of f i k ≡ false → i ≤ j → j < i + k → f j ≡ false
unfolding any_of
any_not f i zero j e p q = absurd (omega arith)
any_not f i (suc k) j e p q = go (f i) refl e (ℕ_discrete i j) (any_not f (suc i) k j)
  where
    go : (b : Bool) → f i ≡ b → cond b true (any_of f (suc i) k) ≡ false → Dec (i ≡ j)
        → (any_of f (suc i) k ≡ false → suc i ≤ j → j < suc i + k → f j ≡ false) → f j ≡ false
    go true t u d ih = absurd (false≢true (sym u))
    go false t u (yes s) ih = rw (← s) t
    go false t u (no s) ih = ih u (omega arith) (omega arith)

pub any_none : (f : ℕ → Bool) (i k : ℕ) → ((j : ℕ) → i ≤ j → j < i + k → f j ≡ false) → any_of f i k ≡ false
unfolding any_of
any_none f i zero h = refl
any_none f i (suc k) h = rw (h i (omega arith) (omega arith)) (any_none f (suc i) k (λ j p q. h j (omega arith) (omega arith)))
