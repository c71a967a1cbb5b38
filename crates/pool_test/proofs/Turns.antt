-- What the library's `contains`, `==`, `all` and `any` answer, in the words of the contracts.
use Prim.Native.Nat.{ℕ, zero, suc, ◌+◌, ◌≤◌, ◌<◌}
use mathlib.Core.Path.{◌≡◌, refl, sym, ◌∙◌}
use mathlib.Core.List.{List, [], ◌∷◌}
use mathlib.Core.Bool.{Bool, true, false, cond, ◌&&◌, ◌||◌, false≢true}
use native.Mathlib.Omega.{arith}
use lib.Dec.{eqb}
use lib.ListN.{length, get_or, take, drop}
use lib.Seq.{drop-cons}
use Rattle.lists.specs.Runs.{all_of, any_of}
use native.Mathlib.Numerals.{add-one}
use denote.Param.Members.{Mut}
use Rattle.std.specs.Fn.{Called}
use Rattle.std.specs.Iterator.{ChecksAll, ChecksAny}
use Rattle.std.specs.List.{list_all, list_any, range_with_len}
use Rattle.std.proofs.iter.Yields.{nat_range_steps}
use Rattle.std.proofs.lemmas.Iterator.{YieldsList-from_range}
use Rattle.std.proofs.lemmas.Iterator.Search.{all_from_yields_List, any_from_yields_List}
use Rattle.lists.specs.Same.{same, same_bytes}
use Rattle.pool_test.specs.Test.{is_at, has_num}
use Rattle.std.specs.Str.{bytes_eq}

-- ---- tests in a row

and_cond : (a b : Bool) → (a && b) ≡ cond a b false
and_cond true b = refl
and_cond false b = refl

or_cond : (a b : Bool) → (a || b) ≡ cond a true b
or_cond true b = refl
or_cond false b = refl

-- ---- `contains` over the first of a list

listed : (t : ℕ → Bool) (l : List ℕ) (i k : ℕ) → i + k ≤ length l → list_any t (take k (drop i l)) ≡ any_of (λ j. t (get_or l j 0)) i k
unfolding any_of
listed t l i zero h = refl
listed t l i (suc k) h = rw (drop-cons l i 0 (omega arith), listed t l (suc i) k (omega arith)) (or_cond (t (get_or l i 0)) _)

pub num_told : (l : List ℕ) (k x : ℕ) → k ≤ length l → has_num l k x ≡ list_any (λ y. eqb y x) (take k l)
unfolding is_at
num_told l k x h = sym (listed (λ y. eqb y x) l 0 k (omega arith))

-- ---- one of a run

-- where the run is hit, one is
pub any_one : (f : ℕ → Bool) (i k : ℕ) → any_of f i k ≡ true → (j : ℕ) × (i ≤ j) × (j < i + k) × (f j ≡ true)
unfolding any_of
any_one f i zero e = absurd (false≢true e)
any_one f i (suc k) e = go (f i) refl e (any_one f (suc i) k)
  where
    go : (t : Bool) → f i ≡ t → cond t true (any_of f (suc i) k) ≡ true → (any_of f (suc i) k ≡ true → (j : ℕ) × (suc i ≤ j) × (j < suc i + k) × (f j ≡ true))
        → (j : ℕ) × (i ≤ j) × (j < i + suc k) × (f j ≡ true)
    go true u v ih = (i, omega arith, omega arith, u)
    go false u v ih = let r = ih v in (r.0, omega (arith, r.1), omega (arith, r.2), r.3)

-- ---- `==` of two texts

pub same_told : (a b : List ℕ) → bytes_eq a b ≡ same_bytes a b
unfolding same
same_told [] [] = refl
same_told [] (y ∷ b) = refl
same_told (x ∷ a) [] = refl
same_told (x ∷ a) (y ∷ b) = rw (same_told a b) (and_cond (eqb x y) _)

-- ---- `all` and `any` over 0..n

all_listed : (f : ℕ → Bool) (i k : ℕ) → list_all f (range_with_len i k) ≡ all_of f i k
unfolding all_of
all_listed f i zero = refl
all_listed f i (suc k) = rw (all_listed f (i + 1) k, add-one) (and_cond (f i) _)

any_listed : (f : ℕ → Bool) (i k : ℕ) → list_any f (range_with_len i k) ≡ any_of f i k
unfolding any_of
any_listed f i zero = refl
any_listed f i (suc k) = rw (any_listed f (i + 1) k, add-one) (or_cond (f i) _)

-- where the closure c answers f, they answer `all_of` and `any_of`
module _ {F : Type 0} {g : Mut F (ℕ × Unit {0}) Bool} (f : ℕ → Bool) (n : ℕ) (u : _) (c : F) (r : Bool) where
  pub all_told : ChecksAll nat_range_steps g (record { start = 0; end = n }) c r u → ((x : ℕ) (b : Bool) (q : F) → Called g c (x, tt) b q → (q ≡ c) × (b ≡ f x)) → r ≡ all_of f 0 n
  all_told h computes = all_from_yields_List f u c r h (YieldsList-from_range 0 n n refl (omega arith)) computes ∙ all_listed f 0 n

  pub any_told : ChecksAny nat_range_steps g (record { start = 0; end = n }) c r u → ((x : ℕ) (b : Bool) (q : F) → Called g c (x, tt) b q → (q ≡ c) × (b ≡ f x)) → r ≡ any_of f 0 n
  any_told h computes = any_from_yields_List f u c r h (YieldsList-from_range 0 n n refl (omega arith)) computes ∙ any_listed f 0 n
