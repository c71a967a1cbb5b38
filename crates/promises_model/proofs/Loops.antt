-- Laws of the model that a loop over rows, over slots or over losers needs: what the search comes to, what a claim's step does, one more
-- release.
use Prim.Native.Nat.{ℕ, zero, suc, ◌+◌, ◌≤◌, ◌<◌}
use native.Mathlib.Omega.{arith}
use native.Mathlib.Nat.{add-zero, zero-add}
use mathlib.Core.Path.{◌≡◌, refl, ap, sym, ◌∙◌}
use mathlib.Core.Logic.{◌≢◌}
use mathlib.Core.Bool.{Bool, true, false, cond, false≢true}
use mathlib.Core.List.{List, [], ◌∷◌}
use lib.ListN.{length, get_or, take, set}
use borrow.Author.Tests.{le-leb, lt-leb}
use Rattle.lists.specs.Runs.{first_from}
use Rattle.promises_model.specs.Model.{Claim, absent, idle, claim, Row, unbound, bound, Kit}
use Rattle.promises_model.specs.Model as M

pub bound≢unbound : {A : Type 0} {c : Claim A} {g : ℕ} → bound c ≢ unbound g
bound≢unbound e = let z : ◌≡◌ {A = ℕ} 0 1 = cc in omega arith

pub unbound≢bound : {A : Type 0} {c : Claim A} {g : ℕ} → unbound g ≢ bound c
unbound≢bound e = let z : ◌≡◌ {A = ℕ} 0 1 = cc in omega arith

pub absent≢claim : {A : Type 0} {c : Claim A} → absent ≢ claim c
absent≢claim e = let z : ◌≡◌ {A = ℕ} 0 1 = cc in omega arith

pub idle≢claim : {A : Type 0} {c : Claim A} {g : ℕ} → idle g ≢ claim c
idle≢claim e = let z : ◌≡◌ {A = ℕ} 0 1 = cc in omega arith

module _ (K : Kit) where
  open K use {Path, same}

  -- a loop that has passed i rows and meets one that holds the path has found it
  pub find_first : (p : Path) (rs : List (Row Path)) (i : ℕ) → ((j : ℕ) → j < i → M.holds K p (M.row_at K rs j) ≡ false)
      → M.holds K p (M.row_at K rs i) ≡ true → M.find K p rs ≡ i
  unfolding M.find
  find_first p [] i f h = absurd (false≢true h)
  find_first p (r ∷ rs) zero f h = rw h
  find_first p (r ∷ rs) (suc i) f h = rw (f 0 (omega arith)) (ap suc (find_first p rs i (λ j l. f (suc j) (omega arith)) h))

  -- a loop that has passed them all has found none
  pub find_none : (p : Path) (rs : List (Row Path)) → ((j : ℕ) → j < length rs → M.holds K p (M.row_at K rs j) ≡ false) → M.find K p rs ≡ length rs
  unfolding M.find
  find_none p [] f = refl
  find_none p (r ∷ rs) f = rw (f 0 (omega arith)) (ap suc (find_none p rs (λ j l. f (suc j) (omega arith))))

  -- the search as a run of indices
  pub find_run : (p : Path) (rs : List (Row Path)) → M.find K p rs ≡ first_from (λ i. M.holds K p (M.row_at K rs i)) 0 (length rs)
  unfolding M.find first_from
  find_run p rs = sym (zero-add (M.find K p rs)) ∙ from 0 rs (λ i. M.holds K p (M.row_at K rs i)) (λ i. rw zero-add)
    where
      from : (a : ℕ) (ts : List (Row Path)) (f : ℕ → Bool) → ((i : ℕ) → f (a + i) ≡ M.holds K p (M.row_at K ts i)) → a + M.find K p ts ≡ first_from f a (length ts)
      from a [] f e = add-zero a
      from a (r ∷ ts) f e = go (f a) refl (from (suc a) ts f (λ i. let q : suc a + i ≡ a + suc i = omega arith in ap f q ∙ e (suc i)))
        where
          here : f a ≡ M.holds K p r
          here = ap f (sym (add-zero a)) ∙ e 0

          go : (b : Bool) → f a ≡ b → suc a + M.find K p ts ≡ first_from f (suc a) (length ts)
              → a + cond (M.holds K p r) zero (suc (M.find K p ts)) ≡ cond (f a) a (first_from f (suc a) (length ts))
          go true q ih = rw (← here, q) (add-zero a)
          go false q ih = rw (← here, q) (omega (arith, ih))

  -- the slot found holds the path, if any does
  pub find_holds : (p : Path) (rs : List (Row Path)) (i : ℕ) → M.holds K p (M.row_at K rs i) ≡ true → M.holds K p (M.row_at K rs (M.find K p rs)) ≡ true
  unfolding M.find
  find_holds p [] i h = h
  find_holds p (r ∷ rs) i h = go (M.holds K p r) refl i h (λ j. find_holds p rs j)
    where
      go : (b : Bool) → M.holds K p r ≡ b → (i : ℕ) → M.holds K p (M.row_at K (r ∷ rs) i) ≡ true
          → ((j : ℕ) → M.holds K p (M.row_at K rs j) ≡ true → M.holds K p (M.row_at K rs (M.find K p rs)) ≡ true)
          → M.holds K p (M.row_at K (r ∷ rs) (cond b zero (suc (M.find K p rs)))) ≡ true
      go true e i h ih = e
      go false e zero h ih = absurd (false≢true (sym e ∙ h))
      go false e (suc i) h ih = ih i h

  -- a slot found among the rows holds the path
  pub find_found : (p : Path) (rs : List (Row Path)) → M.find K p rs < length rs → M.holds K p (M.row_at K rs (M.find K p rs)) ≡ true
  unfolding M.find
  find_found p [] l = absurd (omega arith)
  find_found p (r ∷ rs) l = go (M.holds K p r) refl l (λ k. find_found p rs k)
    where
      go : (b : Bool) → M.holds K p r ≡ b → cond b zero (suc (M.find K p rs)) < suc (length rs)
          → (M.find K p rs < length rs → M.holds K p (M.row_at K rs (M.find K p rs)) ≡ true)
          → M.holds K p (M.row_at K (r ∷ rs) (cond b zero (suc (M.find K p rs)))) ≡ true
      go true e k ih = e
      go false e k ih = ih (omega arith)

  -- what the slot found is bound to is equal to the path
  pub find_same : (p : Path) (rs : List (Row Path)) (d : Claim Path) → M.row_at K rs (M.find K p rs) ≡ bound d → same p d.path ≡ true
  unfolding M.find
  find_same p [] d h = absurd (unbound≢bound h)
  find_same p (r ∷ rs) d h = go (M.holds K p r) refl h (λ t. find_same p rs d t)
    where
      go : (b : Bool) → M.holds K p r ≡ b → M.row_at K (r ∷ rs) (cond b zero (suc (M.find K p rs))) ≡ bound d
          → (M.row_at K rs (M.find K p rs) ≡ bound d → same p d.path ≡ true) → same p d.path ≡ true
      go true e h ih = rw h at e
      go false e h ih = ih h

  -- rows that hold the path in the same places
  pub find_alike : (p : Path) (rs ts : List (Row Path)) → length rs ≡ length ts → ((i : ℕ) → M.holds K p (M.row_at K rs i) ≡ M.holds K p (M.row_at K ts i))
      → M.find K p rs ≡ M.find K p ts
  unfolding M.find
  find_alike p [] [] e f = refl
  find_alike p [] (t ∷ ts) e f = absurd (omega arith)
  find_alike p (r ∷ rs) [] e f = absurd (omega arith)
  find_alike p (r ∷ rs) (t ∷ ts) e f = rw (f 0, find_alike p rs ts (omega arith) (λ i. f (suc i)))

  -- a claim's step, by what the search found
  module _ (s : M.State K) (c : Claim Path) where
    abbrev found : ℕ
    found = M.find K c.path s.rows

    pub step_free : (g : ℕ) → M.row_at K s.rows found ≡ unbound g → M.step K s (claim c) ≡ M.enter K s c s.rows [] (bound c)
    unfolding M.step
    step_free g e = ap (M.meet K s c found) e

    pub step_lose : (d : Claim Path) → M.row_at K s.rows found ≡ bound d → c.gen ≤ d.gen
        → M.step K s (claim c) ≡ M.enter K s c s.rows (length s.rows ∷ []) (unbound 0)
    unfolding M.step
    step_lose d e l = let b : M.stands K d c ≡ true = le-leb c.gen d.gen l in ap (M.meet K s c found) e ∙ ap (M.rival K s c found) b

    pub step_oust : (d : Claim Path) → M.row_at K s.rows found ≡ bound d → d.gen < c.gen
        → M.step K s (claim c) ≡ M.enter K s c (set s.rows found (unbound 0)) (found ∷ []) (bound c)
    unfolding M.step
    step_oust d e l = let b : M.stands K d c ≡ false = lt-leb c.gen d.gen l in ap (M.meet K s c found) e ∙ ap (M.rival K s c found) b

  -- one more release
  pub drain_suc : (ls : List ℕ) (k : ℕ) (s : M.State K) → k < length ls → M.drain K (take (suc k) ls) s ≡ M.release K (M.drain K (take k ls) s) (get_or ls k 0)
  unfolding M.drain
  drain_suc [] k s l = absurd (omega arith)
  drain_suc (i ∷ is) zero s l = refl
  drain_suc (i ∷ is) (suc k) s l = drain_suc is k (M.release K s i) (omega arith)
