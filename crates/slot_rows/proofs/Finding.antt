-- What `find` means: the row it names holds the path and is the first that does; equal paths are found alike; and what a changed or a further row does to it.
use mathlib.Core.Path.{◌≡◌, refl, sym, ◌∙◌}
use mathlib.Core.List.{List, [], ◌∷◌, ◌++◌}
use mathlib.Core.Bool.{Bool, true, false, cond, false≢true}
use Prim.Native.Nat.{ℕ, zero, suc, ◌+◌, ◌<◌, ◌≤◌}
use native.Mathlib.Omega.{arith}
use native.Mathlib.Nat.{zero-add, suc-add}
use lib.ListN.{length, set, length-set}
use lib.Seq.{get_or-set_same, get_or-set_other}
use native.Mathlib.Decide.{ℕ_discrete}
use Rattle.path.specs.Path.{same_path}
use Rattle.path.proofs.Theorems.{same_path_lem, same_path_of}
use Rattle.slot_rows.specs.Rows.{Row, unbound, bound, none, at, is_bound, path_of, resized, holds, find}

-- a row that holds a path is bound
pub holds_bound : (p : List ℕ) (r : Row) → holds p r ≡ true → is_bound r ≡ true
unfolding holds is_bound
holds_bound p (unbound g) h = h
holds_bound p (bound q f) h = refl

-- no path is held by a row that is not bound
pub holds_unbound : (p : List ℕ) (r : Row) → is_bound r ≡ false → holds p r ≡ false
unfolding holds is_bound
holds_unbound p (unbound g) h = refl
holds_unbound p (bound q f) h = absurd (false≢true (sym h))

-- a row holds the paths equal to its own
pub holds_path : (p : List ℕ) (r : Row) → is_bound r ≡ true → holds p r ≡ same_path (path_of r) p
unfolding holds is_bound path_of
holds_path p (unbound g) h = absurd (false≢true h)
holds_path p (bound q f) h = refl

-- equal paths are held alike, and found in the same row
pub holds_same : (p q : List ℕ) (r : Row) → same_path p q ≡ true → holds p r ≡ holds q r
unfolding holds
holds_same p q (unbound g) e = refl
holds_same p q (bound t f) e = same_path_of t p t q refl ((same_path_lem p q).0 e)

pub find_same : (p q : List ℕ) (rs : List Row) → same_path p q ≡ true → find p rs ≡ find q rs
unfolding find
find_same p q [] e = refl
find_same p q (r ∷ rs) e = rw (holds_same p q r e, find_same p q rs e)

-- ---- the first row that holds p, by index

-- no row before the one that is found holds p
pub find_first : (p : List ℕ) (rs : List Row) (j : ℕ) → j < find p rs → holds p (at rs j) ≡ false
unfolding find
find_first p [] j h = absurd (omega arith)
find_first p (r ∷ rs) j h = go (holds p r) refl j h (find_first p rs)
  where
    go : (e : Bool) → holds p r ≡ e → (j : ℕ) → j < cond e 0 (suc (find p rs))
        → ((j : ℕ) → j < find p rs → holds p (at rs j) ≡ false) → holds p (at (r ∷ rs) j) ≡ false
    go true q j h f = absurd (omega arith)
    go false q zero h f = q
    go false q (suc j) h f = f j (omega arith)

-- it holds p
pub find_holds : (p : List ℕ) (rs : List Row) → find p rs < length rs → holds p (at rs (find p rs)) ≡ true
unfolding find
find_holds p [] h = absurd (omega arith)
find_holds p (r ∷ rs) h = go (holds p r) refl h (find_holds p rs)
  where
    go : (e : Bool) → holds p r ≡ e → cond e 0 (suc (find p rs)) < suc (length rs)
        → (find p rs < length rs → holds p (at rs (find p rs)) ≡ true) → holds p (at (r ∷ rs) (cond e 0 (suc (find p rs)))) ≡ true
    go true q h f = q
    go false q h f = f (omega arith)

-- it is a row, or the count of the rows
pub find_le : (p : List ℕ) (rs : List Row) → find p rs ≤ length rs
unfolding find
find_le p [] = omega arith
find_le p (r ∷ rs) = go (holds p r) (find_le p rs)
  where
    go : (e : Bool) → find p rs ≤ length rs → cond e 0 (suc (find p rs)) ≤ suc (length rs)
    go true ih = omega arith
    go false ih = omega arith

-- where the count is found, no row holds p
pub find_none : (p : List ℕ) (rs : List Row) (j : ℕ) → length rs ≤ find p rs → holds p (at rs j) ≡ false
unfolding find holds
find_none p [] j h = refl
find_none p (r ∷ rs) j h = go (holds p r) refl j h (find_none p rs)
  where
    go : (e : Bool) → holds p r ≡ e → (j : ℕ) → suc (length rs) ≤ cond e 0 (suc (find p rs))
        → ((j : ℕ) → length rs ≤ find p rs → holds p (at rs j) ≡ false) → holds p (at (r ∷ rs) j) ≡ false
    go true q j h f = absurd (omega arith)
    go false q zero h f = q
    go false q (suc j) h f = f j (omega arith)

-- a row that holds p is not before the one that is found
pub find_sooner : (p : List ℕ) (rs : List Row) (j : ℕ) → holds p (at rs j) ≡ true → find p rs ≤ j
unfolding find holds
find_sooner p [] j h = absurd (false≢true h)
find_sooner p (r ∷ rs) j h = go (holds p r) refl j h (find_sooner p rs)
  where
    go : (e : Bool) → holds p r ≡ e → (j : ℕ) → holds p (at (r ∷ rs) j) ≡ true
        → ((j : ℕ) → holds p (at rs j) ≡ true → find p rs ≤ j) → cond e 0 (suc (find p rs)) ≤ j
    go true q j h f = omega arith
    go false q zero h f = absurd (false≢true (sym q ∙ h))
    go false q (suc j) h f = omega (arith, f j h)

-- a row that holds p is a row
pub holds_inside : (p : List ℕ) (rs : List Row) (j : ℕ) → holds p (at rs j) ≡ true → j < length rs
unfolding holds
holds_inside p [] j h = absurd (false≢true h)
holds_inside p (r ∷ rs) zero h = omega arith
holds_inside p (r ∷ rs) (suc j) h = omega (arith, holds_inside p rs j h)

-- the first row that holds p is the one that is found
pub find_is : (p : List ℕ) (rs : List Row) (i : ℕ) → holds p (at rs i) ≡ true → ((j : ℕ) → j < i → holds p (at rs j) ≡ false) → find p rs ≡ i
find_is p rs i h f =
    let a : find p rs < i → ⊥ = λ k. false≢true (sym (f (find p rs) k) ∙ find_holds p rs (omega (arith, holds_inside p rs i h))) in
    omega (arith, a, find_sooner p rs i h)

-- where no row holds p, the count is found
pub find_absent : (p : List ℕ) (rs : List Row) → ((j : ℕ) → j < length rs → holds p (at rs j) ≡ false) → find p rs ≡ length rs
unfolding find
find_absent p [] f = refl
find_absent p (r ∷ rs) f = rw (f 0 (omega arith), find_absent p rs (λ j h. f (suc j) (omega arith)))

-- ---- a changed row

-- a row that did not hold p, and does not
pub find_set_other : (p : List ℕ) (rs : List Row) (i : ℕ) (r : Row) → holds p (at rs i) ≡ false → holds p r ≡ false → find p (set rs i r) ≡ find p rs
unfolding find
find_set_other p [] i r h k = refl
find_set_other p (x ∷ rs) zero r h k = rw (h, k)
find_set_other p (x ∷ rs) (suc i) r h k = rw (find_set_other p rs i r h k)

-- a row that holds p as the one before it did
pub find_set_kept : (p : List ℕ) (rs : List Row) (i : ℕ) (r : Row) → holds p r ≡ holds p (at rs i) → find p (set rs i r) ≡ find p rs
unfolding find
find_set_kept p [] i r h = refl
find_set_kept p (x ∷ rs) zero r h = rw h
find_set_kept p (x ∷ rs) (suc i) r h = rw (find_set_kept p rs i r h)

holds_resized : (p : List ℕ) (m : ℕ) (e : Bool) (r : Row) → holds p (resized m e r) ≡ holds p r
unfolding holds resized
holds_resized p m e (unbound g) = refl
holds_resized p m e (bound q f) = refl

-- a row with another length or dirty bit
pub find_resized : (p : List ℕ) (rs : List Row) (i m : ℕ) (e : Bool) → find p (set rs i (resized m e (at rs i))) ≡ find p rs
find_resized p rs i m e = find_set_kept p rs i (resized m e (at rs i)) (holds_resized p m e (at rs i))

-- the only row that holds p
pub find_set_new : (p : List ℕ) (rs : List Row) (i : ℕ) (r : Row) → i < length rs → length rs ≤ find p rs → holds p r ≡ true → find p (set rs i r) ≡ i
unfolding find
find_set_new p [] i r l n h = absurd (omega arith)
find_set_new p (x ∷ rs) zero r l n h = rw h
find_set_new p (x ∷ rs) (suc i) r l n h =
    let a : holds p x ≡ false = find_none p (x ∷ rs) 0 n in
    rw (a, find_set_new p rs i r (omega arith) (omega (arith, rw a at n)) h)

-- the only row that held p, and does not
pub find_set_gone : (p : List ℕ) (rs : List Row) (i : ℕ) (r : Row) → ((j : ℕ) → holds p (at rs j) ≡ true → j ≡ i) → holds p r ≡ false → find p (set rs i r) ≡ length rs
find_set_gone p rs i r one h =
    find_absent p (set rs i r) (λ j l. go j (rw (length-set rs i r) at l) (ℕ_discrete j i)) ∙ length-set rs i r
  where
    kept : (j : ℕ) → (j ≡ i → ⊥) → (t : Bool) → holds p (at rs j) ≡ t → t ≡ false
    kept j ne true e = absurd (ne (one j e))
    kept j ne false e = refl

    go : (j : ℕ) → j < length rs → Dec (j ≡ i) → holds p (at (set rs i r) j) ≡ false
    go j l (yes e) = rw (e, get_or-set_same rs i r none (omega arith)) h
    go j l (no ne) = rw (get_or-set_other rs i j r none ne) (kept j ne (holds p (at rs j)) refl)

-- ---- further rows

pub find_append : (p : List ℕ) (rs ts : List Row) → length rs ≤ find p rs → find p (rs ++ ts) ≡ length rs + find p ts
unfolding find
find_append p [] ts n = rw zero-add
find_append p (x ∷ rs) ts n =
    let a : holds p x ≡ false = find_none p (x ∷ rs) 0 n in
    rw (a, find_append p rs ts (omega (arith, rw a at n)), suc-add)

pub find_append_old : (p : List ℕ) (rs ts : List Row) → find p rs < length rs → find p (rs ++ ts) ≡ find p rs
unfolding find
find_append_old p [] ts n = absurd (omega arith)
find_append_old p (x ∷ rs) ts n = go (holds p x) refl n (find_append_old p rs ts)
  where
    go : (e : Bool) → holds p x ≡ e → cond e 0 (suc (find p rs)) < suc (length rs)
        → (find p rs < length rs → find p (rs ++ ts) ≡ find p rs) → cond e 0 (suc (find p (rs ++ ts))) ≡ cond e 0 (suc (find p rs))
    go true q n f = refl
    go false q n f = rw (f (omega arith))
