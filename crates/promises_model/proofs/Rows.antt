-- What a list's elements are after one more, and after one is put back to the default.
use Prim.Native.Nat.{ℕ, zero, suc, ◌<◌}
use native.Mathlib.Omega.{arith}
use mathlib.Core.Path.{◌≡◌, refl, ap, sym, ◌∙◌}
use mathlib.Core.Logic.{◌≢◌, ◌⊎◌, inl, inr}
use mathlib.Core.List.{List, [], ◌∷◌, ◌++◌}
use lib.ListN.{length, get_or, set, length-append, get_or-append}

module _ {A : Type 0} where
  pub length_snoc : (l : List A) (r : A) → length (l ++ (r ∷ [])) ≡ suc (length l)
  length_snoc l r = simp length-append (omega arith)

  pub snoc_cases : (d : A) (l : List A) (r x : A) (i : ℕ) → get_or (l ++ (r ∷ [])) i d ≡ x → (get_or l i d ≡ x) ⊎ ((i ≡ length l) × (r ≡ x))
  snoc_cases d [] r x zero h = inr (refl, h)
  snoc_cases d [] r x (suc i) h = inl h
  snoc_cases d (a ∷ l) r x zero h = inl h
  snoc_cases d (a ∷ l) r x (suc i) h = up (snoc_cases d l r x i h)
    where
      up : (get_or l i d ≡ x) ⊎ ((i ≡ length l) × (r ≡ x)) → (get_or l i d ≡ x) ⊎ ((suc i ≡ suc (length l)) × (r ≡ x))
      up (inl e) = inl e
      up (inr e) = inr (ap suc e.0, e.1)

  pub inside : (d : A) (l : List A) (x : A) (i : ℕ) → x ≢ d → get_or l i d ≡ x → i < length l
  inside d [] x i ne h = absurd (ne (sym h))
  inside d (a ∷ l) x zero ne h = omega arith
  inside d (a ∷ l) x (suc i) ne h = let t = inside d l x i ne h in omega arith

  pub snoc_old : (d : A) (l : List A) (r x : A) (i : ℕ) → x ≢ d → get_or l i d ≡ x → get_or (l ++ (r ∷ [])) i d ≡ x
  snoc_old d l r x i ne h = get_or-append l (r ∷ []) d i (inside d l x i ne h) ∙ h

  -- an element after `set`: the one put there, the default past the end, or another that is as it was
  pub set_cases : (d : A) (l : List A) (j : ℕ) (y x : A) (i : ℕ) → y ≢ x → d ≢ x → get_or (set l j y) i d ≡ x → (get_or l i d ≡ x) × (i ≢ j)
  set_cases d [] j y x i ny nd h = absurd (nd h)
  set_cases d (a ∷ l) zero y x zero ny nd h = absurd (ny h)
  set_cases d (a ∷ l) zero y x (suc i) ny nd h = (h, omega arith)
  set_cases d (a ∷ l) (suc j) y x zero ny nd h = (h, omega arith)
  set_cases d (a ∷ l) (suc j) y x (suc i) ny nd h = let t = set_cases d l j y x i ny nd h in (t.0, λ e. t.1 (omega arith))

  -- an element after `set` is the one put there, or as it was
  pub set_either : (d : A) (l : List A) (j : ℕ) (y : A) (i : ℕ) → (get_or (set l j y) i d ≡ y) ⊎ (get_or (set l j y) i d ≡ get_or l i d)
  set_either d [] j y i = inr refl
  set_either d (a ∷ l) zero y zero = inl refl
  set_either d (a ∷ l) zero y (suc i) = inr refl
  set_either d (a ∷ l) (suc j) y zero = inr refl
  set_either d (a ∷ l) (suc j) y (suc i) = set_either d l j y i
