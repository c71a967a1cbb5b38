-- Equality of lists as a test, lifted from a test on their elements: bytes, and then lists of bytes, are two uses of it.
use Rattle.std.specs.Prelude.{◌≡◌, ℕ, suc, Bool, true, false, cond, List, [], ◌∷◌, ◌++◌, length, ◌==◌, ◌≢◌, nat_eq}
use Rattle.std.proofs.Math.Path.{refl, ap₂}
use Rattle.std.proofs.Common.{sym, ap, arith, length-append, eq-eqb, eqb-true}
use Rattle.std.proofs.lemmas.Bool.{false≢true}

-- the same elements in the same order
unfoldable pub same : {A : Type 0} → (A → A → Bool) → List A → List A → Bool
same f [] [] = true
same f [] (y ∷ ys) = false
same f (x ∷ xs) [] = false
same f (x ∷ xs) (y ∷ ys) = cond (f x y) (same f xs ys) false

-- the same bytes
abbrev pub same_bytes : List ℕ → List ℕ → Bool
same_bytes = same nat_eq

-- one of the lists is x
unfoldable pub has_bytes : List (List ℕ) → List ℕ → Bool
has_bytes [] x = false
has_bytes (d ∷ ds) x = cond (same_bytes d x) true (has_bytes ds x)

cond_false : (t : Bool) → cond t false false ≡ false
cond_false true = refl
cond_false false = refl

-- two tests in a row, either first
cond_swap : (t u b : Bool) → cond t (cond u b false) false ≡ cond u (cond t b false) false
cond_swap true u b = refl
cond_swap false true b = refl
cond_swap false false b = refl

none : {A : Type 0} (a : List A) (x : A) → length (a ++ x ∷ []) ≢ 0
none a x e = omega (arith, length-append a (x ∷ []))

module _ {A : Type 0} (f : A → A → Bool) where
  pub same_refl : ((x : A) → f x x ≡ true) → (a : List A) → same f a a ≡ true
  unfolding same
  same_refl h [] = refl
  same_refl h (x ∷ xs) = rw (h x) (same_refl h xs)

  pub same_eq : ((x y : A) → f x y ≡ true → x ≡ y) → (a b : List A) → same f a b ≡ true → a ≡ b
  unfolding same
  same_eq h [] [] e = refl
  same_eq h [] (y ∷ ys) e = absurd (false≢true e)
  same_eq h (x ∷ xs) [] e = absurd (false≢true e)
  same_eq h (x ∷ xs) (y ∷ ys) e = go (f x y) refl e (same_eq h xs ys)
    where
      go : (b : Bool) → f x y ≡ b → cond b (same f xs ys) false ≡ true → (same f xs ys ≡ true → xs ≡ ys) → x ∷ xs ≡ y ∷ ys
      go true t u ih = ap₂ {C = List A} (λ p q. p ∷ q) (h x y t) (ih u)
      go false t u ih = absurd (false≢true u)

  -- lists of two lengths differ
  pub same_length : (a b : List A) → (length a ≢ length b) → same f a b ≡ false
  unfolding same
  same_length [] [] n = absurd (n refl)
  same_length [] (y ∷ ys) n = refl
  same_length (x ∷ xs) [] n = refl
  same_length (x ∷ xs) (y ∷ ys) n = rw (same_length xs ys (λ e. n (ap suc e))) (cond_false (f x y))

  -- what both begin with does not matter
  pub same_append : ((x : A) → f x x ≡ true) → (p a b : List A) → same f (p ++ a) (p ++ b) ≡ same f a b
  unfolding same
  same_append h [] a b = refl
  same_append h (x ∷ p) a b = rw (h x) (same_append h p a b)

  -- from the back: the last elements, and then what stands before them
  pub same_snoc : (a b : List A) (x y : A) → same f (a ++ x ∷ []) (b ++ y ∷ []) ≡ cond (f x y) (same f a b) false
  unfolding same
  same_snoc [] [] x y = refl
  same_snoc [] (v ∷ b) x y = rw (same_length [] (b ++ y ∷ []) (λ e. none b y (sym e)), cond_false (f x v), cond_false (f x y))
  same_snoc (u ∷ a) [] x y = rw (same_length (a ++ x ∷ []) [] (none a x), cond_false (f u y), cond_false (f x y))
  same_snoc (u ∷ a) (v ∷ b) x y = rw (same_snoc a b x y) (cond_swap (f u v) (f x y) (same f a b))

pub eqb_refl : (x : ℕ) → (x == x) ≡ true
eqb_refl x = eq-eqb x x refl

pub same_bytes_refl : (a : List ℕ) → same_bytes a a ≡ true
same_bytes_refl = same_refl nat_eq eqb_refl

pub same_bytes_eq : (a b : List ℕ) → same_bytes a b ≡ true → a ≡ b
same_bytes_eq = same_eq nat_eq eqb-true

-- lists that are not equal
pub same_bytes_other : (a b : List ℕ) → (a ≢ b) → same_bytes a b ≡ false
same_bytes_other a b h = go (same_bytes a b) refl
  where
    go : (t : Bool) → same_bytes a b ≡ t → t ≡ false
    go true e = absurd (h (same_bytes_eq a b e))
    go false e = refl
