-- Lists without repetition: one more element; no longer than a list that has all of theirs.
use Rattle.std.specs.Prelude.{◌≡◌, ℕ, zero, suc, ◌<◌, ◌≤◌, ◌≢◌, ◌⊎◌, List, [], ◌∷◌, ◌++◌, length}
use Rattle.std.proofs.Common.{arith, ◌∙◌, inl, inr, ⊎_elim}
use Rattle.std.proofs.Math.Path.{refl, ap, sym}
use mathlib.Core.List.Memᴰ
use mathlib.Core.List.{Memᴰ}
use Rattle.std.proofs.Math.Decide.{ℕ_discrete}

module _ {A : Type 0} where
  -- a is an element of l
  abbrev pub In : A → List A → Type 0
  In a l = Memᴰ a l

  pub snoc_in : (xs : List A) (a x : A) → In x (xs ++ (a ∷ [])) → In x xs ⊎ (x ≡ a)
  snoc_in xs a x m = go (Memᴰ.append_cases xs m)
    where
      go : In x xs ⊎ In x (a ∷ []) → In x xs ⊎ (x ≡ a)
      go (inl k) = inl k
      go (inr k) = inr (Memᴰ.eq_of_singleton k)

  -- no element twice
  pub data Distinct : List A → Type 0 where
    none : Distinct []
    more : {x : A} {xs : List A} → (In x xs → ⊥) → Distinct xs → Distinct (x ∷ xs)

  pub distinct_snoc : {l : List A} (a : A) → Distinct l → (In a l → ⊥) → Distinct (l ++ (a ∷ []))
  distinct_snoc a none h = more (λ m. Memᴰ.not-nil m) none
  distinct_snoc a (more {x = x} {xs = xs} f t) h = more (λ m. go (snoc_in xs a x m)) (distinct_snoc a t (λ m. h (Memᴰ.tail m)))
    where
      go : In x xs ⊎ (x ≡ a) → ⊥
      go (inl m) = f m
      go (inr e) = h (Memᴰ.head (sym e))

  pub distinct_append : {l : List A} (r : List A) → Distinct l → Distinct r → ((x : A) → In x r → In x l → ⊥) → Distinct (l ++ r)
  distinct_append r none k n = k
  distinct_append r (more {x = x} {xs = xs} f t) k n =
      more (λ m. ⊎_elim f (λ q. n x q (Memᴰ.head refl)) (Memᴰ.append_cases xs m))
      (distinct_append r t k (λ e m q. n e m (Memᴰ.tail q)))

  -- the list without one place
  del : {x : A} {l : List A} → In x l → List A
  del (Memᴰ.head {xs = xs} e) = xs
  del (Memᴰ.tail {x = y} m) = y ∷ del m

  length_del : {x : A} {l : List A} (m : In x l) → length l ≡ suc (length (del m))
  unfolding del
  length_del (Memᴰ.head e) = refl
  length_del (Memᴰ.tail m) = ap suc (length_del m)

  in-del : {x : A} {l : List A} (m : In x l) (y : A) → y ≢ x → In y l → In y (del m)
  unfolding del
  in-del (Memᴰ.head {x = z} {xs = xs} e) y ne h = go (Memᴰ.cases_cons h)
    where
      go : (y ≡ z) ⊎ In y xs → In y xs
      go (inl q) = absurd (ne (q ∙ sym e))
      go (inr q) = q
  in-del (Memᴰ.tail {x = z} {xs = xs} m) y ne h = go (λ t. in-del m y ne t) (Memᴰ.cases_cons h)
    where
      go : (In y xs → In y (del m)) → (y ≡ z) ⊎ In y xs → In y (z ∷ del m)
      go f (inl q) = Memᴰ.head q
      go f (inr q) = Memᴰ.tail (f q)

  pub distinct_le : {l : List A} (r : List A) → Distinct l → ((x : A) → In x l → In x r) → length l ≤ length r
  distinct_le r none h = omega arith
  distinct_le r (more {x = x} {xs = xs} f t) h =
      let m = h x (Memᴰ.head refl) in
      omega (arith, length_del m, distinct_le (del m) t (λ y k. in-del m y (λ e. f (Memᴰ.cast (sym e) k)) (h y (Memᴰ.tail k))))

-- the numbers below n
upto : ℕ → List ℕ
upto zero = []
upto (suc n) = n ∷ upto n

length_upto : (n : ℕ) → length (upto n) ≡ n
unfolding upto
length_upto zero = refl
length_upto (suc n) = ap suc (length_upto n)

in-upto : (n x : ℕ) → x < n → In x (upto n)
unfolding upto
in-upto zero x h = absurd (omega arith)
in-upto (suc n) x h = go (ℕ_discrete x n) (in-upto n x)
  where
    go : Dec (x ≡ n) → (x < n → In x (upto n)) → In x (n ∷ upto n)
    go (yes e) f = Memᴰ.head e
    go (no e) f = Memᴰ.tail (f (omega arith))

-- distinct numbers below n are at most n
pub distinct_below : (n : ℕ) (l : List ℕ) → Distinct l → ((x : ℕ) → In x l → x < n) → length l ≤ n
distinct_below n l d h = omega (arith, length_upto n, distinct_le (upto n) d (λ x m. in-upto n x (h x m)))
