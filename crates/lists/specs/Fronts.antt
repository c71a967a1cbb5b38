-- Fronts and parts of lists: what `take` and `drop` make of one another, and of zeros.
use Rattle.std.specs.Prelude.{◌≡◌, ℕ, zero, suc, ◌+◌, ◌-◌, ◌<◌, ◌≤◌, min, Bool, true, false, List, [], ◌∷◌, ◌++◌, length, take, drop, replicate, nat_le, refl}
use Rattle.std.proofs.Common.{sym, ap, ◌∙◌, append_assoc, arith, length-append, take_at, take_all, take-take, leb-true, leb-false}
use Rattle.std.proofs.lemmas.List.{length-replicate, replicate-append-replicate}
use Rattle.std.proofs.Math.Seq.{take-nil}

module _ {A : Type 0} where
  -- a front cut off behind is a front of what is cut off
  pub drop_take : (k n : ℕ) (l : List A) → drop k (take n l) ≡ take (n - k) (drop k l)
  drop_take zero n l = let e : n - 0 ≡ n = omega arith in rw e
  drop_take (suc k) zero l = let e : 0 - suc k ≡ 0 = omega arith in rw e
  drop_take (suc k) (suc n) [] = sym (take-nil (suc n - suc k))
  drop_take (suc k) (suc n) (x ∷ l) = let e : suc n - suc k ≡ n - k = omega arith in rw e (drop_take k n l)

  -- no more than there are
  pub take_min : (n : ℕ) (l : List A) → take (min n (length l)) l ≡ take n l
  take_min n l = go (nat_le n (length l)) refl
    where
      go : (t : Bool) → nat_le n (length l) ≡ t → take (min n (length l)) l ≡ take n l
      go true e = let k : min n (length l) ≡ n = omega (arith, leb-true n (length l) e) in rw k
      go false e =
          let h : length l < n = leb-false n (length l) e in
          let k : min n (length l) ≡ length l = omega arith in
          rw (k, take_all (length l) l (omega arith), take_all n l (omega arith))

  pub take_cut : (n : ℕ) (l : List A) → take (length (take n l)) l ≡ take n l
  take_cut zero l = refl
  take_cut (suc n) [] = refl
  take_cut (suc n) (x ∷ l) = ap (λ (t : List A). x ∷ t) (take_cut n l)

  -- a part that lies in a front of l is that part of l
  pub take_inside : (i k n : ℕ) (l : List A) → i + k ≤ n → take k (drop i (take n l)) ≡ take k (drop i l)
  take_inside zero k n l h = take-take k n l (omega arith)
  take_inside (suc i) k zero l h = absurd (omega arith)
  take_inside (suc i) k (suc n) [] h = refl
  take_inside (suc i) k (suc n) (x ∷ l) h = take_inside i k n l (omega arith)

-- ---- zeros

pub drop_zeros : (k n : ℕ) → drop {A = ℕ} k (replicate n 0) ≡ replicate (n - k) 0
drop_zeros zero n = let z : n - 0 ≡ n = omega arith in rw z
drop_zeros (suc k) zero = let z : 0 - suc k ≡ 0 = omega arith in rw z
drop_zeros (suc k) (suc n) = let z : suc n - suc k ≡ n - k = omega arith in rw z (drop_zeros k n)

pub take_zeros : (k n : ℕ) → k ≤ n → take {A = ℕ} k (replicate n 0) ≡ replicate k 0
take_zeros zero n h = refl
take_zeros (suc k) zero h = absurd (omega arith)
take_zeros (suc k) (suc n) h = ap {B = List ℕ} (λ l. 0 ∷ l) (take_zeros k n (omega arith))

-- a front that ends in zeros which stand behind p
pub zeros_take : (p r : List ℕ) (n m : ℕ) → length p ≤ n → n ≤ length p + m
    → take n (p ++ (replicate m 0 ++ r)) ≡ p ++ replicate (n - length p) 0
zeros_take p r n m h l =
    let k = n - length p in
    let e : k + (m - k) ≡ m = omega arith in
    let w : length (p ++ replicate k 0) ≡ n = simp (length-append, length-replicate) (omega arith) in
    let q : List ℕ = replicate (m - k) 0 ++ r in
    ap (λ (x : List ℕ). take n (p ++ (x ++ r))) (ap (λ (x : ℕ). replicate x 0) (sym e) ∙ sym (replicate-append-replicate k (m - k) 0))
    ∙ ap (take n) (ap (λ (x : List ℕ). p ++ x) (append_assoc (replicate k 0) (replicate (m - k) 0) r) ∙ sym (append_assoc p (replicate k 0) q))
    ∙ take_at (p ++ replicate k 0) q n w
