-- Laws of numbers as text: what the fewest digits are, and how many; and of output from the start on.
use Prim.Native.Nat.{ℕ, zero, suc, ◌+◌, ◌-◌, ◌/◌, ◌%◌, ◌^◌, ◌≤◌, ◌<◌}
use native.Mathlib.Omega.{arith}
use native.Mathlib.Nat.{pow-suc, one-le-pow, pow-le-pow_right}
use mathlib.Core.Path.{◌≡◌, refl, ap, ap₂, ◌∙◌}
use mathlib.Core.Bool.{Bool, true, false, cond}
use mathlib.Core.List.{List, [], ◌∷◌, ◌++◌}
use lib.Dec.{ltb, leb}
use lib.ListN.{length, length-append}
use borrow.Author.Tests.{lt-ltb, le-ltb, leb-true, leb-false}
use Rattle.output.specs.Writer.{Shown, shown, pours, poured}
use Rattle.output.proofs.InParts.{pours_all}
use Rattle.io.specs.Digits.{last_digits, hex_digit_ascii, IsDigitCount}
use Rattle.line_answers.specs.Decimal.{digits_of, decimal_of}
use Rattle.line_answers.specs.Answers.{spaced}

digits_few : (k n : ℕ) → length (digits_of k n) ≤ k
unfolding digits_of
digits_few zero n = omega arith
digits_few (suc k) n = go (ltb n 10) (digits_few k (n / 10))
  where
    go : (t : Bool) → length (digits_of k (n / 10)) ≤ k → length (cond t ((48 + n) ∷ []) (digits_of k (n / 10) ++ ((48 + n % 10) ∷ []))) ≤ suc k
    go true h = omega arith
    go false h = rw length-append (omega arith)

pub spaced_few : (n : ℕ) → length (spaced n) ≤ 21
unfolding spaced decimal_of
spaced_few n = omega (arith, digits_few 20 n)

-- the fewest digits that hold a number are its decimal
digit : (n : ℕ) → hex_digit_ascii (n % 10) ≡ 48 + n % 10
digit n = let z : ltb (n % 10) 10 ≡ true = lt-ltb (n % 10) 10 (omega arith) in rw z

few_digits : (k j n : ℕ) → k ≤ j → IsDigitCount 10 1 n k → last_digits 10 k n ≡ digits_of j n
unfolding digits_of
few_digits zero j n h f = absurd (omega arith)
few_digits (suc zero) zero n h f = absurd (omega arith)
few_digits (suc zero) (suc j) n h f =
    let z : ltb n 10 ≡ true = lt-ltb n 10 (omega arith) in
    let m : n % 10 ≡ n = omega arith in
    ap {B = List ℕ} (λ d. d ∷ []) (digit n) ∙ rw (z, m)
few_digits (suc (suc k)) zero n h f = absurd (omega arith)
few_digits (suc (suc k)) (suc j) n h f =
    let p = one-le-pow k 10 (omega arith) in
    let e : suc (suc k) - 1 ≡ suc k = omega arith in
    let low : 10 ^ suc k ≤ n = rw e at (f.2 (omega arith)) in
    let high : n < 10 ^ suc (suc k) = f.1 in
    let z : ltb n 10 ≡ false = le-ltb n 10 (omega (arith, pow-suc 10 k)) in
    let less : n / 10 < 10 ^ suc k = omega (arith, pow-suc 10 (suc k)) in
    let d : suc k - 1 ≡ k = omega arith in
    let least : 1 < suc k → 10 ^ (suc k - 1) ≤ n / 10 = λ l. rw d (omega (arith, pow-suc 10 k)) in
    let ih : last_digits 10 (suc k) (n / 10) ≡ digits_of j (n / 10) = few_digits (suc k) j (n / 10) (omega arith) (omega arith, less, least) in
    ap₂ (λ (x : List ℕ) (d : ℕ). x ++ (d ∷ [])) ih (digit n) ∙ rw z

-- a u64 takes at most 20
pub fewest_few : (k n : ℕ) → n < 2 ^ 64 → IsDigitCount 10 1 n k → k ≤ 20
fewest_few k n h f = go (leb k 20) refl
  where
    go : (t : Bool) → leb k 20 ≡ t → k ≤ 20
    go true e = leb-true k 20 e
    go false e =
        let l : 20 < k = leb-false k 20 e in
        let p : 10 ^ 20 ≤ 10 ^ (k - 1) = pow-le-pow_right {n = 10} (omega arith) {i = 20} {j = k - 1} (omega arith) in
        absurd (omega (arith, f.2 (omega arith)))

pub fewest_decimal : (k n : ℕ) → n < 2 ^ 64 → IsDigitCount 10 1 n k → last_digits 10 k n ≡ decimal_of n
unfolding decimal_of
fewest_decimal k n h f = few_digits k 20 n (fewest_few k n h f) f

-- ---- output from the start on

pub whole : (xs out : List ℕ) {o : Shown} → o ≡ pours xs (shown out 0) → o ≡ poured xs out
whole xs out e = e ∙ pours_all xs out
