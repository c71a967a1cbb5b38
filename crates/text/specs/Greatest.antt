-- The greatest byte of a run, and what it tells of the run.
use Rattle.std.specs.Prelude.{ℕ, zero, suc, ◌≤◌, ◌<◌, max, ◌≡◌, refl, List, [], ◌∷◌, length, get_or, replicate}
use Rattle.std.proofs.Common.{ap, ap₂, ◌∙◌, arith}

-- The greatest number of a list, 0 where there is none.
unfoldable pub greatest : List ℕ → ℕ
greatest [] = 0
greatest (b ∷ s) = max b (greatest s)

-- No byte is above it.
pub at_most_greatest : (s : List ℕ) (i : ℕ) → i < length s → get_or s i 0 ≤ greatest s
unfolding greatest
at_most_greatest [] i h = omega arith
at_most_greatest (b ∷ s) zero h = omega arith
at_most_greatest (b ∷ s) (suc i) h =
    let k = at_most_greatest s i (omega arith) in
    omega (arith, k)

-- A run whose greatest byte is 0 is zeros.
pub greatest_zero : (s : List ℕ) → greatest s ≡ 0 → s ≡ replicate (length s) 0
unfolding greatest
greatest_zero [] e = refl
greatest_zero (b ∷ s) e =
    let z : b ≡ 0 = omega arith in
    ap₂ ◌∷◌ z (greatest_zero s (omega arith))

-- The greatest byte of zeros is 0.
pub greatest_zeros : (n : ℕ) → greatest (replicate n 0) ≡ 0
unfolding greatest
greatest_zeros zero = refl
greatest_zeros (suc n) =
    let k = greatest_zeros n in
    omega (arith, k)

-- So the greatest byte is 0 exactly of zeros.
pub zero_greatest : (s : List ℕ) → s ≡ replicate (length s) 0 → greatest s ≡ 0
zero_greatest s e = ap greatest e ∙ greatest_zeros (length s)
