-- A number as text. 48 is `0`.
use Rattle.std.specs.Prelude.{ℕ, zero, suc, ◌+◌, ◌/◌, ◌%◌, cond, List, [], ◌∷◌, ◌++◌, ltb}

-- The last digits of n, at most k of them: none in front of the first that counts.
unfoldable pub digits_of : ℕ → ℕ → List ℕ
digits_of zero n = []
digits_of (suc k) n = cond (ltb n 10) ((48 + n) ∷ []) (digits_of k (n / 10) ++ ((48 + n % 10) ∷ []))

-- A number in decimal, with no zero in front; a u64 has at most 20 digits.
unfoldable pub decimal_of : ℕ → List ℕ
decimal_of n = digits_of 20 n
