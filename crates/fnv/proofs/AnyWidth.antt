-- Laws of FNV-1a, at any prime and any width.
use Prim.Native.Nat.{ℕ, ◌*◌, ◌^◌, ◌<◌}
use mathlib.Core.Path.{◌≡◌, refl}
use mathlib.Core.List.{List, [], ◌∷◌, ◌++◌}
use native.Mathlib.Nat.{mod-lt}
use lib.Pow.{pow_pos}
use lib.Bits.{bit_xor}
use Rattle.fnv.specs.Fnv.{stepped, fnv1a}

module _ (prime width : ℕ) where
  -- Two lists, one after the other: the second goes on from the state after the first.
  pub fnv1a_append : (h : ℕ) (s t : List ℕ) → fnv1a prime width h (s ++ t) ≡ fnv1a prime width (fnv1a prime width h s) t
  unfolding fnv1a
  fnv1a_append h [] t = refl
  fnv1a_append h (b ∷ s) t = fnv1a_append (stepped prime width h b) s t

  -- The state stays in its width.
  pub fnv1a_lt : (h : ℕ) (s : List ℕ) → h < 2 ^ width → fnv1a prime width h s < 2 ^ width
  unfolding fnv1a stepped
  fnv1a_lt h [] l = l
  fnv1a_lt h (b ∷ s) l = fnv1a_lt (stepped prime width h b) s (mod-lt (bit_xor h b * prime) (pow_pos width))
