-- A turn of the loop of `fnv1a32`: the next byte goes into the state.
use Prim.Native.Nat.{ℕ, ◌+◌, ◌<◌}
use mathlib.Core.Path.{◌≡◌, refl}
use mathlib.Core.List.{List, []}
use native.Mathlib.Numerals.{add-one}
use lib.ListN.{length, drop, get_or}
use lib.Seq.{drop-cons}
use Rattle.fnv.specs.Fnv.{stepped, fnv1a}

pub turn : (prime width h : ℕ) (s : List ℕ) (i : ℕ) → i < length s
    → fnv1a prime width h (drop i s) ≡ fnv1a prime width (stepped prime width h (get_or s i 0)) (drop (i + 1) s)
unfolding fnv1a
turn prime width h s i l = rw (add-one, drop-cons s i 0)

-- After the last byte nothing is left.
pub done : (prime width h : ℕ) → fnv1a prime width h [] ≡ h
unfolding fnv1a
done prime width h = refl
