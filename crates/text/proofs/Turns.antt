-- One turn of each loop: what the bytes from i on give is what byte i and those behind it give; and the end of the one for
-- the greatest byte. Assumes nothing.
use Prim.Native.Nat.{ℕ, suc, ◌+◌, ◌≤◌, ◌<◌, max}
use mathlib.Core.Path.{◌≡◌}
use mathlib.Core.List.{List}
use lib.ListN.{length, get_or, drop, drop_of_length-le}
use lib.Seq.{drop-cons}
use native.Mathlib.Numerals.{add-one}
use native.Mathlib.Omega.{arith}
use Rattle.text.specs.declared.Due.{Due}
use Rattle.text.specs.Text.{step_of, walk_of}
use Rattle.text.specs.Greatest.{greatest}

pub walk_turn : (d : Due) (s : List ℕ) (i : ℕ) → i < length s → walk_of (step_of d (get_or s i 0)) (drop (i + 1) s) ≡ walk_of d (drop i s)
unfolding walk_of
walk_turn d s i h = rw (add-one, drop-cons s i 0 h)

max_assoc : (a b c : ℕ) → max (max a b) c ≡ max a (max b c)
max_assoc a b c = omega arith

pub greatest_turn : (t : ℕ) (s : List ℕ) (i : ℕ) → i < length s → max (max t (get_or s i 0)) (greatest (drop (i + 1) s)) ≡ max t (greatest (drop i s))
unfolding greatest
greatest_turn t s i h = rw (add-one, drop-cons s i 0 h) (max_assoc t (get_or s i 0) (greatest (drop (suc i) s)))

pub greatest_end : (t : ℕ) (s : List ℕ) (i : ℕ) → length s ≤ i → max t (greatest (drop i s)) ≡ greatest s → t ≡ greatest s
unfolding greatest
greatest_end t s i h e =
    let z : greatest (drop i s) ≡ 0 = rw (drop_of_length-le s h) in
    omega (arith, z, e)
