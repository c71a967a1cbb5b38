-- Turns of the search for a path's row: what is found from row i on, counted from i, is what is found.
use mathlib.Core.Path.{◌≡◌}
use mathlib.Core.List.{List}
use mathlib.Core.Bool.{true, false, cond}
use Prim.Native.Nat.{ℕ, suc, ◌+◌, ◌≤◌, ◌<◌}
use native.Mathlib.Numerals.{add-one}
use native.Mathlib.Omega.{arith}
use lib.ListN.{length, drop, drop_of_length-le}
use lib.Seq.{drop-cons}
use Rattle.slot_rows.specs.Rows.{Row, none, at, holds, find}

find_turn : (p : List ℕ) (rs : List Row) (i : ℕ) → i < length rs → find p (drop i rs) ≡ cond (holds p (at rs i)) 0 (suc (find p (drop (i + 1) rs)))
unfolding find
find_turn p rs i h = rw (add-one, drop-cons rs i none h)

module _ (p : List ℕ) (rs : List Row) (i n : ℕ) (e : i + find p (drop i rs) ≡ find p rs) (long : length rs ≡ n) where
  pub found_here : i < n → true ≡ holds p (at rs i) → i ≡ find p rs
  found_here h t = let z = (rw (find_turn p rs i (omega arith), ← t) at e) in omega arith

  pub found_later : i < n → false ≡ holds p (at rs i) → i + 1 + find p (drop (i + 1) rs) ≡ find p rs
  found_later h t = let z = (rw (find_turn p rs i (omega arith), ← t) at e) in omega arith

  pub found_none : i ≤ n → n ≤ i → n ≡ find p rs
  unfolding find
  found_none a b = let z = (rw (drop_of_length-le rs {i = i} (omega arith)) at e) in omega arith
