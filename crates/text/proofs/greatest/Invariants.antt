-- `greatest` meets its contract by `greatest_turn`: the greater of `top` and the greatest byte left is the answer. Assumes nothing.
use mathlib.Core.Path.{◌≡◌}
use Prim.Native.Nat.{max}
use lib.ListN.{drop}
use Rattle.text.specs.Greatest.{greatest}
use Rattle.text.proofs.greatest.Given as goal

abbrev pub invariant-loop-b : goal.invariant-loop-b
invariant-loop-b l = max l.top (greatest (drop l.b-index l.s)) ≡ greatest l.s
