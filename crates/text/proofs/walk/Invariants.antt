-- `walk` meets its contract by `walk_turn`: from d, the bytes left lead where all of s leads from between. Assumes nothing.
use mathlib.Core.Path.{◌≡◌}
use lib.ListN.{drop}
use Rattle.text.specs.Text.{walk_of, between}
use Rattle.text.proofs.walk.Given as goal

abbrev pub invariant-loop-b : goal.invariant-loop-b
invariant-loop-b l = walk_of l.d (drop l.b-index l.s) ≡ walk_of between l.s
