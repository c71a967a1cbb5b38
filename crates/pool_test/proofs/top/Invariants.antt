-- The greatest so far and of what is left is the greatest.
use Rattle.std.proofs.Common.{◌≡◌, max, drop}
use Rattle.text.specs.Greatest.{greatest}
use Rattle.pool_test.proofs.top.Given as goal

abbrev pub invariant-loop-x : goal.invariant-loop-x
invariant-loop-x l = max l.t (greatest (drop l.x-index l.s)) ≡ greatest l.s
