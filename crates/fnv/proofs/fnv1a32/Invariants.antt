-- `fnv1a32` meets its contract by `turn`: the state, taken on over the bytes left, is always the answer.
use mathlib.Core.Path.{◌≡◌}
use lib.ListN.{drop}
use Rattle.fnv.specs.Fnv.{fnv_from}
use Rattle.fnv.proofs.fnv1a32.Given as goal

abbrev pub invariant-loop-b : goal.invariant-loop-b
invariant-loop-b l = fnv_from l.h (drop l.b-index l.s) ≡ fnv_from l.start l.s
