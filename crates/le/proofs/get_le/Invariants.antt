-- `get_le` meets its contract by `read_more`: the number so far is that of the bytes passed, from the end.
use Rattle.le.proofs.Turns.{Read}
use Rattle.le.proofs.get_le.Given as goal

abbrev pub invariant-loop-b : goal.invariant-loop-b
invariant-loop-b l = Read l.src l.b-iterator.iter.rest.now l.r
