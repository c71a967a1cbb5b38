-- `register_ancestors` meets its contract by the record `Going`: the rows so far and what is missing of the ancestors ahead are the whole.
use Rattle.dir_rows.proofs.Walks.{Going}
use Rattle.dir_rows.proofs.register_ancestors.Given as goal

abbrev pub invariant-loop-end : goal.invariant-loop-end
invariant-loop-end l = Going l.cap l.m l.initial.dirs l.p l.dirs l.n l.end

abbrev pub decreases-loop-end : goal.decreases-loop-end
decreases-loop-end l = l.end
