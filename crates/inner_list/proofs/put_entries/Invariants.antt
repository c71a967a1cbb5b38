-- The invariant `Putting`: what is still to be written makes the whole of it.
use Rattle.inner_list.proofs.Ways.{Putting}
use Rattle.inner_list.proofs.put_entries.Given as goal

abbrev pub invariant-loop-x : goal.invariant-loop-x
invariant-loop-x l = Putting l.kind l.bytes l.spans l.initial.buf l.at l.x-index l.end l.buf
