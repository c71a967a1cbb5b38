-- Carried by `store_turn`: the rows that are still to come, laid over the rest, make the whole of it.
use Rattle.slot_records.proofs.Turns.{Storing}
use Rattle.slot_records.proofs.store.Given as goal

abbrev pub invariant-loop-i : goal.invariant-loop-i
invariant-loop-i l = Storing l.nums l.initial.rows l.i l.rows
