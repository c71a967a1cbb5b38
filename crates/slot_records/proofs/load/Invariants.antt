-- Carried by `load_turn`: the numbers that are still to come, laid over the rest, make the whole of it.
use Rattle.slot_records.proofs.Turns.{Loading}
use Rattle.slot_records.proofs.load.Given as goal

abbrev pub invariant-loop-i : goal.invariant-loop-i
invariant-loop-i l = Loading l.rows l.initial.nums l.i l.nums
