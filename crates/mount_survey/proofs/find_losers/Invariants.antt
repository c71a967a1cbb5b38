-- The invariant `Finding`: the losers so far, and those of the rows ahead on top of the holders so far, are the losers.
use Rattle.slot_rows.specs.Rows.{rows_of}
use Rattle.mount_survey.proofs.Finding.{Finding}
use Rattle.mount_survey.proofs.find_losers.Given as goal

abbrev pub invariant-loop-i : goal.invariant-loop-i
invariant-loop-i l = Finding (rows_of l.nums l.names l.m) l.n l.m l.i l.lost l.list l.count
