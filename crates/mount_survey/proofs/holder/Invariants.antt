-- The invariant `Passed`: no row before j holds the path.
use Rattle.mount_survey.proofs.Finding.{Passed}
use Rattle.slot_rows.specs.Held.{held}
use Rattle.mount_survey.proofs.holder.Given as goal

abbrev pub invariant-loop-j : goal.invariant-loop-j
invariant-loop-j l = Passed (held l.rows) l.lost l.p l.i l.j
