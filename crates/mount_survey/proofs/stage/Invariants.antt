-- The invariant `Stages`: the rows so far and the heads ahead are the whole.
use Rattle.mount_survey.proofs.Staging.{Stages}
use Rattle.mount_survey.proofs.stage.Given as goal

abbrev pub invariant-loop-i : goal.invariant-loop-i
invariant-loop-i l = Stages l.plan l.geometry l.bytes l.phys l.cap l.n l.k l.initial.at l.initial.nums l.initial.names l.nums l.names l.at l.asked l.i
