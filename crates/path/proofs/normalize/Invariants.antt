-- The invariant `Writing`: what is written and what is left to join are the whole. `writing_more` puts one piece.
use Rattle.std.proofs.Common.{◌≡◌, ◌-◌, ◌≤◌, length}
use Rattle.path.specs.Path.{join, normal}
use Rattle.path.specs.Walk.{left}
use Rattle.path.proofs.Writes.{Writing}
use Rattle.path.proofs.normalize.Given as goal

abbrev pub invariant-loop-p : goal.invariant-loop-p
invariant-loop-p l = (l.at ≤ length l.src) × (length l.dst ≡ length l.initial.dst) × Writing (normal l.src) l.initial.dst l.dst l.out (join l.sep (left l.src l.at))

abbrev pub decreases-loop-p : goal.decreases-loop-p
decreases-loop-p l = length l.src - l.at
