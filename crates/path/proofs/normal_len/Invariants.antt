-- The invariant: what is counted and what is left to join are the whole. `len_turn` counts one component.
use Rattle.std.proofs.Common.{◌≡◌, ◌+◌, ◌-◌, ◌≤◌, length}
use Rattle.path.specs.Path.{join, normal}
use Rattle.path.specs.Walk.{left}
use Rattle.path.proofs.normal_len.Given as goal

abbrev pub invariant-loop-p : goal.invariant-loop-p
invariant-loop-p l = (l.at ≤ length l.s) × (length (normal l.s) ≡ l.out + length (join l.sep (left l.s l.at)))

abbrev pub decreases-loop-p : goal.decreases-loop-p
decreases-loop-p l = length l.s - l.at
