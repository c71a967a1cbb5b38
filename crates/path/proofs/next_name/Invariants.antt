-- The invariant: the components behind `i` are those behind `at`. `name_some` takes the next part that stays.
use Rattle.std.proofs.Common.{◌≡◌, ◌-◌, ◌≤◌, length, drop}
use Rattle.path.specs.Walk.{rest}
use Rattle.path.proofs.next_name.Given as goal

abbrev pub invariant-loop-at : goal.invariant-loop-at
invariant-loop-at l = (l.i ≤ l.at) × (l.at ≤ length l.s) × (rest (drop l.i l.s) ≡ rest (drop l.at l.s))

abbrev pub decreases-loop-at : goal.decreases-loop-at
decreases-loop-at l = length l.s - l.at
