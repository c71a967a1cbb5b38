-- The invariant: the front up to `e` has all the components. `last_name` says what the last part of it is.
use Rattle.std.proofs.Common.{◌≡◌, ◌≤◌, length, take}
use Rattle.path.specs.Path.{components}
use Rattle.path.proofs.last.Given as goal

abbrev pub invariant-loop-e : goal.invariant-loop-e
invariant-loop-e l = (l.e ≤ length l.s) × (components l.s ≡ components (take l.e l.s))

abbrev pub decreases-loop-e : goal.decreases-loop-e
decreases-loop-e l = l.e
