-- The invariant: the answer is that for the fronts that are not yet passed. `same_on` passes the last component of both.
use Rattle.std.proofs.Common.{◌≡◌, ◌≤◌, length, take}
use Rattle.path.specs.Path.{same_path}
use Rattle.path.proofs.same_walk.Given as goal

abbrev pub invariant-loop-p : goal.invariant-loop-p
invariant-loop-p l = (l.i ≤ length l.a) × (l.j ≤ length l.b) × (same_path l.a l.b ≡ same_path (take l.i l.a) (take l.j l.b))

abbrev pub decreases-loop-p : goal.decreases-loop-p
decreases-loop-p l = l.i
