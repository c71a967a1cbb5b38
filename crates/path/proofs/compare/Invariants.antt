-- The invariant: what is to be compared is what is left of both, joined alike. `cmp_differ` settles the first components that differ.
use Rattle.std.proofs.Common.{◌≡◌, ◌-◌, ◌≤◌, Bool, length}
use Rattle.lists.specs.Order.{byte_order}
use Rattle.path.specs.Path.{join, path_order}
use Rattle.path.specs.Walk.{left}
use Rattle.path.proofs.compare.Given as goal

abbrev pub invariant-loop-p : goal.invariant-loop-p
invariant-loop-p l = (l.i ≤ length l.a) × (l.j ≤ length l.b) × ((w : Bool) × (path_order l.a l.b ≡ byte_order (join w (left l.a l.i)) (join w (left l.b l.j))))

abbrev pub decreases-loop-p : goal.decreases-loop-p
decreases-loop-p l = length l.a - l.i
