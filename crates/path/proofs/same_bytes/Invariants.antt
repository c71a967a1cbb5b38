-- The invariant: the answer is that for what stands before `i` in both. `words_next` passes eight bytes.
use Rattle.std.proofs.Common.{◌≡◌, ◌≤◌, take}
use Rattle.lists.specs.Same.{same_bytes}
use Rattle.path.proofs.same_bytes.Given as goal

abbrev pub invariant-loop-i : goal.invariant-loop-i
invariant-loop-i l = (l.i ≤ l.n) × (same_bytes l.a l.b ≡ same_bytes (take l.i l.a) (take l.i l.b))

abbrev pub decreases-loop-i : goal.decreases-loop-i
decreases-loop-i l = l.i
