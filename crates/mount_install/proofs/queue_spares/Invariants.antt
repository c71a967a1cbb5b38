-- The invariant: what is left to queue gives the whole queue.
use Prim.Native.Nat.{◌≤◌}
use Rattle.mount_install.proofs.Walks.{Queueing}
use Rattle.mount_install.proofs.queue_spares.Given as goal

abbrev pub invariant-loop-i : goal.invariant-loop-i
invariant-loop-i l = (l.i ≤ l.rows.n) × (l.q.free ≤ l.i) × Queueing l.rows.nums.now l.rows.names.now l.n l.rows.n l.initial.q l.i l.q
