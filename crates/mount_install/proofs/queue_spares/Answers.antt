-- The invariant: what is left to queue gives the whole queue.
use mathlib.Core.Path.{refl}
use Rattle.mount_install.proofs.Walks.{queueing_more, queueing_room, queueing_done}
use native.Mathlib.Omega.{arith}
use Rattle.mount_install.proofs.queue_spares.Goals as goal

pub loop-i-init : goal.loop-i-init
loop-i-init c =
    (omega arith, omega arith, refl)

pub is_bound-requires : goal.is_bound-requires
is_bound-requires c =
    (c.requires.0, omega arith)

pub queue_spare-q-requires : goal.queue_spare-q-requires
queue_spare-q-requires c =
    (omega arith, omega arith)

pub loop-i-preserved : goal.loop-i-preserved
loop-i-preserved c =
    (omega arith, queueing_room _ c.loop-i.q _ c.is_bound.result c.loop-i.invariant.1 c.queue_spare-q.ensures, queueing_more _ _ _ _ _ _ _ _ _ c.loop-i.invariant.2 c.loop-i-test.true c.is_bound.ensures c.queue_spare-q.ensures)

pub returns : goal.returns
returns c =
    queueing_done _ _ _ _ _ _ _ c.loop-i.invariant.2 (omega arith)
