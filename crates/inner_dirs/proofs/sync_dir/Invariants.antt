-- Carried by the record `Syncing`: the slots that are left come to the whole.
use Rattle.device.specs.Device.{dev}
use Rattle.pool_state.specs.State.{bufs}
use Rattle.pool_steps.specs.World.{lent, view_w}
use Rattle.inner_dirs.proofs.Syncing.{Syncing}
use Rattle.inner_dirs.proofs.sync_dir.Given as goal

abbrev pub invariant-loop-i : goal.invariant-loop-i
invariant-loop-i l =
    Syncing l.plan l.geometry l.path l.pool.held (view_w (lent (dev l.initial.bytes l.initial.phys l.initial.at) (bufs l.pool l.initial.nums l.names l.dirs))) (lent (dev l.bytes l.phys l.at) (bufs l.pool l.nums l.names l.dirs)) l.i
