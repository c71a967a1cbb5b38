-- Carried by the record `Going`: running the operations that are left gives the whole run.
use Rattle.std.proofs.Common.{◌-◌, length}
use Rattle.device.specs.Device.{dev}
use Rattle.pool_state.specs.State.{bufs}
use Rattle.pool_steps.specs.World.{lent}
use Rattle.output.specs.Writer.{shown}
use Rattle.script.proofs.Ways.{Going}
use Rattle.script.proofs.run.Given as goal

abbrev pub invariant-loop-op : goal.invariant-loop-op
invariant-loop-op l =
    Going l.script l.plan l.geometry l.from
    (lent (dev l.initial.bytes l.initial.phys l.initial.ran.place) (bufs l.initial.ran.pool l.initial.nums l.initial.names l.initial.dirs))
    (shown l.initial.out 0) l.pos (lent (dev l.bytes l.phys l.ran.place) (bufs l.ran.pool l.nums l.names l.dirs)) (shown l.out l.ran.at)

abbrev pub decreases-loop-op : goal.decreases-loop-op
decreases-loop-op l = length l.script - l.pos
