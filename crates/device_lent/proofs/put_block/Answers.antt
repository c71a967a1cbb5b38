-- `put_stopped` and `put_done` say what the two ways out come to.
use Rattle.device.specs.Device.{dev}
use Rattle.device_lent.proofs.Ways.{put_stopped, put_done}
use Rattle.device_lent.proofs.put_block.Goals as goal

pub returns-then-at-ne0-clause-same : goal.returns-then-at-ne0-clause-same
returns-then-at-ne0-clause-same c =
    let a = c.args in let n = c.header_write.new in
    put_stopped a.plan.now a.geometry a.slot (dev a.bytes.now a.phys.now a.place) n.bytes n.phys n.at a.block c.header_write.ensures.same c.if-at-ne0.true

pub returns-clause-same : goal.returns-clause-same
returns-clause-same c =
    let a = c.args in let n = c.header_write.new in
    put_done a.plan.now a.geometry a.slot (dev a.bytes.now a.phys.now a.place) n.bytes n.phys n.at a.block c.header_write.ensures.same c.flush.new.at c.if-at-ne0.false c.flush.ensures
