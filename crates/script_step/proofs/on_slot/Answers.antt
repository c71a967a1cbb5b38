-- The two ways out are `is_read_slot` and `is_change`.
use Rattle.slot_calls.specs.SlotCalls.{slot_done}
use Rattle.device.specs.Device.{dev}
use Rattle.script_step.proofs.Ways.{is_read_slot, is_change}
use Rattle.script_step.proofs.on_slot.Goals as goal

pub returns-then-code-eq22 : goal.returns-then-code-eq22
returns-then-code-eq22 c =
    is_read_slot _ _ c.args.op _ _ _ _ c.if-code-eq22.true c.read_slot.ensures

pub returns : goal.returns
returns c =
    let r = c.change_slot in
    is_change _ _ c.args.op _ _ c.args.buf.now (slot_done r.result (dev r.new.bytes r.new.phys r.new.place)) c.if-code-eq22.false r.ensures
