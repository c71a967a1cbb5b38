-- One law for each code: `is_write_slot`, `is_sync_slot`, `is_flush_slot`, `is_truncate_slot`.
use Rattle.script_step.proofs.Ways.{is_write_slot, is_sync_slot, is_flush_slot, is_truncate_slot}
use Rattle.script_step.proofs.change_slot.Goals as goal

pub returns-then-code-eq23 : goal.returns-then-code-eq23
returns-then-code-eq23 c =
    is_write_slot _ _ c.args.op _ _ _ c.if-code-eq23.true c.write_slot.ensures

pub returns-then-code-eq24 : goal.returns-then-code-eq24
returns-then-code-eq24 c =
    is_sync_slot _ _ c.args.op _ _ c.if-code-eq23.false _ c.if-code-eq24.true c.sync_slot.ensures

pub returns-then-code-eq25 : goal.returns-then-code-eq25
returns-then-code-eq25 c =
    is_flush_slot _ _ c.args.op _ _ c.if-code-eq23.false c.if-code-eq24.false _ c.if-code-eq25.true c.flush_slot.ensures

pub returns : goal.returns
returns c =
    is_truncate_slot _ _ c.args.op _ _ c.if-code-eq23.false c.if-code-eq24.false _ c.if-code-eq25.false c.truncate_slot.ensures
