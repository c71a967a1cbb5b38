-- The two ways out are `made_on_slot` and `made_on_pool`.
use Rattle.script_step.proofs.Ways.{made_on_slot, made_on_pool}
use Rattle.script_step.proofs.make.Goals as goal

pub returns-then-code-ge22 : goal.returns-then-code-ge22
returns-then-code-ge22 c =
    made_on_slot _ _ _ c.args.op _ _ _ c.if-code-ge22.true c.on_slot-slot.ensures

pub returns : goal.returns
returns c =
    made_on_pool _ _ _ c.args.op _ _ _ _ c.if-code-ge22.false c.number.ensures c.ask-reply.ensures
