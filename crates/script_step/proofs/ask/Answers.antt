-- Carried by `asked`: the call that is made is the operation's.
use Rattle.script_step.proofs.Ways.{asked}
use Rattle.script_step.proofs.ask.Goals as goal

pub returns : goal.returns
returns c =
    asked _ _ _ _ _ _ _ _ _ c.call_of-call.ensures c.on_numbers.ensures
