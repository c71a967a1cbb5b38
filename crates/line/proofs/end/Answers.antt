-- The call's number and its text: `ends`.
use Rattle.line.proofs.Ways.{ends}
use Rattle.line.proofs.end.Goals as goal

pub returns : goal.returns
returns c =
    ends _ _ _ _ c.number.ensures _ _ _ c.ask-done.ensures c.say_end.ensures
