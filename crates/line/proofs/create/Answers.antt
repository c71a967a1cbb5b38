-- The call's handle and its text: `creates`.
use Rattle.line.proofs.Ways.{creates}
use Rattle.line.proofs.create.Goals as goal

pub returns : goal.returns
returns c =
    creates _ _ _ _ c.number-number.ensures _ _ c.keeping.ensures c.ask-done.ensures c.say_open.ensures
