-- The one function of the public calls, on the program's device: `on_card_is`.
use Rattle.line.proofs.Ways.{on_card_is}
use Rattle.line.proofs.ask.Goals as goal

pub returns : goal.returns
returns c =
    on_card_is _ _ _ _ _ _ _ _ _ c.geometry.ensures c.make.auto.buf c.make.ensures
