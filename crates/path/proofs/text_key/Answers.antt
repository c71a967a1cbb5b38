-- Carried by `text_key_is`.
use Rattle.std.proofs.Common.{refl}
use Rattle.path.proofs.Keys.{text_key_is}
use Rattle.path.proofs.text_key.Goals as goal

pub returns : goal.returns
returns c =
    text_key_is _ _ _ c.tail_number-x.ensures refl
