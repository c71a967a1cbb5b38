-- Up to eight bytes are all of the text, or its end: `tail_all`, `tail_eight`.
use Rattle.std.proofs.Common.{◌∙◌}
use Rattle.path.proofs.Keys.{tail_all, tail_eight}
use Rattle.path.proofs.tail_number.Goals as goal

pub returns-then-n-lt8 : goal.returns-then-n-lt8
returns-then-n-lt8 c =
    c.get_le.ensures ∙ tail_all _ c.if-n-lt8.true

pub returns : goal.returns
returns c =
    c.get_at.ensures ∙ tail_eight _ c.if-n-lt8.false
