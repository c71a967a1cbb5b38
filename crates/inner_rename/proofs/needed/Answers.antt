-- Carried by `need_two` and `need_one`.
use Rattle.inner_rename.proofs.Ways.{need_two, need_one}
use Rattle.inner_rename.proofs.needed.Goals as goal

pub returns-then-j-n : goal.returns-then-j-n
returns-then-j-n c =
    need_two _ _ c.if-j-n.true

pub returns-else-j-n : goal.returns-else-j-n
returns-else-j-n c =
    need_one _ _ c.if-j-n.false
