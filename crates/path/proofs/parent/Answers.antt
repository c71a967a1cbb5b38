-- The parent is a front of the given spelling, and is written in normal spelling: `up_laid`.
use Rattle.path.proofs.Parents.{parent_kept, up_room, up_laid}
use Rattle.path.proofs.parent.Goals as goal

pub returns-in_err-e : goal.returns-in_err-e
returns-in_err-e c =
    let all = parent_kept _ _ _ c.in_err-e.ensures c.from_residual.ensures in
    record { long = all.0; laid = all.1 }

pub normalize-requires : goal.normalize-requires
normalize-requires c =
    up_room _ _ _ c.in_ok-e.ensures c.requires

pub returns : goal.returns
returns c =
    let all = up_laid _ _ _ _ _ c.in_ok-e.ensures (c.normalize.ensures.laid, c.normalize.ensures.long) in
    record { long = all.0; laid = all.1 }
