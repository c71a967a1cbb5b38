-- The parent's front is the nearest ancestor, unless it is empty or there is none: `above_of`.
use Rattle.path.proofs.Parents.{above_of}
use Rattle.path.proofs.above.Goals as goal

pub returns : goal.returns
returns c =
    rw c.unwrap_or.ensures (above_of _ _ c.parent_end.ensures)
