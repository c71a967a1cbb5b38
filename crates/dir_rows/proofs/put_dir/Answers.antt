-- `put_dir` meets its contract by `row_put`: the row is zero, so the spelling and its length are all of it.
use Rattle.dir_rows.proofs.Puts.{row_put}
use Rattle.dir_rows.proofs.put_dir.Goals as goal

pub returns : goal.returns
returns c =
    let n = c.normalize-k in let all = row_put _ _ _ c.requires.0 c.requires.1 _ c.requires.2 n.ensures.laid n.ensures.long c.put_at.ensures in
    record { rows = all.0; flat = all.1 }
