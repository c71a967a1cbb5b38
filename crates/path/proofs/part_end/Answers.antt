-- By `run_none` and `run_some`: the run ends at the first slash of what was lent.
use Rattle.std.proofs.Common.{rules}
use Rattle.std.proofs.iter.runs.Made.{chains}
use Rattle.path.proofs.Walks.{run_none, run_some}
use Rattle.path.proofs.part_end.Goals as goal

pub returns-in-None-clause-ends : goal.returns-in-None-clause-ends
returns-in-None-clause-ends c =
    run_none c.args.s.now c.args.i c.requires (search (rules, chains))

pub returns-in-Some-clause-ends : goal.returns-in-Some-clause-ends
returns-in-Some-clause-ends c =
    run_some c.args.s.now c.args.i c.requires c.in-Some.k (search (rules, chains)) (search (rules, chains)) (search (rules, chains))
