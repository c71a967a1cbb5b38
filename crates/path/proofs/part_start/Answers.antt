-- By `starts_front` and `starts_behind`: the part starts behind the last slash of what was lent.
use Rattle.std.proofs.Common.{rules}
use Rattle.std.proofs.iter.runs.Made.{chains}
use Rattle.path.proofs.Backs.{starts_front, starts_behind}
use Rattle.path.proofs.part_start.Goals as goal

pub returns-in-None : goal.returns-in-None
returns-in-None c =
    starts_front c.args.s.now c.args.e (search (rules, chains))

pub returns-in-Some : goal.returns-in-Some
returns-in-Some c =
    starts_behind c.args.s.now c.args.e c.in-Some.k (search (rules, chains)) (search (rules, chains)) (search (rules, chains))
