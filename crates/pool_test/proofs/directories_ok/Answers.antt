-- `all` over the directories, by `all_judged`: all are fine, or one that isn't judges them all.
use Rattle.std.proofs.Common.{rules}
use Rattle.pool_test.proofs.Upright.{all_judged}
use Rattle.pool_test.proofs.directories_ok.Goals as goal

pub returns : goal.returns
returns c = all_judged c.args.dirs.now c.args.m _ _ _ c.all.ensures.ran (λ x b q k. search rules)
