-- `all` over the directory rows, by `all_told`.
use Rattle.std.proofs.Common.{rules}
use Rattle.pool_test.specs.Test.{dir_fits}
use Rattle.pool_test.proofs.Turns.{all_told}
use Rattle.pool_test.proofs.dirs_fit.Goals as goal

pub returns : goal.returns
returns c = all_told (dir_fits c.args.dirs.now) c.args.m _ _ _ c.all.ensures.ran (λ x b q k. search rules)
