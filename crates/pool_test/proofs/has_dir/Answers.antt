-- `any` over the directories, by `any_told`.
use Rattle.std.proofs.Common.{rules}
use Rattle.pool_test.specs.Keys.{is_dir}
use Rattle.pool_test.proofs.Turns.{any_told}
use Rattle.pool_test.proofs.has_dir.Goals as goal

pub returns : goal.returns
returns c = any_told (is_dir c.args.dirs.now c.args.p.now) c.args.m _ _ _ c.any.ensures.ran (λ x b q k. search rules)
