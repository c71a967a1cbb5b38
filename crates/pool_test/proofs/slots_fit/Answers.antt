-- `all` over the slot rows, by `all_told`.
use Rattle.std.proofs.Common.{rules}
use Rattle.pool_test.specs.Test.{row_fits}
use Rattle.pool_test.proofs.Turns.{all_told}
use Rattle.pool_test.proofs.slots_fit.Goals as goal

pub returns : goal.returns
returns c = all_told (row_fits c.args.nums.now c.args.names.now) c.args.n _ _ _ c.all.ensures.ran (λ x b q k. search rules)
