-- `all` over the rows, by `all_told`.
use Rattle.std.proofs.Common.{rules}
use Rattle.slot_rows.specs.Held.{held}
use Rattle.pool_test.specs.Test.{row_ok}
use Rattle.pool_test.proofs.Turns.{all_told}
use Rattle.pool_test.proofs.slots_ok.Goals as goal

pub returns : goal.returns
returns c = all_told (row_ok c.args.c (held c.args.rows.now)) c.args.rows.now.n _ _ _ c.all.ensures.ran (λ x b q k. search rules)
