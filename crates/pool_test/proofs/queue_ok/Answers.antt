-- `all` over the queue, by `all_told`.
use Rattle.std.proofs.Common.{rules}
use Rattle.slot_rows.specs.Held.{held}
use Rattle.pool_test.specs.Test.{cell_ok}
use Rattle.pool_test.proofs.Turns.{all_told}
use Rattle.pool_test.proofs.queue_ok.Goals as goal

pub returns : goal.returns
returns c = all_told (cell_ok (held c.args.rows.now) c.args.q.now) c.args.m _ _ _ c.all.ensures.ran (λ x b q k. search rules)
