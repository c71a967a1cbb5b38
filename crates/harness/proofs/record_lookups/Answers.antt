-- That it is a pool is what the test says.
use mathlib.Core.Path.{sym, ◌∙◌}
use Rattle.pool_test.proofs.Exactly.{pool_exactly}
use Rattle.harness.proofs.record_lookups.Goals as goal

pub lookups-requires : goal.lookups-requires
lookups-requires c =
    (pool_exactly _).0 (sym c.pool_ok.ensures ∙ c.if-pool_ok.true)
