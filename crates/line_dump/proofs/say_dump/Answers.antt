-- One law for each way out: `dump_no`, `dump_yes`.
use mathlib.Core.Path.{sym, ◌∙◌}
use Rattle.pool_test.proofs.Exactly.{is_pool_of}
use Rattle.line_dump.proofs.Ways.{dump_no, dump_yes}
use Rattle.line_dump.proofs.say_dump.Goals as goal

pub returns-then-not-pool_ok : goal.returns-then-not-pool_ok
returns-then-not-pool_ok c =
    dump_no _ _ (sym c.pool_ok.ensures ∙ c.if-not-pool_ok.true) c.say_no.ensures

pub put_pool-requires : goal.put_pool-requires
put_pool-requires c =
    is_pool_of _ (sym c.pool_ok.ensures ∙ c.if-not-pool_ok.false)

pub returns : goal.returns
returns c =
    dump_yes _ _ (sym c.pool_ok.ensures ∙ c.if-not-pool_ok.false) c.put_pool.ensures
