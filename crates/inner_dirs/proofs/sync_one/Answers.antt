-- One law for each way out: `one_not`, `one_due`.
use mathlib.Core.Path.{sym, ◌∙◌}
use Rattle.pool_state.specs.InBuffers.{pool_rows}
use Rattle.inner_dirs.proofs.Ways.{due_bound, one_not, one_due}
use Rattle.inner_dirs.proofs.sync_one.Goals as goal

pub is_due-requires : goal.is_due-requires
is_due-requires c =
    (pool_rows _ c.requires.ready.pool, c.requires.i_lt_held)

pub returns-then-not-is_due : goal.returns-then-not-is_due
returns-then-not-is_due c =
    one_not _ _ _ _ _ c.requires.ready.pool (sym c.is_due.ensures ∙ c.if-not-is_due.true)

pub sync_row-put-requires-clause-i_lt_held : goal.sync_row-put-requires-clause-i_lt_held
sync_row-put-requires-clause-i_lt_held c =
    (c.requires.i_lt_held, due_bound _ _ (sym c.is_due.ensures ∙ c.if-not-is_due.false))

pub returns : goal.returns
returns c =
    one_due _ _ _ _ _ (sym c.is_due.ensures ∙ c.if-not-is_due.false) _ _ c.sync_row-put.ensures
