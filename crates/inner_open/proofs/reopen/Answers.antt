-- One law for each way out: `reopen_kept`, `reopen_stopped`, `reopen_done`.
use Rattle.pool_state.specs.InBuffers.{pool_rows}
use Rattle.inner_open.proofs.Ways.{on_slot_lem, answered, reopen_kept, reopen_stopped, reopen_done}
use Rattle.inner_open.proofs.reopen.Goals as goal

pub row_generation-generation-requires : goal.row_generation-generation-requires
row_generation-generation-requires c =
    (pool_rows _ c.requires.ready.pool, c.requires.i_lt_held.0)

pub row_len-requires : goal.row_len-requires
row_len-requires c =
    (pool_rows _ c.requires.ready.pool, c.requires.i_lt_held.0)

pub returns-then-keep : goal.returns-then-keep
returns-then-keep c =
    reopen_kept _ _ _ _ c.requires.ready.pool _ c.if-keep.true _ _ c.row_generation-generation.ensures
    c.row_len.ensures

pub data_truncate-cut-requires : goal.data_truncate-cut-requires
data_truncate-cut-requires c =
    let all = on_slot_lem _ _ _ c.requires.ready c.requires.i_lt_held.0 in
    record { shape = all.0; slot_in_bounds = all.1 }

pub returns-then-last-ne0 : goal.returns-then-last-ne0
returns-then-last-ne0 c =
    answered _ _ _ _ _ _ _ _ c.refused.ensures
    (reopen_stopped _ _ _ _ c.requires.ready.pool _ c.if-keep.false _
    c.data_truncate-cut.ensures.same c.if-last-ne0.true)

pub set_row_len-requires : goal.set_row_len-requires
set_row_len-requires c =
    (pool_rows _ c.requires.ready.pool, c.requires.i_lt_held.0, c.requires.i_lt_held.1)

pub returns : goal.returns
returns c =
    reopen_done _ _ _ _ c.requires.ready.pool _ c.if-keep.false _
    c.data_truncate-cut.ensures.same c.if-last-ne0.false _ c.row_generation-generation.ensures _ c.set_row_len.ensures.rows c.set_row_len.ensures.flat
