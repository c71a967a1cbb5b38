-- One law for each way out, `sync_stopped` and `sync_done`; `header_fits` says that the row's header goes with its path.
use Rattle.pool_state.specs.InBuffers.{pool_rows}
use Rattle.pool_steps.proofs.Ways.{on_device, header_fits, sync_stopped, sync_done}
use Rattle.pool_steps.proofs.sync_row.Goals as goal

pub row_header-header-requires : goal.row_header-header-requires
row_header-header-requires c =
    (pool_rows _ c.requires.ready.pool, c.requires.i_lt_held.0)

pub path-path-requires : goal.path-path-requires
path-path-requires c =
    (pool_rows _ c.requires.ready.pool, c.requires.i_lt_held.0)

pub put_header-put-requires : goal.put_header-put-requires
put_header-put-requires c =
    record {
      shape = on_device _ _ _ c.requires.ready c.requires.i_lt_held.0;
      path_len = header_fits _ _ c.requires.ready _ _ _ c.row_header-header.ensures c.path-path.ensures;
    }

pub returns-then-last-ne0 : goal.returns-then-last-ne0
returns-then-last-ne0 c =
    sync_stopped _ _ c.requires.ready _ _ _ _ _ c.row_header-header.ensures c.path-path.ensures c.put_header-put.ensures.same c.if-last-ne0.true

pub clean_row-requires : goal.clean_row-requires
clean_row-requires c =
    (pool_rows _ c.requires.ready.pool, c.requires.i_lt_held.0, c.requires.i_lt_held.1)

pub returns : goal.returns
returns c =
    sync_done _ _ c.requires.ready _ _ _ _ _ c.row_header-header.ensures c.path-path.ensures c.put_header-put.ensures.same _ c.clean_row.ensures.rows c.clean_row.ensures.flat c.if-last-ne0.false
