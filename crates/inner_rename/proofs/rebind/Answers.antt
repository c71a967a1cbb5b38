-- One law for each way out: `rebind_done`, `rebind_stopped`.
use Rattle.pool_state.specs.InBuffers.{pool_rows}
use Rattle.inner_rename.proofs.Ways.{header_ready, rebind_done, rebind_stopped}
use Rattle.inner_rename.proofs.rebind.Goals as goal

pub row_len-len-requires : goal.row_len-len-requires
row_len-len-requires c =
    (pool_rows _ c.requires.ready.pool, c.requires.i_lt_held.0)

pub put_header-put-requires : goal.put_header-put-requires
put_header-put-requires c =
    let all = header_ready _ _ _ c.requires.ready c.requires.i_lt_held.0 c.args.to.now c.requires.i_lt_held.3 _ _ _
    c.bound-header.ensures in
    record { shape = all.0; path_len = all.1 }

pub next_generation-spent-requires : goal.next_generation-spent-requires
next_generation-spent-requires c =
    c.requires.i_lt_held.2

pub returns-then-last-eq0 : goal.returns-then-last-eq0
returns-then-last-eq0 c =
    rebind_done _ _ c.requires.ready _ _ _ _ c.row_len-len.ensures _
    c.bound-header.ensures _ c.put_header-put.ensures.same _ c.next_generation-spent.ensures c.if-last-eq0.true

pub set_row_len-requires : goal.set_row_len-requires
set_row_len-requires c =
    (pool_rows _ c.requires.ready.pool, c.requires.i_lt_held.0, c.requires.i_lt_held.1)

pub returns : goal.returns
returns c =
    rebind_stopped _ _ c.requires.ready _ _ _ _ c.row_len-len.ensures _
    c.bound-header.ensures _ c.put_header-put.ensures.same _
    c.next_generation-spent.ensures c.if-last-eq0.false _ c.set_row_len.ensures.rows c.set_row_len.ensures.flat
