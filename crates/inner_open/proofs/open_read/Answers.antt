-- One law for each way out: `open_read_found`, `open_read_none`.
use Rattle.pool_state.specs.InBuffers.{pool_rows}
use Rattle.inner_open.proofs.Ways.{open_read_found, open_read_none}
use Rattle.inner_open.proofs.open_read.Goals as goal

pub find_row-i-requires : goal.find_row-i-requires
find_row-i-requires c =
    pool_rows _ c.requires

pub row_generation-requires : goal.row_generation-requires
row_generation-requires c =
    (pool_rows _ c.requires, c.if-i-rows.true)

pub returns-then-i-rows : goal.returns-then-i-rows
returns-then-i-rows c =
    open_read_found _ _ _ c.find_row-i.ensures.row _ c.if-i-rows.true c.row_generation.ensures

pub returns : goal.returns
returns c =
    open_read_none _ _ _ c.find_row-i.ensures.row c.if-i-rows.false
