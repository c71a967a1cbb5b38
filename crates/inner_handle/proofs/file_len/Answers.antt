-- One law for each way out: `len_live`, `len_stale`.
use mathlib.Core.Path.{sym, ◌∙◌}
use Rattle.pool_state.specs.InBuffers.{pool_rows}
use Rattle.inner_handle.proofs.Ways.{live_row, len_live, len_stale}
use Rattle.inner_handle.proofs.file_len.Goals as goal

pub live-requires : goal.live-requires
live-requires c =
    pool_rows _ c.requires

pub row_len-requires : goal.row_len-requires
row_len-requires c =
    (pool_rows _ c.requires, (live_row _ _ _ _ _ (sym c.live.ensures ∙ c.if-live.true)).0)

pub returns-then-live : goal.returns-then-live
returns-then-live c =
    len_live _ _ _ _ (sym c.live.ensures ∙ c.if-live.true) c.row_len.ensures

pub returns : goal.returns
returns c =
    len_stale _ _ _ (sym c.live.ensures ∙ c.if-live.false)
