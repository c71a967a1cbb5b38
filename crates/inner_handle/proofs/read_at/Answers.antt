-- One law for each way out: `stale`, then `goes` with `read_none` and `read_some`.
use mathlib.Core.Path.{sym, ◌∙◌}
use Rattle.pool_state.specs.InBuffers.{pool_rows}
use Rattle.inner_handle.specs.Handles.{read_at_m}
use Rattle.inner_handle.proofs.Ways.{live_row, live_device, stale, goes, read_none, read_some}
use Rattle.inner_handle.proofs.read_at.Goals as goal

pub live-requires : goal.live-requires
live-requires c =
    pool_rows _ c.requires.pool

pub returns-then-not-live : goal.returns-then-not-live
unfolding read_at_m
returns-then-not-live c =
    stale _ _ _ _ _ c.requires.pool
    (sym c.live.ensures ∙ c.if-not-live.true)

pub row_len-len-requires : goal.row_len-len-requires
row_len-len-requires c = (
  pool_rows _ c.requires.pool,
  (live_row _ _ _ _ _
      (sym c.live.ensures ∙ c.if-not-live.false)).0,
)

pub returns-then-len-at : goal.returns-then-len-at
unfolding read_at_m
returns-then-len-at c =
    goes _ _ _ _ _ _ (sym c.live.ensures ∙ c.if-not-live.false)
    (read_none _ _ _ _ _ _ c.requires.pool _ c.row_len-len.ensures c.if-len-at.true)

pub data_read-got-requires-clause-slot_in_bounds : goal.data_read-got-requires-clause-slot_in_bounds
data_read-got-requires-clause-slot_in_bounds c =
    (live_device _ _ c.requires _ _ (sym c.live.ensures ∙ c.if-not-live.false)).1

pub returns : goal.returns
unfolding read_at_m
returns c =
    goes _ _ _ _ _ _ (sym c.live.ensures ∙ c.if-not-live.false)
    (read_some _ _ _ _ _ _ c.requires.pool _ c.row_len-len.ensures
    c.if-len-at.false _
    c.min-want.ensures _ _ c.data_read-got.ensures)
