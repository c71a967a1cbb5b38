-- One law for each way out: `stale`, `sync_dirty`, `sync_clean`.
use mathlib.Core.Path.{sym, ◌∙◌}
use Rattle.pool_state.specs.InBuffers.{pool_rows}
use Rattle.inner_handle.specs.Handles.{sync_m}
use Rattle.inner_handle.proofs.Ways.{live_row, stale, sync_dirty, sync_clean}
use Rattle.inner_handle.proofs.sync.Goals as goal

pub live-requires : goal.live-requires
live-requires c =
    pool_rows _ c.requires.pool

pub returns-then-not-live : goal.returns-then-not-live
unfolding sync_m
returns-then-not-live c =
    stale _ _ _ _ _ c.requires.pool
    (sym c.live.ensures ∙ c.if-not-live.true)

pub is_dirty-requires : goal.is_dirty-requires
is_dirty-requires c = (
  pool_rows _ c.requires.pool,
  (live_row _ _ _ _ _
      (sym c.live.ensures ∙ c.if-not-live.false)).0,
)

pub sync_row-put-requires-clause-i_lt_held : goal.sync_row-put-requires-clause-i_lt_held
sync_row-put-requires-clause-i_lt_held c =
    live_row _ _ _ _ _ (sym c.live.ensures ∙ c.if-not-live.false)

pub returns-then-is_dirty : goal.returns-then-is_dirty
returns-then-is_dirty c =
    sync_dirty _ _ _ _ _ (sym c.live.ensures ∙ c.if-not-live.false)
    (sym c.is_dirty.ensures ∙ c.if-is_dirty.true) _ _ c.sync_row-put.ensures

pub returns : goal.returns
returns c =
    sync_clean _ _ _ _ _ (sym c.live.ensures ∙ c.if-not-live.false)
    c.requires.pool (sym c.is_dirty.ensures ∙ c.if-is_dirty.false) _ c.flush-flushed.ensures
