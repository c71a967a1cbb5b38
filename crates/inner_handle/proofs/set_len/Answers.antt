-- One law for each way out: `stale`, then `set_len_is` with `resize_stopped` and `resize_done`.
use mathlib.Core.Path.{sym, ◌∙◌}
use Rattle.pool_state.specs.InBuffers.{pool_rows}
use Rattle.inner_handle.specs.Handles.{set_len_m}
use Rattle.inner_handle.proofs.Ways.{live_row, live_device, stale, resize_stopped, resize_done, set_len_is}
use Rattle.inner_handle.proofs.set_len.Goals as goal

pub live-requires : goal.live-requires
live-requires c =
    pool_rows _ c.requires.pool

pub returns-then-not-live : goal.returns-then-not-live
unfolding set_len_m
returns-then-not-live c =
    stale _ _ _ _ _ c.requires.pool
    (sym c.live.ensures ∙ c.if-not-live.true)

pub data_truncate-cut-requires-clause-slot_in_bounds : goal.data_truncate-cut-requires-clause-slot_in_bounds
data_truncate-cut-requires-clause-slot_in_bounds c =
    (live_device _ _ c.requires _ _ (sym c.live.ensures ∙ c.if-not-live.false)).1

pub returns-then-last-ne0 : goal.returns-then-last-ne0
returns-then-last-ne0 c =
    set_len_is _ _ _ _ _ (sym c.live.ensures ∙ c.if-not-live.false) _ _
    (resize_stopped _ _ c.requires _ _ _ _ c.data_truncate-cut.ensures.same c.if-last-ne0.true)

pub set_row_len-requires : goal.set_row_len-requires
set_row_len-requires c =
    let held = live_row _ _ _ _ _ (sym c.live.ensures ∙ c.if-not-live.false) in
    (pool_rows _ c.requires.pool, held.0, held.1)

pub returns : goal.returns
returns c =
    let e = sym c.live.ensures ∙ c.if-not-live.false in
    set_len_is _ _ _ _ _ e _ _
    (resize_done _ _ c.requires _ _ _ _ c.data_truncate-cut.ensures.same c.if-last-ne0.false
    _ c.set_row_len.ensures.rows c.set_row_len.ensures.flat)
