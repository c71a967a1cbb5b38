-- One law for each way out: `stale`, then `write_at_is` with `resize_stopped` and `resize_done`.
use Prim.Native.Nat.{◌+◌, ◌≤◌}
use lib.ListN.{length}
use mathlib.Core.Path.{sym, ◌∙◌, refl}
use Rattle.pool_state.specs.InBuffers.{pool_rows}
use native.Mathlib.Omega.{arith}
use Rattle.inner_handle.specs.Handles.{write_at_m}
use Rattle.inner_handle.proofs.Ways.{live_row, live_device, stale, resize_stopped, resize_done, write_inside, write_at_is}
use Rattle.inner_handle.proofs.write_at.Goals as goal

pub live-requires : goal.live-requires
live-requires c =
    pool_rows _ c.requires.pool

pub returns-then-not-live : goal.returns-then-not-live
unfolding write_at_m
returns-then-not-live c =
    stale _ _ _ _ _ c.requires.pool
    (sym c.live.ensures ∙ c.if-not-live.true)

pub row_len-len-requires : goal.row_len-len-requires
row_len-len-requires c = (
  pool_rows _ c.requires.pool,
  (live_row _ _ _ _ _ (sym c.live.ensures ∙ c.if-not-live.false)).0,
)

pub data_write-put-requires-clause-slot_in_bounds : goal.data_write-put-requires-clause-slot_in_bounds
data_write-put-requires-clause-slot_in_bounds c =
    (live_device _ _ c.requires _ _ (sym c.live.ensures ∙ c.if-not-live.false)).1

pub returns-then-last-ne0 : goal.returns-then-last-ne0
returns-then-last-ne0 c =
    write_at_is _ _ _ _ _ (sym c.live.ensures ∙ c.if-not-live.false) _ _ _
    _ _ c.row_len-len.ensures refl
    (resize_stopped _ _ c.requires _ _ _ _ c.data_write-put.ensures.same c.if-last-ne0.true)

pub overflow_add-end : goal.overflow_add-end
overflow_add-end c =
    let a = c.args in
    let k : 512 + a.at + length a.src.now ≤ a.geometry.size = write_inside _ _ _ _ _ _ _ c.data_write-put.ensures.same c.if-last-ne0.false in
    omega (
      arith,
      k,
      (c.requires.shape.most),
    )

pub set_row_len-requires : goal.set_row_len-requires
set_row_len-requires c =
    let held = live_row _ _ _ _ _ (sym c.live.ensures ∙ c.if-not-live.false) in
    (pool_rows _ c.requires.pool, held.0, held.1)

pub returns : goal.returns
returns c =
    let e = sym c.live.ensures ∙ c.if-not-live.false in
    write_at_is _ _ _ _ _ e _ _ _ _ _ c.row_len-len.ensures
    c.max.ensures
    (resize_done _ _ c.requires _ _ _ _ c.data_write-put.ensures.same c.if-last-ne0.false
    _ c.set_row_len.ensures.rows c.set_row_len.ensures.flat)
