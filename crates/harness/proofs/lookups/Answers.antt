-- The count is what the searches made so far come to: `hits_start`, then `found_by` or `lost_by`.
use Rattle.std.proofs.Common.{sym, ◌∙◌}
use Rattle.pool_state.specs.State.{bufs}
use Rattle.pool_state.specs.InBuffers.{pool_rows}
use Rattle.harness.proofs.Ways.{found_by, lost_by, hits_start}
use Rattle.harness.proofs.lookups.Goals as goal
use Rattle.harness.proofs.lookups.Goals.{then-find_row-rows, else-find_row-rows}

pub loop-i-init : goal.loop-i-init
loop-i-init c =
    sym (hits_start _ _)

pub find_row-requires : goal.find_row-requires
find_row-requires c =
    pool_rows _ c.requires

pub loop-i-preserved : goal.loop-i-preserved
loop-i-preserved c =
    let k = c.loop-i.i in
    elim c.if-find_row-rows.branch [
      | then-find_row-rows w ↦ w.found-is ∙ sym (found_by (bufs c.args.pool c.args.nums.now c.args.names.now c.args.dirs.now) _ _ c.find_row.ensures.row k w.if-find_row-rows.true)
      | else-find_row-rows w ↦ w.found-is ∙ c.loop-i.invariant ∙ lost_by (bufs c.args.pool c.args.nums.now c.args.names.now c.args.dirs.now) _ _ c.find_row.ensures.row k w.if-find_row-rows.false
    ]
