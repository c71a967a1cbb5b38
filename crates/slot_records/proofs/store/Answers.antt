-- Carried by `store_turn`: the rows that are still to come, laid over the rest, make the whole of it.
use Rattle.std.proofs.Common.{arith}
use Rattle.slot_records.proofs.Turns.{store_start, store_turn, store_end}
use Rattle.slot_records.proofs.store.Goals as goal

pub loop-i-init : goal.loop-i-init
loop-i-init c = store_start c.args.nums.now c.args.rows.now c.requires

pub loop-i-preserved : goal.loop-i-preserved
loop-i-preserved c =
    let w = c.loop-i in
    store_turn c.args.nums.now c.args.rows.now w.i w.rows _ c.from_nums.result c.requires (omega arith) c.from_nums.ensures c.set.ensures w.invariant

pub returns : goal.returns
returns c =
    let w = c.loop-i in
    store_end c.args.nums.now c.args.rows.now w.i w.rows c.requires (omega arith) w.invariant
