-- Carried by `load_turn`: the numbers that are still to come, laid over the rest, make the whole of it.
use Rattle.std.proofs.Common.{arith}
use Rattle.slot_records.specs.Records.{slot_nums}
use Rattle.slot_records.proofs.Turns.{load_start, load_turn, load_end}
use Rattle.slot_records.proofs.load.Goals as goal

pub loop-i-init : goal.loop-i-init
loop-i-init c = load_start c.args.rows.now c.args.nums.now c.requires

pub loop-i-preserved : goal.loop-i-preserved
unfolding slot_nums
loop-i-preserved c =
    let w = c.loop-i in
    load_turn c.args.rows.now c.args.nums.now w.i w.nums _ c.get-slot.result (omega arith) c.get-slot.ensures c.put_nums.ensures w.invariant

pub returns : goal.returns
returns c =
    let w = c.loop-i in
    load_end c.args.rows.now c.args.nums.now w.i w.nums (omega arith) w.invariant
