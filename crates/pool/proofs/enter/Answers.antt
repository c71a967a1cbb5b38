-- `many_rows_are` and `few_rows` say what the two ways out come to.
use Rattle.std.proofs.Common.{rules, ℕ, List, length}
use Rattle.device.specs.Device.{dev}
use Rattle.pool_state.specs.State.{bufs}
use Rattle.pool_steps.specs.World.{lent}
use Rattle.calls_gate.specs.Calls.{call_p}
use Rattle.pool.proofs.Ways.{few_rows, many_rows_are, lost_fits}
use Rattle.pool.proofs.enter.Goals as goal

-- ---- more than 64 records

pub clear-requires : goal.clear-requires
clear-requires c = lost_fits c.args.call (length c.args.rows.now) c.lost-k.result c.lost-k.ensures

pub returns-then-n-gt64 : goal.returns-then-n-gt64
returns-then-n-gt64 c =
    let a = c.args in let t = c.too_many in
    many_rows_are a.plan.now a.geometry a.call a.first.now a.second.now t.result a.bytes.now a.phys.now t.new.names t.new.dirs a.buf.now a.names.now a.dirs.now a.place
    a.pool a.rows.now c.clear.new.rows c.lost-k.result c.if-n-gt64.true c.lost-k.ensures c.clear.ensures t.ensures.reply t.ensures.names t.ensures.dirs

-- ---- at most 64

pub returns : goal.returns
returns c =
    let a = c.args in let r = c.on_front-reply in
    few_rows (λ (y : List ℕ). call_p a.plan.now a.geometry a.call a.first.now a.second.now a.buf.now (lent (dev a.bytes.now a.phys.now a.place) (bufs a.pool y a.names.now a.dirs.now)))
    r.result r.new.bytes r.new.phys r.new.names r.new.dirs r.new.buf a.rows.now c.keep.new.rows c.flat-nums.result r.new.nums
    c.if-n-gt64.false c.flat-nums.ensures (search rules) c.keep.ensures r.ensures
