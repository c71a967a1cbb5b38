-- `went_through` says what the call through records comes to.
use Rattle.std.proofs.Common.{rules, ◌≤◌, ◌/◌, length}
use Rattle.limits.specs.Limits.{row_width}
use Rattle.device.specs.Device.{dev}
use Rattle.slot_records.specs.Whole.{whole_rows_lem}
use Rattle.pool_numbers.proofs.Went.{went_through}
use Rattle.pool_numbers.proofs.through.Goals as goal

pub slice_bounds-rows-end : goal.slice_bounds-rows-end
slice_bounds-rows-end c =
    let few : length c.args.nums.now / row_width ≤ 66 = (whole_rows_lem c.args.nums.now c.requires).1 in
    search rules

pub slice_bounds-call-end : goal.slice_bounds-call-end
slice_bounds-call-end c =
    let few : length c.args.nums.now / row_width ≤ 66 = (whole_rows_lem c.args.nums.now c.requires).1 in
    search rules

pub returns : goal.returns
returns c =
    let a = c.args in let r = c.call-reply in
    let few : length a.nums.now / row_width ≤ 66 = (whole_rows_lem a.nums.now c.requires).1 in
    went_through a.plan.now a.geometry a.call a.first.now a.second.now a.buf.now (dev a.bytes.now a.phys.now a.place) a.pool a.nums.now a.names.now a.dirs.now
    r.result r.new.bytes r.new.phys r.new.names r.new.dirs r.new.buf c.put_rows.new.nums c.rows_of-rows.result r.new.rows
    c.requires c.rows_of-rows.ensures (search rules) c.put_rows.ensures r.ensures.same
