-- Carried by `loaded_whole`: the numbers are just as many as those of the rows that are read.
use Rattle.std.proofs.Common.{rules}
use Rattle.slot_records.proofs.Spread.{front_long, loaded_whole}
use Rattle.slot_records.proofs.put_rows.Goals as goal

pub slice_bounds-load-end : goal.slice_bounds-load-end
slice_bounds-load-end c = front_long c.args.nums.now c.args.rows c.requires (search (rules, c.well_formed))

pub returns : goal.returns
returns c = loaded_whole c.args.nums.now c.args.rows c.requires (search (rules, c.well_formed)) c.load.new.nums c.load.ensures
