-- The front is back, as zero rows.
use Rattle.std.proofs.Common.{rules, ◌≡◌, length, take, length-take-le}
use Rattle.slot_records.specs.Records.{cleared}
use Rattle.slot_records.proofs.clear.Goals as goal

pub returns : goal.returns
unfolding cleared
returns c =
    let k : length (take c.args.n c.args.rows.now) ≡ c.args.n = length-take-le c.args.n c.args.rows.now c.requires in
    rw (c.fill.ensures.after (search rules), k, c.no_row.ensures)
