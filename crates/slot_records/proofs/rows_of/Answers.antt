-- Carried by `stored_whole`: the rows that were stored stand in front of zero ones.
use Rattle.std.proofs.Common.{ap, replicate}
use Rattle.std.proofs.lemmas.List.{length-replicate}
use Rattle.slot_records.specs.declared.Slot.{Slot}
use Rattle.slot_records.proofs.Spread.{front_long, stored_whole}
use Rattle.slot_records.proofs.rows_of.Goals as goal

pub slice_bounds-store-end : goal.slice_bounds-store-end
slice_bounds-store-end c =
    let r = c.no_row-rows in
    front_long c.args.nums.now (replicate 66 r.result) c.requires (length-replicate 66 r.result)

pub returns : goal.returns
returns c =
    let r = c.no_row-rows in
    stored_whole c.args.nums.now (replicate 66 r.result) c.requires (length-replicate 66 r.result) c.store.new.rows
    (ap (λ (x : Slot). replicate 66 x) r.ensures) c.store.ensures
