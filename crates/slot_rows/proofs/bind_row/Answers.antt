-- Carried by `bound_stored`: the row's numbers and its padded path are the row, stored.
use Rattle.slot_rows.proofs.Fields.{bound_stored}
use Rattle.slot_rows.proofs.bind_row.Goals as goal

pub returns : goal.returns
returns c =
    let pre = c.requires in let all = bound_stored _ _ _ _ pre.0 _ pre.1 _ _ _ _ _ _ _ pre.2 c.mark.ensures
    c.put_nums.ensures c.put_padded.ensures in
    record { rows = all.0; flat = all.1 }
