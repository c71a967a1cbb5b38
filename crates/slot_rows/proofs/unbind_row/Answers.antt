-- Carried by `unbound_stored`: zeros and a generation are the unbound row, stored.
use native.Mathlib.Omega.{arith}
use Rattle.slot_rows.proofs.InBuffers.{row_fits_lem}
use Rattle.std.proofs.Common.{rules, refl}
use Rattle.lists.specs.Stores.{zeros_back}
use Rattle.slot_rows.proofs.Fields.{unbound_stored}
use Rattle.slot_rows.proofs.unbind_row.Goals as goal

pub returns : goal.returns
returns c =
    let pre = c.requires in let all = unbound_stored _ _ _ _ pre.0 _ pre.1 _ _ _ c.put_nums.ensures (zeros_back _ _ _ _ refl (omega (arith, row_fits_lem _ _ _ _ pre.0 _ pre.1)) (c.fill.ensures.after (search rules))) in
    record { rows = all.0; flat = all.1 }
