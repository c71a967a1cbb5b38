-- Carried by `resized_stored`: two numbers stored are a row with the same path, stored.
use native.Mathlib.Omega.{arith}
use mathlib.Core.Path.{refl}
use Rattle.slot_rows.proofs.InBuffers.{row_fits_lem}
use Rattle.slot_rows.proofs.Fields.{resized_stored}
use lib.ListN.{length-set}
use Rattle.slot_rows.proofs.set_row_len.Goals as goal

pub bounds-nums-at-2 : goal.bounds-nums-at-2
bounds-nums-at-2 c =
    let pre = c.requires in
    simp length-set (omega (arith, row_fits_lem _ _ _ _ pre.0 _ pre.1))

pub returns : goal.returns
returns c =
    let pre = c.requires in let all = resized_stored _ _ _ _ pre.0 _ pre.1 _ _ _ _ pre.2 c.mark.ensures refl in
    record { rows = all.0; flat = all.1 }
