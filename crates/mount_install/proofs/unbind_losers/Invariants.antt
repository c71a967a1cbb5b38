-- The invariant: unbinding the losers that are left gives the whole.
use mathlib.Core.Path.{◌≡◌}
use lib.ListN.{drop}
use Rattle.slot_rows.specs.Rows.{rows_of, Flat}
use Rattle.mount_survey.specs.Staged.{vacated}
use Rattle.mount_install.proofs.unbind_losers.Given as goal

abbrev pub invariant-loop-loser : goal.invariant-loop-loser
invariant-loop-loser l = Flat l.cap l.m l.nums l.names × (vacated (drop l.loser-index l.loser-items) (rows_of l.nums l.names l.m) ≡ vacated l.loser-items (rows_of l.initial.nums l.initial.names l.m))
