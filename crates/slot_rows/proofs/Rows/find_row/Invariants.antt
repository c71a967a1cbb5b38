-- What is found from row i on, counted from i, is what is found.
use mathlib.Core.Path.{◌≡◌}
use Rattle.slot_rows.specs.Rows.{find}
use Rattle.slot_rows.specs.Held.{held}
use Prim.Native.Nat.{◌+◌}
use lib.ListN.{drop}
use Rattle.slot_rows.proofs.Rows.find_row.Given as goal

abbrev pub invariant-loop-i : goal.invariant-loop-i
invariant-loop-i l = l.i + find l.p (drop l.i (held l.self)) ≡ find l.p (held l.self)
