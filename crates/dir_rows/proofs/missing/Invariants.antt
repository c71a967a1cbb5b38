-- `missing` meets its contract by `absent_more` and `absent_same`: the ancestors still ahead, and the count so far.
use Prim.Native.Nat.{◌≤◌, ◌+◌}
use mathlib.Core.Path.{◌≡◌}
use lib.ListN.{length}
use Rattle.path.specs.Path.{ancestors}
use Rattle.path.specs.Walk.{up_from}
use Rattle.dir_rows.specs.Dirs.{absent}
use Rattle.dir_rows.specs.Rows.{dirs_of}
use Rattle.dir_rows.proofs.missing.Given as goal

abbrev pub invariant-loop-e : goal.invariant-loop-e
invariant-loop-e l =
    (l.count + l.e ≤ length l.p) × (l.count + length (absent (dirs_of l.dirs l.m) (up_from l.p l.e)) ≡ length (absent (dirs_of l.dirs l.m) (ancestors l.p)))

abbrev pub decreases-loop-e : goal.decreases-loop-e
decreases-loop-e l = l.e
