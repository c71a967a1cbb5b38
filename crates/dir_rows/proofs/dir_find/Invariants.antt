-- What is left of the rows answers for all of them.
use Prim.Native.Nat.{◌-◌}
use mathlib.Core.Path.{◌≡◌}
use Rattle.lists.specs.Runs.{tab}
use Rattle.dir_rows.specs.Dirs.{has_path}
use Rattle.dir_rows.specs.Rows.{dir_at, dirs_of}
use Rattle.dir_rows.proofs.dir_find.Given as goal

abbrev pub invariant-loop-j : goal.invariant-loop-j
invariant-loop-j l = has_path (dirs_of l.dirs l.m) l.p ≡ has_path (tab (dir_at l.dirs) l.j (l.m - l.j)) l.p
