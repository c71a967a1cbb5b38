-- The invariant `Picking` of the part that is written, where every row is picked.
use Prim.Native.Nat.{ℕ}
use mathlib.Core.Bool.{true}
use Rattle.dir_rows.specs.Rows.{dirs_of}
use Rattle.row_order.specs.Spans.{dir_span}
use Rattle.row_order.specs.Picks.{Picking}
use Rattle.row_order.proofs.all_dirs.Given as goal

abbrev pub invariant-loop-j : goal.invariant-loop-j
invariant-loop-j l = Picking (dir_span (dirs_of l.dirs l.m)) (λ (j : ℕ). true) l.m l.initial.x-items l.j l.j l.x-items
