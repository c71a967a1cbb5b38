-- The invariant `Picking` of the part that is written, where every row is picked; `sets_part` puts the part back.
use mathlib.Core.Path.{refl, ap, ◌∙◌}
use native.Mathlib.Omega.{arith}
use lib.ListN.{drop, length-take}
use Prim.Native.Nat.{ℕ}
use mathlib.Core.List.{List, ◌++◌}
use Rattle.row_order.specs.AllDirs.{dirs_many}
use Rattle.row_order.specs.Picks.{picking_yes, picking_end, dir_spans_lem}
use Rattle.row_order.proofs.Turns.{sets_part}
use Rattle.row_order.proofs.all_dirs.Goals as goal

pub loop-j-preserved : goal.loop-j-preserved
loop-j-preserved c =
    let p = c.loop-j.invariant in
    picking_yes _ _ _ _ _ _ _ p (omega (arith, p.long, length-take c.args.m c.args.spans.now)) _ refl c.dir_span.ensures

pub returns : goal.returns
returns c =
    let p = c.loop-j.invariant in
    let e = picking_end _ _ _ _ _ _ _ p _ (omega (arith, p.long, length-take c.args.m c.args.spans.now)) (dir_spans_lem _ _) in
    ap (λ (x : List ℕ). x ++ drop c.args.m c.args.spans.now) e.1 ∙ sets_part c.args.spans.now _ _ (dirs_many _ _ c.requires.0) c.requires.2
