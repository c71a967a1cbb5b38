-- A turn of the loop puts out a run (`cat_turn`), and what is left makes the whole.
use Rattle.std.proofs.Common.{ℕ, List, ◌∙◌, ap, get_or, arith}
use Rattle.row_order.specs.Spans.{spelled}
use Rattle.row_order.specs.InOrder.{inside_get}
use Rattle.output.specs.Writer.{Shown, shown, pours, run_of}
use Rattle.output.proofs.InParts.{after_pours, cat_turn, cat_end}
use Rattle.script_tables.proofs.Turns.{length_run, part_spelled, spelled_short}
use Rattle.script_tables.proofs.put_spans.Goals as goal

pub slice_bounds-put_run-end : goal.slice_bounds-put_run-end
slice_bounds-put_run-end c =
    inside_get _ _ c.loop-x.x-index c.requires.0 (omega arith)

pub loop-x-preserved : goal.loop-x-preserved
loop-x-preserved c =
    let a = c.loop-x in
    let b : List ℕ = c.args.dirs.now in
    let s : List ℕ = c.args.spans.now in
    let x : ℕ = get_or s a.x-index 0 in
    let o : Shown = shown a.out a.a in
    let e = c.put_run-a.ensures ∙ ap (λ (p : List ℕ). pours (run_of p) o) (part_spelled b x) in (
      omega (arith, a.invariant.0, after_pours (run_of (spelled b x)) o e, length_run (spelled b x), spelled_short b x),
      cat_turn (λ (y : ℕ). run_of (spelled b y)) s a.x-index 0 o (omega arith) e ∙ a.invariant.1,
    )

pub returns-clause-runs : goal.returns-clause-runs
returns-clause-runs c =
    let a = c.loop-x in
    cat_end _ c.args.spans.now a.x-index _ (omega arith) ∙ a.invariant.1
