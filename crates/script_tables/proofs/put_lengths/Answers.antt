-- A turn of the loop puts out a number (`cat_turn`), and what is left makes the whole.
use Rattle.std.proofs.Common.{ℕ, List, ◌∙◌, get_or, arith}
use Rattle.le.specs.Le.{le}
use Rattle.le.proofs.Fields.{length_le}
use Rattle.output.proofs.InParts.{after_pours, cat_turn, cat_end}
use Rattle.script_tables.proofs.put_lengths.Goals as goal

pub loop-x-preserved : goal.loop-x-preserved
loop-x-preserved c =
    let a = c.loop-x in
    let p : List ℕ = c.args.phys.now in
    let x : ℕ = get_or p a.x-index 0 in
    let e = c.put_le-a.ensures in (
      omega (arith, a.invariant.0, after_pours (le 4 x) _ e, length_le 4 x),
      cat_turn (le 4) p a.x-index 0 _ (omega arith) e ∙ a.invariant.1,
    )

pub returns-clause-puts : goal.returns-clause-puts
returns-clause-puts c =
    let a = c.loop-x in
    cat_end (le 4) c.args.phys.now a.x-index _ (omega arith) ∙ a.invariant.1
