-- One row more is picked, or is not; at the end all are: `picking_yes`, `picking_no`, `picking_end`.
use Rattle.std.proofs.Common.{arith, sym, refl, true, false}
use Rattle.row_order.specs.Picks.{picking_yes, picking_no, picking_end}
use Rattle.row_order.proofs.picked.Goals as goal
use Rattle.row_order.proofs.picked.Goals.{then-passes, else-passes}

pub loop-i-preserved : goal.loop-i-preserved
loop-i-preserved g c =
    let i = c.loop-i.i in
    elim c.if-passes.branch [
      | then-passes w ↦ record {
        few = omega arith;
        picks = λ p f a b. rw (w.spans-is, w.count-is)
            (picking_yes _ _ _ _ _ _ _ (c.loop-i.invariant.picks p f a b) (omega arith) _ (sym (a i true (omega arith) w.if-passes.ensures)) (b i _ (omega arith) w.span.ensures));
      }
      | else-passes w ↦ record {
        few = omega arith;
        picks = λ p f a b. rw (w.spans-is, w.count-is)
            (picking_no _ _ _ _ _ _ _ (c.loop-i.invariant.picks p f a b) (omega arith) (sym (a i false (omega arith) w.if-passes.ensures)));
      }
    ]

pub returns : goal.returns
returns g c = λ p f a b. picking_end _ _ _ _ _ _ _ (c.loop-i.invariant.picks p f a b) _ (omega arith) refl
