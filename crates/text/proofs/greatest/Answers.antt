-- `greatest` meets its contract by `greatest_turn`: the greater of `top` and the greatest byte left is the answer. Assumes nothing.
use mathlib.Core.Path.{◌∙◌}
use Rattle.text.proofs.Turns.{greatest_turn, greatest_end}
use Rattle.text.proofs.greatest.Goals as goal

pub loop-b-preserved : goal.loop-b-preserved
loop-b-preserved c =
    let l = c.loop-b in
    rw c.max-top.ensures (greatest_turn l.top c.args.s.now l.b-index c.loop-b-test.true ∙ l.invariant)

pub returns : goal.returns
returns c =
    greatest_end _ _ c.loop-b.b-index c.loop-b-test.false c.loop-b.invariant
