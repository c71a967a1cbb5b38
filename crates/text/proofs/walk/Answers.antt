-- `walk` meets its contract by `walk_turn`: from d, the bytes left lead where all of s leads from between. Assumes nothing.
use mathlib.Core.Path.{◌∙◌}
use lib.ListN.{drop_of_length-le}
use Rattle.text.specs.Text.{walk_of}
use Rattle.text.proofs.Turns.{walk_turn}
use Rattle.text.proofs.walk.Goals as goal

pub loop-b-preserved : goal.loop-b-preserved
loop-b-preserved c =
    let l = c.loop-b in
    rw c.step-d.ensures (walk_turn l.d c.args.s.now l.b-index c.loop-b-test.true ∙ l.invariant)

pub returns : goal.returns
unfolding walk_of
returns c =
    rw (drop_of_length-le _ c.loop-b-test.false) at c.loop-b.invariant
