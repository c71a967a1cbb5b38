-- `fnv1a32` meets its contract by `turn`: the state, taken on over the bytes left, is always the answer.
use mathlib.Core.Path.{sym, ◌∙◌}
use lib.ListN.{drop_of_length-le}
use Rattle.fnv.specs.Fnv.{prime32}
use Rattle.fnv.proofs.Turn.{turn, done}
use Rattle.fnv.proofs.fnv1a32.Goals as goal

pub loop-b-preserved : goal.loop-b-preserved
loop-b-preserved c =
    let l = c.loop-b in
    rw c.step-h.ensures (sym (turn prime32 32 l.h c.args.s.now l.b-index c.loop-b-test.true) ∙ l.invariant)

pub returns : goal.returns
returns c =
    sym (done prime32 32 _) ∙ rw (drop_of_length-le _ c.loop-b-test.false) at c.loop-b.invariant
