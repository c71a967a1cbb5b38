-- `put_le` meets its contract by `put_turn`: what is written, with the bytes of what is left of the number, is the answer.
use mathlib.Core.Path.{◌∙◌}
use native.Mathlib.Omega.{arith}
use Rattle.le.proofs.Turns.{put_turn}
use Rattle.le.proofs.put_le.Goals as goal

pub loop-b-preserved : goal.loop-b-preserved
loop-b-preserved c =
    let l = c.loop-b in
    put_turn l.dst l.b-index _ l.v (omega arith) (omega arith) ∙ l.invariant
