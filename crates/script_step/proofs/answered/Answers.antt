-- Carried by `answered_is`. The buffer is as long after its call as before.
use mathlib.Core.Path.{sym, subst}
use Prim.Native.Nat.{ℕ, ◌<◌}
use Rattle.output.specs.Writer.{shown}
use Rattle.script_step.proofs.Ways.{answered_is}
use Rattle.script_step.proofs.answered.Goals as goal

pub put_answer-to-requires : goal.put_answer-to-requires
put_answer-to-requires c =
    let same = sym c.make-came.auto.buf in
    (c.requires.1, subst (λ (k : ℕ). k < 65536) same c.requires.2, c.requires.3)

pub returns : goal.returns
returns c =
    let out = shown c.args.out.now c.args.at in
    record { op = answered_is _ _ _ c.args.op _ _ c.args.buf.now out _ c.make-came.ensures c.put_answer-to.ensures.answer; few = c.put_answer-to.ensures.few }
