-- Carried by `turn` and `end`: the flag, or what is left of the text, has an idle slash exactly if the text has.
use Rattle.std.proofs.Common.{arith}
use Rattle.path.proofs.Slashes.{short, turn, end}
use Rattle.path.proofs.is_normal.Goals as goal

pub returns-then-n-lt2 : goal.returns-then-n-lt2
returns-then-n-lt2 c =
    short c.args.s.now c.if-n-lt2.true

pub loop-j-preserved : goal.loop-j-preserved
loop-j-preserved c =
    turn c.args.s.now c.loop-j.j c.loop-j.bad _ (omega arith) c.loop-j.invariant c.idle_slash-bad.ensures

pub returns : goal.returns
returns c =
    end c.args.s.now c.loop-j.j c.loop-j.bad _ (omega arith) (omega arith) c.loop-j.invariant c.idle_slash-idle.ensures
