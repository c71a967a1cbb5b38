-- The last component is left out, and one slash before it: `up_start`, `up_before`.
use Rattle.path.proofs.Parents.{up_none, up_root, up_start, up_before}
use Rattle.std.proofs.Common.{arith}
use Rattle.path.proofs.parent_end.Goals as goal

pub returns-in_err-p : goal.returns-in_err-p
returns-in_err-p c =
    up_none _ _ c.in_err-p.ensures c.from_residual.ensures

pub returns-then-s-a-eq47 : goal.returns-then-s-a-eq47
returns-then-s-a-eq47 c =
    up_root _ _ _ c.in_ok-p.ensures c.if-s-a-eq47.true

pub returns-then-a-le1 : goal.returns-then-a-le1
returns-then-a-le1 c =
    up_start _ _ _ c.in_ok-p.ensures c.if-s-a-eq47.false

pub returns : goal.returns
returns c =
    up_before _ _ _ c.in_ok-p.ensures c.if-s-a-eq47.false (omega arith)
