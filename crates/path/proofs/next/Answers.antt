-- Behind the first component `next_name` answers; the first is the root, a part, or missing.
use Rattle.path.proofs.Walks.{next_behind, next_empty, next_root, next_first}
use Rattle.std.proofs.Common.{arith}
use Rattle.path.proofs.next.Goals as goal

pub returns-then-i-ne0 : goal.returns-then-i-ne0
returns-then-i-ne0 c =
    next_behind _ _ _ (omega arith) c.next_name.ensures

pub returns-then-s-eq0 : goal.returns-then-s-eq0
returns-then-s-eq0 c =
    rw c.if-i-ne0.false (next_empty _ c.if-s-eq0.true)

pub returns-then-s-eq47 : goal.returns-then-s-eq47
returns-then-s-eq47 c =
    rw c.if-i-ne0.false (next_root _ (omega arith) c.if-s-eq47.true)

pub returns : goal.returns
returns c =
    rw c.if-i-ne0.false (next_first _ _ (omega arith) c.if-s-eq47.false c.part_end-e.ensures.ends c.part_end-e.ensures.inside)
