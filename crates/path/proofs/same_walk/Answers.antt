-- The invariant: the answer is that for the fronts that are not yet passed. `same_on` passes the last component of both.
use Rattle.std.proofs.Common.{sym, ◌∙◌, arith}
use Rattle.path.proofs.Backs.{part_inside, same_end, same_shorter, same_differ, same_on}
use Rattle.path.proofs.same_walk.Goals as goal

pub returns-in_default-last : goal.returns-in_default-last
returns-in_default-last c =
    same_shorter _ _ _ _ c.loop-p.invariant.2 _ _ c.in-Some.ensures c.in_default-last.ensures

pub returns-then-not-same_bytes : goal.returns-then-not-same_bytes
returns-then-not-same_bytes c =
    let v = c.loop-p.invariant in
    same_differ _ _ _ _ _ _ _ _ v.0 v.1 c.in-Some.ensures c.in-Some-last.ensures v.2 (sym c.same_bytes.ensures ∙ c.if-not-same_bytes.true)

pub loop-p-preserved : goal.loop-p-preserved
loop-p-preserved c =
    let v = c.loop-p.invariant in
    let p = c.in-Some.ensures in
    let q = c.in-Some-last.ensures in (
      omega (arith, part_inside _ _ _ _ v.0 p, p.some),
      omega (arith, part_inside _ _ _ _ v.1 q, q.some),
      same_on _ _ _ _ _ _ _ _ v.0 v.1 p q v.2 (sym c.same_bytes.ensures ∙ c.if-not-same_bytes.false),
    )

pub returns : goal.returns
returns c =
    same_end _ _ _ _ c.loop-p.invariant.2 c.in_default.ensures _ c.last-2.ensures _ c.is_none.ensures
