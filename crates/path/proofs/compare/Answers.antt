-- The invariant: what is to be compared is what is left of both, joined alike. `cmp_differ` settles the first components that differ.
use Rattle.std.proofs.Common.{false, sym, ◌∙◌, arith}
use Rattle.path.proofs.Orders.{cmp_start, cmp_end, cmp_greater, cmp_differ, cmp_on}
use Rattle.path.proofs.compare.Goals as goal

pub loop-p-init : goal.loop-p-init
loop-p-init c =
    (omega arith, omega arith, (false, cmp_start _ _))

pub returns-in_default-next : goal.returns-in_default-next
returns-in_default-next c =
    cmp_greater _ _ _ _ _ c.loop-p.invariant.2.1 _ _ c.in-Some.ensures c.in_default-next.ensures

pub returns-then-not-same_bytes : goal.returns-then-not-same_bytes
returns-then-not-same_bytes c =
    let x = c.next-then-not-same_bytes in
    let y = c.next-then-not-same_bytes-2 in
    c.compare_names.ensures
    ∙ rw (c.is_some-more_a.ensures, c.is_some-more_b.ensures) (cmp_differ _ _ _ _ _ c.loop-p.invariant.2.1 _ _ _ _ c.in-Some.ensures c.in-Some-next.ensures _ _ x.ensures y.ensures
    (sym c.same_bytes.ensures ∙ c.if-not-same_bytes.true))

pub loop-p-preserved : goal.loop-p-preserved
loop-p-preserved c =
    let p = c.in-Some.ensures in
    let q = c.in-Some-next.ensures in
    (p.inside, q.inside, cmp_on _ _ _ _ _ c.loop-p.invariant.2.1 _ _ _ _ p q (sym c.same_bytes.ensures ∙ c.if-not-same_bytes.false))

pub returns-then-is_some : goal.returns-then-is_some
returns-then-is_some c =
    cmp_end _ _ _ _ _ c.loop-p.invariant.2.1 c.in_default.ensures _ c.next-2.ensures _ (sym c.is_some.ensures ∙ c.if-is_some.true)

pub returns : goal.returns
returns c =
    cmp_end _ _ _ _ _ c.loop-p.invariant.2.1 c.in_default.ensures _ c.next-2.ensures _ (sym c.is_some.ensures ∙ c.if-is_some.false)
