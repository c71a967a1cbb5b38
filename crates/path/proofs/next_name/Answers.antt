-- The invariant: the components behind `i` are those behind `at`. `name_some` takes the next part that stays.
use Rattle.std.proofs.Common.{◌<◌, ◌∙◌, arith}
use Rattle.path.proofs.Walks.{part_some, rest_slash_at, rest_dot, idle_long, idle_byte, name_some, name_none}
use Rattle.path.proofs.next_name.Goals as goal

pub loop-at-preserved-then-s-at-eq47 : goal.loop-at-preserved-then-s-at-eq47
loop-at-preserved-then-s-at-eq47 c =
    (omega arith, omega arith, c.loop-at.invariant.2 ∙ rest_slash_at c.args.s.now c.loop-at.at (omega arith) c.if-s-at-eq47.true)

pub returns-then-e-at : goal.returns-then-e-at
returns-then-e-at c =
    let p = c.part_end-e in
    let s = c.args.s.now in
    let h : c.loop-at.at < p.result = part_some s c.loop-at.at p.result (omega arith) c.if-s-at-eq47.false p.ensures.ends in
    name_some s c.args.i c.loop-at.at p.result (omega arith) h (omega arith) c.loop-at.invariant.2
    p.ensures.ends (idle_long s c.loop-at.at p.result h (omega arith) c.if-e-at.true)

pub returns-then-not-dot : goal.returns-then-not-dot
returns-then-not-dot c =
    let p = c.part_end-e in
    let s = c.args.s.now in
    name_some s c.args.i c.loop-at.at p.result (omega arith) (omega arith) (omega arith) c.loop-at.invariant.2
    p.ensures.ends (idle_byte s c.loop-at.at p.result (omega arith) c.if-e-at.false c.if-not-dot.true)

pub loop-at-preserved : goal.loop-at-preserved
loop-at-preserved c =
    let p = c.part_end-e in
    let s = c.args.s.now in
    (omega arith, omega arith, c.loop-at.invariant.2 ∙ rest_dot s c.loop-at.at p.result (omega arith) p.ensures.ends c.if-e-at.false c.if-not-dot.false)

pub returns : goal.returns
returns c =
    name_none c.args.s.now c.args.i c.loop-at.at (omega arith) c.loop-at.invariant.2
