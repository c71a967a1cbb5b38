-- The invariant: the front up to `e` has all the components. `last_name` says what the last part of it is.
use Rattle.std.proofs.Common.{◌∙◌, arith}
use Rattle.path.proofs.Backs.{starts_some, back_slash, back_dot, last_empty, last_root, last_first, last_name}
use Rattle.path.proofs.Walks.{idle_dot, idle_byte, idle_long}
use Rattle.path.proofs.last.Goals as goal

pub returns-then-e-eq1 : goal.returns-then-e-eq1
returns-then-e-eq1 c =
    let loop = c.loop-e in
    last_root c.args.s.now loop.e loop.invariant.1 c.if-e-eq1.true (omega arith) c.if-s-e-eq47.true

pub loop-e-preserved-then-s-e-eq47 : goal.loop-e-preserved-then-s-e-eq47
loop-e-preserved-then-s-e-eq47 c =
    let loop = c.loop-e in
    (omega arith, loop.invariant.1 ∙ back_slash c.args.s.now loop.e (omega arith) (omega arith) c.if-s-e-eq47.true)

pub returns-then-a-eq0 : goal.returns-then-a-eq0
returns-then-a-eq0 c =
    let loop = c.loop-e in
    let s = c.args.s.now in
    let p = c.part_start-a in
    let h = starts_some s loop.e p.result p.ensures c.loop-e-test.true c.if-s-e-eq47.false in
    last_first s p.result loop.e loop.invariant.1 p.ensures loop.invariant.0 h c.if-a-eq0.true

pub returns-then-e-a : goal.returns-then-e-a
returns-then-e-a c =
    let loop = c.loop-e in
    let s = c.args.s.now in
    let p = c.part_start-a in
    let h = starts_some s loop.e p.result p.ensures c.loop-e-test.true
    c.if-s-e-eq47.false in
    last_name s p.result loop.e loop.invariant.1 p.ensures loop.invariant.0 h c.if-a-eq0.false
    (idle_long s p.result loop.e h loop.invariant.0 c.if-e-a.true)

pub returns-then-s-a-ne46 : goal.returns-then-s-a-ne46
returns-then-s-a-ne46 c =
    let loop = c.loop-e in
    let s = c.args.s.now in
    let p = c.part_start-a in
    last_name s p.result loop.e loop.invariant.1 p.ensures loop.invariant.0 (omega arith) c.if-a-eq0.false
    (idle_byte s p.result loop.e (omega arith) c.if-e-a.false c.if-s-a-ne46.true)

pub loop-e-preserved : goal.loop-e-preserved
loop-e-preserved c =
    let loop = c.loop-e in
    let s = c.args.s.now in
    let p = c.part_start-a in (
      omega arith,
      loop.invariant.1 ∙ back_dot s p.result loop.e p.ensures loop.invariant.0 (omega arith)
          (idle_dot s p.result loop.e (omega arith) c.if-e-a.false c.if-s-a-ne46.false),
    )

pub returns : goal.returns
returns c =
    last_empty c.args.s.now c.loop-e.e c.loop-e.invariant.1 (omega arith)
