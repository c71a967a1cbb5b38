-- Carried by the record `Going`: running the operations that are left gives the whole run.
use Rattle.std.proofs.Common.{arith}
use Rattle.script.proofs.Ways.{sound_of, going_start, going_end, going_on}
use Rattle.script.proofs.run.Goals as goal

pub loop-op-init : goal.loop-op-init
loop-op-init c =
    going_start _ _ _ _ _ _ c.requires.0

pub step-ran-requires : goal.step-ran-requires
step-ran-requires c =
    let S = sound_of c.args.script.now c.loop-op.pos c.in-Some.op (λ j. omega (arith, c.type_inv.script j)) c.in-Some.ensures in
    let G = c.loop-op.invariant in
    (S.held, S.code, S.small, omega (arith, G.few, G.inside, c.requires.1))

pub loop-op-smaller : goal.loop-op-smaller
loop-op-smaller c =
    let S = sound_of c.args.script.now c.loop-op.pos c.in-Some.op (λ j. omega (arith, c.type_inv.script j)) c.in-Some.ensures in
    omega (arith, S.further, S.held.second_end)

pub loop-op-preserved : goal.loop-op-preserved
loop-op-preserved c =
    going_on _ _ _ _ _ _ _ _ _ c.loop-op.invariant c.in-Some.op _ _ (λ j. omega (arith, c.type_inv.script j)) c.in-Some.ensures
    c.step-ran.ensures.op c.step-ran.ensures.few

pub returns-clause-ops : goal.returns-clause-ops
returns-clause-ops c =
    going_end _ _ _ _ _ _ _ _ _ c.loop-op.invariant c.in_default.ensures
