-- The invariant: what is counted and what is left to join are the whole. `len_turn` counts one component.
use Rattle.std.proofs.Common.{◌∙◌, arith}
use Rattle.path.proofs.Theorems.{normal_short}
use Rattle.path.proofs.Writes.{len_start, len_done, len_turn, slash_one}
use Rattle.path.proofs.normal_len.Goals as goal

pub loop-p-init : goal.loop-p-init
loop-p-init c =
    (omega arith, len_start _)

pub overflow_add-out-in-Some : goal.overflow_add-out-in-Some
overflow_add-out-in-Some c =
    let l = c.loop-p in
    omega (arith, normal_short c.args.s.now, len_turn _ _ _ _ l.invariant.1 _ _ c.in-Some.ensures _ (c.from.ensures ∙ slash_one l.sep))

pub loop-p-preserved : goal.loop-p-preserved
loop-p-preserved c =
    let l = c.loop-p in
    let n = c.in-Some.ensures in
    (n.inside, omega (arith, len_turn _ _ _ _ l.invariant.1 _ _ n _ (c.from.ensures ∙ slash_one l.sep)))

pub returns : goal.returns
returns c =
    len_done _ _ _ _ c.loop-p.invariant.1 c.in_default.ensures
