-- The invariant `Writing`: what is written and what is left to join are the whole. `part_put` puts one component.
use Rattle.std.proofs.Common.{refl, arith}
use Rattle.path.proofs.Writes.{writing_length, normal_start, normal_done, slash_fits, part_fits, part_put}
use Rattle.path.proofs.normalize.Goals as goal

pub loop-p-init : goal.loop-p-init
loop-p-init c =
    (omega arith, refl, normal_start _ _)

pub put_slash-out-requires : goal.put_slash-out-requires
put_slash-out-requires c =
    slash_fits _ _ _ _ _ _ _ _ c.loop-p.invariant.2 c.in-Some.ensures c.requires

pub overflow_add-out : goal.overflow_add-out
overflow_add-out c =
    let put = c.put_slash-out.ensures in
    omega (arith, part_fits _ _ _ _ _ _ _ _ c.loop-p.invariant.2 c.in-Some.ensures c.requires _ _ (put.laid, put.behind))

pub slice_bounds-copy_from_slice-end : goal.slice_bounds-copy_from_slice-end
slice_bounds-copy_from_slice-end c =
    let put = c.put_slash-out.ensures in
    part_fits _ _ _ _ _ _ _ _ c.loop-p.invariant.2 c.in-Some.ensures c.requires _ _ (put.laid, put.behind)

pub loop-p-preserved : goal.loop-p-preserved
loop-p-preserved c =
    let put = c.put_slash-out.ensures in
    let n = c.in-Some.ensures in
    let v = part_put _ _ _ _ _ _ _ _ c.loop-p.invariant.2 n c.requires _ _ (put.laid, put.behind) _ _ c.copy_from_slice.ensures.after refl in
    (n.inside, writing_length v c.requires, v)

pub returns : goal.returns
returns c =
    let all = normal_done _ _ _ _ _ _ c.loop-p.invariant.2 c.in_default.ensures in
    record { laid = all.0; long = all.1 }
