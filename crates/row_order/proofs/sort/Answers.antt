-- The invariant: from i on all is sorted. `sort_turn` puts one more in its place.
use Rattle.row_order.proofs.Turns.{part_ready, place_fits, sort_turn, sort_start, sorted_long}
use Prim.Native.Nat.{◌+◌, ◌-◌, ◌≤◌}
use mathlib.Core.Path.{refl}
use lib.ListN.{length}
use native.Mathlib.Omega.{arith}
use Rattle.row_order.proofs.sort.Goals as goal

pub loop-i-init : goal.loop-i-init
loop-i-init c =
    sort_start _ _

pub place_of-k-requires : goal.place_of-k-requires
place_of-k-requires c =
    let l = c.loop-i in
    part_ready _ _ _ l.i _ (omega arith) (omega arith) l.invariant c.requires

-- The place is among those behind the element.
fits : (c : goal.After-place_of-k) → c.loop-i.i - 1 + c.place_of-k.result + 1 ≤ length c.loop-i.spans
fits c =
    let l = c.loop-i in
    place_fits _ _ _ l.i _ (omega arith) (omega arith) l.invariant _ c.place_of-k.ensures

pub overflow_add-i : goal.overflow_add-i
overflow_add-i c =
    omega (arith, fits c, sorted_long _ _ _ _ c.loop-i.invariant)

pub overflow_add-i-in-loop-i : goal.overflow_add-i-in-loop-i
overflow_add-i-in-loop-i c =
    omega (arith, fits c, sorted_long _ _ _ _ c.loop-i.invariant)

pub slice_bounds-rotate_left-end : goal.slice_bounds-rotate_left-end
slice_bounds-rotate_left-end c =
    fits c

pub shape_of-spans : goal.shape_of-spans
shape_of-spans c =
    sorted_long _ _ _ _ c.loop-i.invariant

pub loop-i-preserved : goal.loop-i-preserved
loop-i-preserved c =
    let l = c.loop-i in
    sort_turn _ _ _ l.i _ (omega arith) (omega arith) l.invariant _ c.place_of-k.ensures _ _ c.rotate_left.ensures.after refl
