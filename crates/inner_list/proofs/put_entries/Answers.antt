-- The invariant `Putting`: what is still to be written makes the whole of it.
use Rattle.row_order.specs.InOrder.{inside_get}
use Rattle.inner_list.proofs.Ways.{putting_more, putting_end, next_fits}
use native.Mathlib.Omega.{arith}
use Rattle.inner_list.proofs.put_entries.Goals as goal

pub slice_bounds-put_entry-end : goal.slice_bounds-put_entry-end
slice_bounds-put_entry-end c =
    omega (arith, inside_get _ _ c.loop-x.x-index c.requires.0 (omega arith))

pub put_entry-requires : goal.put_entry-requires
put_entry-requires c =
    next_fits _ _ _ _ _ _ _ _ c.loop-x.invariant c.requires.0 (omega arith) c.requires.1

pub loop-x-preserved : goal.loop-x-preserved
loop-x-preserved c =
    putting_more _ _ _ _ _ _ _ _ c.loop-x.invariant c.requires.0 (omega arith) _ c.put_entry.ensures

pub returns-clause-end : goal.returns-clause-end
returns-clause-end c = (putting_end _ _ _ _ _ _ _ _ c.loop-x.invariant (omega arith)).0

pub returns-clause-written : goal.returns-clause-written
returns-clause-written c = (putting_end _ _ _ _ _ _ _ _ c.loop-x.invariant (omega arith)).1
