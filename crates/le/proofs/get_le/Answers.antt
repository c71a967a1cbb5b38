-- `get_le` meets its contract by `read_more`: the number so far is that of the bytes passed, from the end.
use native.Mathlib.Omega.{arith}
use Rattle.le.proofs.Turns.{next_fits}
use Rattle.le.proofs.get_le.Goals as goal

pub overflow_mul-r : goal.overflow_mul-r
overflow_mul-r c =
    omega (arith, next_fits c.args.src.now _ _ c.loop-b.r _ (λ k. omega (arith, c.type_inv.src k)) c.requires c.loop-b.invariant c.in-Some.ensures.steps)

pub overflow_add-r : goal.overflow_add-r
overflow_add-r c =
    omega (arith, next_fits c.args.src.now _ _ c.loop-b.r _ (λ k. omega (arith, c.type_inv.src k)) c.requires c.loop-b.invariant c.in-Some.ensures.steps)
