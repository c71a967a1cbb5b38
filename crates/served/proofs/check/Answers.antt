-- A field of four bytes is a u32.
use Prim.Native.Nat.{ℕ, ◌<◌}
use mathlib.Core.Path.{sym, subst}
use native.Mathlib.Omega.{arith}
use Rattle.script_format.specs.Reading.{field_lt}
use Rattle.served.proofs.check.Goals as goal

pub overflow_cast-get_at : goal.overflow_cast-get_at
overflow_cast-get_at c =
    let n : c.get_at.result < 4294967296 = subst (λ (k : ℕ). k < 4294967296) (sym c.get_at.ensures)
    (field_lt c.args.body.now 0 4 4 (λ j. omega (arith, c.type_inv.body j)) (omega arith)) in
    omega (arith, n)
