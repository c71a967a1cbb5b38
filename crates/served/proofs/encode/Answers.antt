-- A field of one byte is a u8.
use Prim.Native.Nat.{ℕ, ◌<◌}
use mathlib.Core.Path.{sym, subst}
use native.Mathlib.Omega.{arith}
use Rattle.script_format.specs.Reading.{field_lt}
use Rattle.served.proofs.encode.Goals as goal

pub overflow_cast-in_use : goal.overflow_cast-in_use
overflow_cast-in_use c =
    let n : c.get_at-in_use.result < 256 = subst (λ (k : ℕ). k < 256) (sym c.get_at-in_use.ensures)
    (field_lt c.args.body.now 0 1 1 (λ j. omega (arith, c.type_inv.body j)) (omega arith)) in
    omega (arith, n)
