-- A slot's size is a number of four bytes.
use Rattle.std.proofs.Common.{ℕ, ◌<◌, sym, subst, arith}
use Rattle.script_format.specs.Reading.{field_lt}
use Rattle.script_format.proofs.setup_at.Goals as goal

pub limits_ok-requires : goal.limits_ok-requires
limits_ok-requires c = (
  omega (arith, c.type_inv.s 1),
  subst (λ (k : ℕ). k < 4294967296) (sym c.get_at-size.ensures) (field_lt c.args.s.now 5 4 4 (λ j. omega (arith, c.type_inv.s j)) (omega arith)),
)
