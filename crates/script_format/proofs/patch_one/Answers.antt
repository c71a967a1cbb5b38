-- A patch's place is a number of four bytes.
use Rattle.std.proofs.Common.{ℕ, ◌<◌, sym, subst, arith}
use Rattle.script_format.specs.Reading.{run_inside, field_lt}
use Rattle.script_format.proofs.patch_one.Goals as goal

pub overflow_add-place : goal.overflow_add-place
overflow_add-place c =
    let n : c.get_at-place.result < 4294967296 = subst (λ (k : ℕ). k < 4294967296) (sym c.get_at-place.ensures)
    (field_lt c.args.s.now c.args.i 4 4 (λ j. omega (arith, c.type_inv.s j)) (omega arith)) in
    omega (arith, n, (run_inside _ _ _ c.in_ok-run.ensures).end)
