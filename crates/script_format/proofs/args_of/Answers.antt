-- The numbers stand in front of the runs, and each is as wide as its row says (`small`).
use Rattle.std.proofs.Common.{ℕ, ◌≡◌, ◌<◌, ◌≤◌, ◌+◌, sym, subst, arith}
use Rattle.script_format.specs.declared.Form.{Form}
use Rattle.script_format.specs.Format.{form_of}
use Rattle.script_format.specs.Reading.{small, field_lt}
use Rattle.script_format.proofs.args_of.Goals as goal

-- how far the numbers reach
reach : (code : ℕ) (f : Form) → f ≡ form_of code → f.slot + f.flag + f.len + f.generation + f.at + f.n ≤ 35
reach code f e = let m = small code f e in omega (arith, m.slot, m.flag, m.len, m.generation, m.at, m.n)

pub overflow_add-at_flag : goal.overflow_add-at_flag
overflow_add-at_flag c =
    omega (arith, reach _ _ c.requires.1)

pub overflow_add-at_len : goal.overflow_add-at_len
overflow_add-at_len c =
    omega (arith, reach _ _ c.requires.1)

pub overflow_add-at_generation : goal.overflow_add-at_generation
overflow_add-at_generation c =
    omega (arith, reach _ _ c.requires.1)

pub overflow_add-at_at : goal.overflow_add-at_at
overflow_add-at_at c =
    omega (arith, reach _ _ c.requires.1)

pub overflow_add-at_n : goal.overflow_add-at_n
overflow_add-at_n c =
    omega (arith, reach _ _ c.requires.1)

pub overflow_add-at_runs : goal.overflow_add-at_runs
overflow_add-at_runs c =
    omega (arith, reach _ _ c.requires.1)

pub get_at-requires : goal.get_at-requires
get_at-requires c =
    (omega arith, (small _ _ c.requires.1).slot)

pub get_at-requires-2 : goal.get_at-requires-2
get_at-requires-2 c =
    (omega arith, omega (arith, (small _ _ c.requires.1).flag))

pub overflow_cast-result : goal.overflow_cast-result
overflow_cast-result c =
    let m = small _ _ c.requires.1 in
    let h = subst (λ (x : ℕ). x < 256) (sym c.get_at-2.ensures) (field_lt c.args.s.now (c.args.i + c.args.f.slot)
    c.args.f.flag 1 (λ j. omega (arith, c.type_inv.s j)) m.flag) in
    omega (arith, h)

pub get_at-requires-3 : goal.get_at-requires-3
get_at-requires-3 c =
    (omega arith, (small _ _ c.requires.1).len)

pub get_at-requires-4 : goal.get_at-requires-4
get_at-requires-4 c =
    (omega arith, (small _ _ c.requires.1).generation)

pub get_at-requires-5 : goal.get_at-requires-5
get_at-requires-5 c =
    (omega arith, (small _ _ c.requires.1).at)

pub get_at-requires-6 : goal.get_at-requires-6
get_at-requires-6 c =
    (omega arith, omega (arith, (small _ _ c.requires.1).n))
