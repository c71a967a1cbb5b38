-- Carried by `pours_then`: what is put out number by number is the whole answer. `near` keeps the place small.
use mathlib.Core.Path.{◌∙◌, ap}
use mathlib.Core.List.{List}
use Prim.Native.Nat.{ℕ}
use Rattle.le.specs.Le.{le}
use Rattle.script_format.specs.Reading.{Small, small}
use Rattle.output.specs.Writer.{shown, pours}
use Rattle.output.proofs.InParts.{after_pours, pours_then}
use Rattle.script_step.proofs.Ways.{answer_is, near}
use Rattle.std.proofs.Common.{rules}
use native.Mathlib.Omega.{arith}
use Rattle.script_step.proofs.put_answer.Goals as goal

-- ---- what each call needs

pub put_le-b-requires : goal.put_le-b-requires
put_le-b-requires c =
    let m : Small c.form_of-form.result = small _ _ c.form_of-form.ensures in
    let a = near 1 _ _ (omega arith) c.put_le-a.ensures in
    omega (arith, m.gives_slot, a, c.requires.2)

pub put_le-c-requires : goal.put_le-c-requires
put_le-c-requires c =
    let m : Small c.form_of-form.result = small _ _ c.form_of-form.ensures in
    let a = near 1 _ _ (omega arith) c.put_le-a.ensures in
    let b = near _ _ _ m.gives_slot c.put_le-b.ensures in
    omega (arith, m.gives_generation, a, b, c.requires.2)

pub put_le-d-requires : goal.put_le-d-requires
put_le-d-requires c =
    let m : Small c.form_of-form.result = small _ _ c.form_of-form.ensures in
    let a = near 1 _ _ (omega arith) c.put_le-a.ensures in
    let b = near _ _ _ m.gives_slot c.put_le-b.ensures in
    let d = near _ _ _ m.gives_generation c.put_le-c.ensures in
    omega (arith, m.gives_len, a, b, d, c.requires.2)

pub put_le-e-requires : goal.put_le-e-requires
put_le-e-requires c =
    let m : Small c.form_of-form.result = small _ _ c.form_of-form.ensures in
    let a = near 1 _ _ (omega arith) c.put_le-a.ensures in
    let b = near _ _ _ m.gives_slot c.put_le-b.ensures in
    let d = near _ _ _ m.gives_generation c.put_le-c.ensures in
    let e = near _ _ _ m.gives_len c.put_le-d.ensures in
    omega (arith, m.gives_count, a, b, d, e, c.requires.2)

pub put_le-f-requires : goal.put_le-f-requires
put_le-f-requires c =
    let m : Small c.form_of-form.result = small _ _ c.form_of-form.ensures in
    let a = near 1 _ _ (omega arith) c.put_le-a.ensures in
    let b = near _ _ _ m.gives_slot c.put_le-b.ensures in
    let d = near _ _ _ m.gives_generation c.put_le-c.ensures in
    let e = near _ _ _ m.gives_len c.put_le-d.ensures in
    let f = near _ _ _ m.gives_count c.put_le-e.ensures in
    omega (arith, m.gives_yes, a, b, d, e, f, c.requires.2)

pub put_bytes-requires : goal.put_bytes-requires
put_bytes-requires c =
    let m : Small c.form_of-form.result = small _ _ c.form_of-form.ensures in
    let a = near 1 _ _ (omega arith) c.put_le-a.ensures in
    let b = near _ _ _ m.gives_slot c.put_le-b.ensures in
    let d = near _ _ _ m.gives_generation c.put_le-c.ensures in
    let e = near _ _ _ m.gives_len c.put_le-d.ensures in
    let f = near _ _ _ m.gives_count c.put_le-e.ensures in
    let h = near _ _ _ m.gives_yes c.put_le-f.ensures in
    omega (arith, c.requires.1, c.requires.2, a, b, d, e, f, h)

-- ---- the answer

pub returns : goal.returns
returns c =
    let m : Small c.form_of-form.result = small _ _ c.form_of-form.ensures in
    let f = c.form_of-form.result in
    let t = c.args.told in
    let n = c.args.number in
    let y = c.from.result in
    let o = shown c.args.out.now c.args.at in
    let buf : List ℕ = c.args.buf.now in
    let e₂ = pours_then (le 1 n) (le f.gives_slot t.slot) o c.put_le-a.ensures c.put_le-b.ensures in
    let e₃ = pours_then _ (le f.gives_generation t.generation) o e₂ c.put_le-c.ensures in
    let e₄ = pours_then _ (le f.gives_len t.len) o e₃ c.put_le-d.ensures in
    let e₅ = pours_then _ (le f.gives_count t.count) o e₄ c.put_le-e.ensures in
    let e₆ = pours_then _ (le f.gives_yes y) o e₅ c.put_le-f.ensures in
    let whole = answer_is c.args.op f n t y buf c.form_of-form.ensures (search rules) in
    let l₁ = near 1 _ _ (omega arith) c.put_le-a.ensures in
    let l₂ = near _ _ _ m.gives_slot c.put_le-b.ensures in
    let l₃ = near _ _ _ m.gives_generation c.put_le-c.ensures in
    let l₄ = near _ _ _ m.gives_len c.put_le-d.ensures in
    let l₅ = near _ _ _ m.gives_count c.put_le-e.ensures in
    let l₆ = near _ _ _ m.gives_yes c.put_le-f.ensures in
    record {
      answer = pours_then _ buf o e₆ c.put_bytes.ensures ∙ ap (λ (x : List ℕ). pours x o) whole;
      few = omega (arith, c.requires.1, l₁, l₂, l₃, l₄, l₅, l₆, after_pours buf _ c.put_bytes.ensures);
    }
