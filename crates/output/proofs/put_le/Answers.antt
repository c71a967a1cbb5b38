-- A turn of the loop is `pours_byte`: the digits still to be put out make the whole number.
use Rattle.std.proofs.Common.{◌≡◌, ◌∙◌, ◌+◌, ◌-◌, ◌/◌, ◌%◌, ℕ, suc, sym, ap, arith}
use Rattle.le.specs.Le.{le}
use Rattle.output.specs.Writer.{shown, pours}
use Rattle.output.proofs.InParts.{pours_none, pours_byte, after_pours}
use Rattle.output.proofs.put_le.Goals as goal

pub loop-preserved : goal.loop-preserved
loop-preserved c =
    let a = c.loop in
    let k : c.args.w - a.counter ≡ suc (c.args.w - (a.counter + 1)) = omega arith in
    let t = pours_byte (a.v % 256) (le (c.args.w - (a.counter + 1)) (a.v / 256)) (shown a.out a.a) c.put_byte-a.ensures in (
      omega (arith, after_pours _ _ c.put_byte-a.ensures),
      t ∙ ap (λ (j : ℕ). pours (le j a.v) (shown a.out a.a)) (sym k) ∙ a.invariant.1,
    )

pub returns : goal.returns
returns c =
    let a = c.loop in
    let z : c.args.w - a.counter ≡ 0 = omega arith in
    sym (pours_none (shown a.out a.a)) ∙ ap (λ (j : ℕ). pours (le j a.v) (shown a.out a.a)) (sym z) ∙ a.invariant.1
