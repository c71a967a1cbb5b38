-- `put_at` meets its contract by `mid_back`: the part that was lent to `put_le` is back.
use Prim.Native.Nat.{ℕ}
use mathlib.Core.Path.{◌≡◌, ap, ◌∙◌}
use native.Mathlib.Omega.{arith}
use lib.ListN.{length}
use Rattle.le.specs.Le.{le, laid}
use Rattle.le.proofs.Fields.{length_le}
use Rattle.le.proofs.Parts.{length_mid, mid_back}
use Rattle.le.proofs.put_at.Goals as goal

pub returns : goal.returns
returns c =
    let put = c.put_le in
    let a = c.args in
    let d = a.dst.now in
    let e : put.new.dst ≡ le a.w a.x = put.ensures ∙ ap (λ (k : ℕ). le k a.x) (length_mid a.at a.w d (omega arith)) in
    mid_back a.at a.w d _ (ap length e ∙ length_le a.w a.x) ∙ ap (laid d a.at) e
