-- A turn of the loop lays a patch (`one_laid`): laying those that are left gives the whole.
use Rattle.std.proofs.Common.{◌≡◌, ◌∙◌, ℕ, suc, ◌+◌, ◌-◌, List, None, Some, sym, ap, arith}
use Rattle.script_format.specs.Format.{Patching, patching, patch_at, patched_m}
use Rattle.script_format.specs.Reading.{place_behind}
use Rattle.script_format.proofs.patch.Goals as goal

one_laid : (s : List ℕ) (k i : ℕ) (d : List ℕ) (j : ℕ) (d' : List ℕ) → patching (Some j) d' ≡ patch_at s i d → patched_m s k j d' ≡ patched_m s (suc k) i d
unfolding patched_m
one_laid s k i d j d' e = ap {B = Patching} (λ (p : Patching). elim (p.behind) [ None ↦ patching None p.bytes | Some m ↦ patched_m s k m p.bytes ]) e

pub loop-preserved : goal.loop-preserved
loop-preserved c =
    let a = c.loop in
    let k : ℕ = c.args.count - (a.counter + 1) in
    let n : c.args.count - a.counter ≡ suc k = omega arith in
    let e = c.in_ok-at.ensures in (
      place_behind _ _ _ _ _ e,
      one_laid c.args.s.now k _ _ _ _ e ∙ ap (λ (j : ℕ). patched_m c.args.s.now j a.at a.bytes) (sym n) ∙ a.invariant.1,
    )
