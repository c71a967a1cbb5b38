-- The invariant `Passed`: no row before j holds the path.
use mathlib.Core.Path.{sym, ◌∙◌}
use Rattle.mount_survey.proofs.Finding.{passed_more, passed_hit, passed_all}
use Rattle.slot_rows.proofs.InBuffers.{length_rows}
use native.Mathlib.Omega.{arith}
use Rattle.mount_survey.proofs.holder.Goals as goal

pub loop-j-init : goal.loop-j-init
loop-j-init c =
    λ t h. absurd (omega arith)

pub stands-requires : goal.stands-requires
stands-requires c =
    let pre = c.requires in
    (pre.0, omega arith, pre.2, c.key-key.ensures)

pub returns-then-stands : goal.returns-then-stands
returns-then-stands c =
    passed_hit _ _ _ _ _ c.loop-j-test.true (sym c.if-stands.true ∙ c.stands.ensures) c.loop-j.invariant

pub loop-j-preserved : goal.loop-j-preserved
loop-j-preserved c =
    passed_more _ _ _ _ _ c.loop-j-test.true (sym c.if-stands.false ∙ c.stands.ensures) c.loop-j.invariant

pub returns : goal.returns
returns c =
    let rows = c.args.rows.now in
    passed_all _ _ _ _ (omega (arith, length_rows rows.nums.now rows.names.now rows.n)) _ c.loop-j-test.false c.loop-j.invariant
