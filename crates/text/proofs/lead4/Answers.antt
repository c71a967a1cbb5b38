-- `lead4` meets its contract: each return is the arm of `lead_of4` that its tests choose. Assumes nothing.
use mathlib.Core.Path.{◌∙◌}
use borrow.Author.Tests.{eq-eqb, ne_eqb, le-leb, lt-leb}
use Rattle.text.specs.Text.{lead_of4}
use Rattle.text.proofs.lead4.Goals as goal

pub returns-then-b-eq240 : goal.returns-then-b-eq240
unfolding lead_of4
returns-then-b-eq240 c =
    c.owed.ensures ∙ simp (eq-eqb _ _ c.if-b-eq240.true)

pub returns-then-b-le243 : goal.returns-then-b-le243
unfolding lead_of4
returns-then-b-le243 c =
    c.owed-then-b-le243.ensures ∙ simp (ne_eqb _ _ c.if-b-eq240.false, le-leb _ _ c.if-b-le243.true)

pub returns-then-b-eq244 : goal.returns-then-b-eq244
unfolding lead_of4
returns-then-b-eq244 c =
    c.owed-then-b-eq244.ensures ∙ simp (ne_eqb _ _ c.if-b-eq240.false, lt-leb _ _ c.if-b-le243.false, eq-eqb _ _ c.if-b-eq244.true)

pub returns : goal.returns
unfolding lead_of4
returns c =
    c.owed-2.ensures ∙ simp (ne_eqb _ _ c.if-b-eq240.false, lt-leb _ _ c.if-b-le243.false, ne_eqb _ _ c.if-b-eq244.false)
