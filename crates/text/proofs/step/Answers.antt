-- `step` meets its contract: each return is the arm of `step_of` that its tests choose. Assumes nothing.
use mathlib.Core.Path.{◌∙◌}
use borrow.Author.Tests.{lt-ltb, le-ltb, eq-eqb, ne_eqb}
use Rattle.text.specs.Text.{step_of}
use Rattle.text.proofs.step.Goals as goal

pub returns-then-d-eq0 : goal.returns-then-d-eq0
unfolding step_of
returns-then-d-eq0 c =
    c.lead.ensures ∙ rw (eq-eqb _ _ c.if-d-eq0.true)

pub returns-then-b-d : goal.returns-then-b-d
unfolding step_of
returns-then-b-d c =
    c.owed.ensures ∙ simp (ne_eqb _ _ c.if-d-eq0.false, lt-ltb _ _ c.if-b-d.true)

pub returns-then-d-b : goal.returns-then-d-b
unfolding step_of
returns-then-d-b c =
    c.owed-then-d-b.ensures ∙ simp (ne_eqb _ _ c.if-d-eq0.false, le-ltb _ _ c.if-b-d.false, lt-ltb _ _ c.if-d-b.true)

pub returns : goal.returns
unfolding step_of
returns c =
    c.owed-2.ensures ∙ simp (ne_eqb _ _ c.if-d-eq0.false, le-ltb _ _ c.if-b-d.false, le-ltb _ _ c.if-d-b.false)
