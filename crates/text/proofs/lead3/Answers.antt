-- `lead3` meets its contract: each return is the arm of `lead_of3` that its tests choose. Assumes nothing.
use mathlib.Core.Path.{◌∙◌}
use borrow.Author.Tests.{eq-eqb, ne_eqb}
use Rattle.text.specs.Text.{lead_of3}
use Rattle.text.proofs.lead3.Goals as goal

pub returns-then-b-eq224 : goal.returns-then-b-eq224
unfolding lead_of3
returns-then-b-eq224 c =
    c.owed.ensures ∙ simp (eq-eqb _ _ c.if-b-eq224.true)

pub returns-then-b-eq237 : goal.returns-then-b-eq237
unfolding lead_of3
returns-then-b-eq237 c =
    c.owed-then-b-eq237.ensures ∙ simp (ne_eqb _ _ c.if-b-eq224.false, eq-eqb _ _ c.if-b-eq237.true)

pub returns : goal.returns
unfolding lead_of3
returns c =
    c.owed-2.ensures ∙ simp (ne_eqb _ _ c.if-b-eq224.false, ne_eqb _ _ c.if-b-eq237.false)
