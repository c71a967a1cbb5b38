-- `lead` meets its contract by the laws `lead_1` to `lead_4`, one for each return. Assumes nothing.
use mathlib.Core.Path.{◌∙◌, sym}
use native.Mathlib.Omega.{arith}
use Rattle.text.proofs.Steps.{lead_1, lead_none, lead_2, lead_3, lead_4}
use Rattle.text.proofs.lead.Goals as goal

pub returns-then-b-le127 : goal.returns-then-b-le127
returns-then-b-le127 c =
    c.owed.ensures ∙ sym (lead_1 _ (omega arith))

pub returns-then-b-lt194 : goal.returns-then-b-lt194
returns-then-b-lt194 c =
    c.owed-then-b-lt194.ensures ∙ sym (lead_none _ (omega arith))

pub returns-then-b-le223 : goal.returns-then-b-le223
returns-then-b-le223 c =
    c.owed-then-b-le223.ensures ∙ sym (lead_2 _ (omega arith))

pub returns-then-b-le239 : goal.returns-then-b-le239
returns-then-b-le239 c =
    c.lead3.ensures ∙ sym (lead_3 _ (omega arith))

pub returns : goal.returns
returns c =
    c.lead4.ensures ∙ sym (lead_4 _ (omega arith))
