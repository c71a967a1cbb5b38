-- A row that has lost holds no path (`lost_holds`); any other holds what it held (`kept_holds`).
use mathlib.Core.Path.{◌∙◌}
use borrow.Author.Tests.{ne_eqb}
use Rattle.mount_survey.proofs.Finding.{lost_holds, kept_holds}
use Rattle.mount_survey.proofs.stands.Goals as goal

pub returns-then-lost-j-eq0 : goal.returns-then-lost-j-eq0
returns-then-lost-j-eq0 c =
    c.row_is.ensures ∙ kept_holds _ _ _ c.if-lost-j-eq0.true

pub returns-else-lost-j-eq0 : goal.returns-else-lost-j-eq0
returns-else-lost-j-eq0 c =
    ne_eqb _ _ c.if-lost-j-eq0.false ∙ lost_holds _ _ _ c.if-lost-j-eq0.false
