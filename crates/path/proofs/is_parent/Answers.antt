-- The parent is a front of the file's spelling: `parent_some`.
use Rattle.std.proofs.Common.{◌∙◌}
use Rattle.path.proofs.Parents.{parent_none, parent_some}
use Rattle.path.proofs.is_parent.Goals as goal

pub returns-in-None : goal.returns-in-None
returns-in-None c =
    parent_none _ _ c.in-None.ensures

pub returns-in-Some : goal.returns-in-Some
returns-in-Some c =
    c.same_path.ensures ∙ parent_some _ _ _ c.in-Some.ensures
