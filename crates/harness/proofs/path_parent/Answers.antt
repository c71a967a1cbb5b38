-- The front that ends where the parent does spells it: `parent_text`.
use mathlib.Core.Path.{◌∙◌}
use Rattle.harness.proofs.Ways.{told, parent_text}
use Rattle.harness.proofs.path_parent.Goals as goal

pub returns : goal.returns
returns c =
    let a = c.args in
    c.spell.ensures ∙ parent_text a.path.now a.out.now (told c.is_text.ensures c.if-not-is_text.false) _ c.in-Some.ensures
