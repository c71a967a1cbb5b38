-- `get_at` meets its contract: it lends the field's bytes to `get_le`.
use mathlib.Core.Path.{ap, ◌∙◌}
use native.Mathlib.Nat.{add-sub_cancel_left}
use Rattle.le.specs.Le.{field}
use Rattle.le.proofs.get_at.Goals as goal

pub returns : goal.returns
returns c =
    let a = c.args in
    c.get_le.ensures ∙ ap (field a.src.now a.at) (add-sub_cancel_left a.at a.w)
