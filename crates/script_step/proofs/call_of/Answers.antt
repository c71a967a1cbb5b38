-- Each way out by what its tests say.
use mathlib.Core.Path.{ap, ◌∙◌}
use Rattle.calls_gate.specs.declared.Call.TheVariants.{OpenWrite}
use Rattle.script_step.proofs.Ways.{is_mount, is_adopt, is_open_write, is_open_read, is_on_handle, is_on_path}
use Rattle.script_step.proofs.call_of.Goals as goal

pub returns-then-code-eq1 : goal.returns-then-code-eq1
returns-then-code-eq1 c =
    is_mount _ c.if-code-eq1.true

pub returns-then-code-eq2 : goal.returns-then-code-eq2
returns-then-code-eq2 c =
    is_adopt _ c.if-code-eq1.false c.if-code-eq2.true

pub returns-then-code-eq3 : goal.returns-then-code-eq3
returns-then-code-eq3 c =
    ap OpenWrite c.keeping.ensures ∙ is_open_write _ c.if-code-eq1.false c.if-code-eq2.false c.if-code-eq3.true

pub returns-then-code-eq4 : goal.returns-then-code-eq4
returns-then-code-eq4 c =
    is_open_read _ c.if-code-eq1.false c.if-code-eq2.false c.if-code-eq3.false c.if-code-eq4.true

pub returns-then-code-le9 : goal.returns-then-code-le9
returns-then-code-le9 c =
    c.on_handle.ensures ∙ is_on_handle _ c.if-code-eq1.false c.if-code-eq2.false c.if-code-eq3.false c.if-code-eq4.false c.if-code-le9.true

pub returns : goal.returns
returns c =
    c.on_path.ensures ∙ is_on_path _ c.if-code-eq1.false c.if-code-eq2.false c.if-code-eq3.false c.if-code-eq4.false c.if-code-le9.false
