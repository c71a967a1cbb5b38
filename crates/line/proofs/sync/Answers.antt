-- One law for each way out: `sync_no`, `sync_goes`.
use mathlib.Core.Path.{◌∙◌}
use Rattle.line.proofs.Ways.{sync_no, sync_goes}
use Rattle.line.proofs.sync.Goals as goal

pub returns-then-no-ne0 : goal.returns-then-no-ne0
returns-then-no-ne0 c =
    sync_no _ _ _ _ c.number-no.ensures _ c.ask-opened.ensures c.if-no-ne0.true c.say_no.ensures

pub returns : goal.returns
returns c =
    sync_goes _ _ _ _ c.number-no.ensures _ c.ask-opened.ensures c.if-no-ne0.false c.end.ensures
