-- One law for each way out: `vacate_none`, `vacate_done`.
use Rattle.inner_rename.proofs.Ways.{vacate_none, vacate_done}
use Rattle.inner_rename.proofs.vacate.Goals as goal

pub returns-then-n-j : goal.returns-then-n-j
returns-then-n-j c =
    vacate_none _ _ _ _ c.requires.ready.pool c.if-n-j.true

pub release-requires : goal.release-requires
release-requires c =
    let h = c.if-n-j.false in record { ready = c.requires.ready; slot_lt_held = (h, (c.requires.fact h).0, (c.requires.fact h).1) }

pub returns : goal.returns
returns c =
    vacate_done _ _ _ _ c.if-n-j.false _ c.release.ensures
