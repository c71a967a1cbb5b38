-- Beyond the slot one place is as another: `read_clamped`.
use mathlib.Core.Path.{◌∙◌}
use Rattle.device.specs.Device.{data_read_m}
use Rattle.device.proofs.Ways.{read_clamped}
use Rattle.device.proofs.data_read.Goals as goal

pub returns : goal.returns
unfolding data_read_m
returns c =
    let a = c.args in
    c.read_at.ensures ∙ read_clamped a.plan.now a.geometry a.slot a.at a.dst.now a.bytes.now
    a.phys.now a.place c.file_pos-pos.ensures (c.requires.shape.within a.slot c.requires.slot_in_bounds)
