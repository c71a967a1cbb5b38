-- Beyond the slot one place is as another: `write_clamped`.
use mathlib.Core.Path.{◌∙◌}
use Rattle.device.specs.Device.{data_write_m}
use Rattle.device.proofs.Ways.{write_clamped}
use Rattle.device.proofs.data_write.Goals as goal

pub returns : goal.returns
unfolding data_write_m
returns c =
    let a = c.args in
    let w = c.write_at in record {
      same = w.ensures.same ∙ write_clamped a.plan.now a.geometry a.slot a.at a.src.now a.bytes.now a.phys.now a.place
          c.file_pos-pos.ensures;
      kept = w.ensures.kept;
    }
