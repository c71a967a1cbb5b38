-- One law for each way out: `cut_failed`, `cut_beyond`, `cut_done`.
use mathlib.Core.Path.{◌≡◌, refl}
use Prim.Native.Nat.{◌+◌}
use native.Mathlib.Omega.{arith}
use Rattle.device.specs.Device.{data_truncate_m}
use Rattle.device.proofs.Shapes.{shape_set}
use Rattle.device.proofs.Ways.{cut_failed, cut_beyond, cut_done}
use Rattle.device.proofs.data_truncate.Goals as goal

pub returns-then-last-ne0 : goal.returns-then-last-ne0
unfolding data_truncate_m
returns-then-last-ne0 c =
    let a = c.args in record { same = cut_failed a.plan.now a.geometry a.slot (512 + a.len) a.bytes.now a.phys.now a.place c.flush-done.ensures c.if-last-ne0.true; kept = c.requires.shape }

pub returns-then-size-end : goal.returns-then-size-end
unfolding data_truncate_m
returns-then-size-end c =
    let a = c.args in record { same = cut_beyond a.plan.now a.geometry a.slot (512 + a.len) a.bytes.now a.phys.now a.place c.flush-done.ensures c.if-last-ne0.false (omega arith) c.next.ensures; kept = c.requires.shape }

pub returns : goal.returns
unfolding data_truncate_m
returns c =
    let a = c.args in
    let k : c.file_pos-end.result ≡ 512 + a.len = omega arith in record { same = cut_done a.plan.now a.geometry a.slot (512 + a.len) a.bytes.now a.phys.now a.place c.flush-done.ensures c.if-last-ne0.false k (omega arith) c.grow.ensures; kept = shape_set _ _ a.slot c.file_pos-end.result c.requires.shape c.grow.auto.bytes refl c.if-size-end.false }
