-- One law for each way out: `read_failed`, `read_past`, `read_done`.
use native.Mathlib.Omega.{arith}
use Rattle.device.proofs.Shapes.{slotted}
use Rattle.device.specs.Slots.{share_le}
use Rattle.device.proofs.Ways.{read_failed, read_past, read_done}
use Rattle.device.proofs.read_at.Goals as goal

pub returns-then-byte-eq1 : goal.returns-then-byte-eq1
returns-then-byte-eq1 c =
    let a = c.args in
    read_failed a.plan.now a.geometry a.slot a.pos a.dst.now a.bytes.now a.phys.now a.place c.turn_of-byte.ensures c.if-byte-eq1.true c.next.ensures

pub returns-then-end-pos : goal.returns-then-end-pos
returns-then-end-pos c =
    let a = c.args in
    read_past a.plan.now a.geometry a.slot a.pos a.dst.now a.bytes.now a.phys.now a.place c.turn_of-byte.ensures c.if-byte-eq1.false c.if-end-pos.true c.next-then-end-pos.ensures

pub returns : goal.returns
returns c =
    let a = c.args in
    let s = slotted c.requires.shape c.requires.slot_in_bounds in
    let k = share_le c.turn_of-byte.result c.min.result in
    read_done a.plan.now a.geometry a.slot a.pos a.dst.now a.bytes.now a.phys.now a.place c.turn_of-byte.ensures c.if-byte-eq1.false
    c.min.ensures c.share_of-n.ensures (omega arith) (rw c.copy_from_slice.ensures.after) c.next-2.ensures
