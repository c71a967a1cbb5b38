-- One law for each way out: `write_failed`, `write_beyond`, `write_done`.
use mathlib.Core.Path.{sym}
use lib.ListN.{length, take}
use lib.Seq.{length-take-le}
use Rattle.device.proofs.Shapes.{slotted, shape_stored}
use Rattle.device.proofs.Ways.{stores_fit, write_failed, write_beyond, write_done}
use Rattle.device.proofs.write_at.Goals as goal

pub returns-then-byte-eq1 : goal.returns-then-byte-eq1
returns-then-byte-eq1 c =
    let a = c.args in record { same = write_failed a.plan.now a.geometry a.slot a.pos a.src.now a.bytes.now a.phys.now a.place c.turn_of-byte.ensures c.if-byte-eq1.true c.next.ensures; kept = c.requires.shape }

pub returns-then-size-pos : goal.returns-then-size-pos
returns-then-size-pos c =
    let a = c.args in record { same = write_beyond a.plan.now a.geometry a.slot a.pos a.src.now a.bytes.now a.phys.now a.place c.turn_of-byte.ensures c.if-byte-eq1.false c.if-size-pos.true c.next-then-size-pos.ensures; kept = c.requires.shape }

pub slice_bounds-store-end : goal.slice_bounds-store-end
slice_bounds-store-end c =
    let a = c.args in
    sym (length-take-le _ _ (stores_fit c.turn_of-byte.result a.pos a.geometry.size a.src.now c.if-size-pos.false c.min.ensures c.share_of-n.ensures).0)

pub store-requires : goal.store-requires
store-requires c =
    let a = c.args in record { slotted = slotted c.requires.shape c.requires.slot_in_bounds; src_bound = (stores_fit c.turn_of-byte.result a.pos a.geometry.size a.src.now c.if-size-pos.false c.min.ensures c.share_of-n.ensures).1 }

pub returns : goal.returns
returns c =
    let a = c.args in
    let n = c.share_of-n.result in
    let fit = stores_fit c.turn_of-byte.result a.pos a.geometry.size a.src.now c.if-size-pos.false c.min.ensures c.share_of-n.ensures in record {
      same = write_done a.plan.now a.geometry a.slot a.pos a.src.now a.bytes.now a.phys.now a.place c.turn_of-byte.ensures c.if-byte-eq1.false c.if-size-pos.false
          c.min.ensures c.share_of-n.ensures (c.store.ensures.stored, c.store.ensures.reached) c.short_of-last.ensures c.next-2.ensures;
      kept = shape_stored _ _ a.slot a.pos (length (take n a.src.now)) c.requires.shape c.requires.slot_in_bounds c.store.auto.bytes c.store.ensures.reached fit.1;
    }
