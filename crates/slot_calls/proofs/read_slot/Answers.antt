-- Carried by `let_through`; the two ways out are `read_refused` and `read_made`.
use Rattle.slot_calls.proofs.Ways.{let_through, read_refused, read_made}
use Rattle.device.specs.Device.{dev}
use Rattle.slot_calls.proofs.read_slot.Goals as goal

pub returns-then-number-ne0 : goal.returns-then-number-ne0
returns-then-number-ne0 c =
    read_refused _ _ _ _ _ _ _ c.refusal-number.ensures c.if-number-ne0.true

pub data_read-got-requires : goal.data_read-got-requires
data_read-got-requires c =
    let p = let_through _ _ _ (dev c.args.bytes.now c.args.phys.now c.args.place.now) _ c.refusal-number.ensures c.if-number-ne0.false in
    record { shape = p.shape; slot_in_bounds = p.row }

pub returns : goal.returns
returns c =
    read_made _ _ _ _ _ _ _ c.refusal-number.ensures _ _ c.if-number-ne0.false c.data_read-got.ensures
