-- Carried by `let_through`; the two ways out are `refused_is` and `made_is`.
use Rattle.device.specs.Device.{dev}
use mathlib.Core.Path.{refl}
use Rattle.slot_calls.specs.SlotCalls.{sync_slot_m}
use Rattle.slot_calls.proofs.Ways.{let_through, refused_is, made_is}
use Rattle.slot_calls.proofs.sync_slot.Goals as goal

pub returns-then-number-ne0 : goal.returns-then-number-ne0
unfolding sync_slot_m
returns-then-number-ne0 c =
    refused_is _ _ _ _ _ c.refusal-number.ensures _ c.if-number-ne0.true

pub put_header-requires : goal.put_header-requires
put_header-requires c =
    let p = let_through _ _ _ (dev c.args.bytes.now c.args.phys.now c.args.place.now) _ c.refusal-number.ensures c.if-number-ne0.false in
    record { shape = (p.shape, p.row); path_len = (refl, p.short) }

pub returns : goal.returns
unfolding sync_slot_m
returns c =
    made_is _ _ _ _ _ c.refusal-number.ensures _ _ c.if-number-ne0.false c.put_header.ensures.same
