-- The two ways out are `refused_is` and `made_is`.
use mathlib.Core.Path.{ap}
use Rattle.device.specs.declared.Place.{Place}
use Rattle.device.specs.Device.{dev, flush_m}
use Rattle.slot_calls.specs.SlotCalls.{flush_slot_m}
use Rattle.slot_calls.proofs.Ways.{refused_is, made_is}
use Rattle.slot_calls.proofs.flush_slot.Goals as goal

pub returns-then-number-ne0 : goal.returns-then-number-ne0
unfolding flush_slot_m
returns-then-number-ne0 c =
    refused_is _ _ _ _ _ c.refusal-number.ensures _ c.if-number-ne0.true

pub returns : goal.returns
unfolding flush_slot_m flush_m
returns c =
    made_is _ _ _ _ _ c.refusal-number.ensures _ _ c.if-number-ne0.false (ap (λ (p : Place). dev c.args.bytes.now c.args.phys.now p) c.flush.ensures)
