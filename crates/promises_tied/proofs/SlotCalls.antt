-- The statements of specs/SlotCalls.antt: each tie computes, and what both ends are decides.
use mathlib.Core.Path.{refl}
use seplogic.Ra.Ura.{Ura}
use base.Logic.{SProp}
use prog.Memory.{Memory}
use prog.Routine.{Routine}
use types.Logic.{Logic}
use contract.Monad.{Fun}
use contract.Lifetimes.{Lfts}
use denote.Triple.Entry.{Args}
use Rattle.slot_calls.specs.contracts.read_slot as read-slot
use Rattle.slot_calls.specs.contracts.write_slot as write-slot
use Rattle.slot_calls.specs.contracts.sync_slot as sync-slot
use Rattle.slot_calls.specs.contracts.flush_slot as flush-slot
use Rattle.slot_calls.specs.contracts.truncate_slot as truncate-slot
use Rattle.promises_tied.specs.SlotCalls.{read_slot_sees, read_slot_call, ReadSlotIsTotal, ReadSlotIsCall, ReadSlotOneOutcome}
use Rattle.promises_tied.specs.SlotCalls.{write_slot_sees, write_slot_call, WriteSlotIsTotal, WriteSlotIsCall, WriteSlotOneOutcome}
use Rattle.promises_tied.specs.SlotCalls.{sync_slot_sees, sync_slot_call, SyncSlotIsTotal, SyncSlotIsCall, SyncSlotOneOutcome}
use Rattle.promises_tied.specs.SlotCalls.{flush_slot_sees, flush_slot_call, FlushSlotIsTotal, FlushSlotIsCall, FlushSlotOneOutcome}
use Rattle.promises_tied.specs.SlotCalls.{truncate_slot_sees, truncate_slot_call, TruncateSlotIsTotal, TruncateSlotIsCall, TruncateSlotOneOutcome}
use Rattle.promises_tied.proofs.Facts.{alike, both_facts}

module _ {M : Type 1} {𝓤 : Ura M} (𝓛 : Logic 𝓤) (mem : Memory → SProp 𝓤) (run : Routine → Fun 𝓤) where
  module _ (κs : Lfts 5) (a : Args read-slot.signature κs) where
    pub read_slot_is_total : ReadSlotIsTotal 𝓛 mem run κs a
    read_slot_is_total = refl

    pub read_slot_is_call : ReadSlotIsCall 𝓛 mem run κs a
    read_slot_is_call r z = refl

    pub read_slot_one_outcome : ReadSlotOneOutcome 𝓛 mem run κs a
    read_slot_one_outcome g h r s y z =
        let v = read_slot_sees 𝓛 mem run κs a r y in
        let w = read_slot_sees 𝓛 mem run κs a s z in
        both_facts 𝓤 _ _ _ (alike (read_slot_call 𝓛 mem run κs a) v w)

  module _ (κs : Lfts 5) (a : Args write-slot.signature κs) where
    pub write_slot_is_total : WriteSlotIsTotal 𝓛 mem run κs a
    write_slot_is_total = refl

    pub write_slot_is_call : WriteSlotIsCall 𝓛 mem run κs a
    write_slot_is_call r z = refl

    pub write_slot_one_outcome : WriteSlotOneOutcome 𝓛 mem run κs a
    write_slot_one_outcome g h r s y z =
        let v = write_slot_sees 𝓛 mem run κs a r y in
        let w = write_slot_sees 𝓛 mem run κs a s z in
        both_facts 𝓤 _ _ _ (alike (write_slot_call 𝓛 mem run κs a) v w)

  module _ (κs : Lfts 5) (a : Args sync-slot.signature κs) where
    pub sync_slot_is_total : SyncSlotIsTotal 𝓛 mem run κs a
    sync_slot_is_total = refl

    pub sync_slot_is_call : SyncSlotIsCall 𝓛 mem run κs a
    sync_slot_is_call r z = refl

    pub sync_slot_one_outcome : SyncSlotOneOutcome 𝓛 mem run κs a
    sync_slot_one_outcome g h r s y z =
        let v = sync_slot_sees 𝓛 mem run κs a r y in
        let w = sync_slot_sees 𝓛 mem run κs a s z in
        both_facts 𝓤 _ _ _ (alike (sync_slot_call 𝓛 mem run κs a) v w)

  module _ (κs : Lfts 4) (a : Args flush-slot.signature κs) where
    pub flush_slot_is_total : FlushSlotIsTotal 𝓛 mem run κs a
    flush_slot_is_total = refl

    pub flush_slot_is_call : FlushSlotIsCall 𝓛 mem run κs a
    flush_slot_is_call r z = refl

    pub flush_slot_one_outcome : FlushSlotOneOutcome 𝓛 mem run κs a
    flush_slot_one_outcome g h r s y z =
        let v = flush_slot_sees 𝓛 mem run κs a r y in
        let w = flush_slot_sees 𝓛 mem run κs a s z in
        both_facts 𝓤 _ _ _ (alike (flush_slot_call 𝓛 mem run κs a) v w)

  module _ (κs : Lfts 4) (a : Args truncate-slot.signature κs) where
    pub truncate_slot_is_total : TruncateSlotIsTotal 𝓛 mem run κs a
    truncate_slot_is_total = refl

    pub truncate_slot_is_call : TruncateSlotIsCall 𝓛 mem run κs a
    truncate_slot_is_call r z = refl

    pub truncate_slot_one_outcome : TruncateSlotOneOutcome 𝓛 mem run κs a
    truncate_slot_one_outcome g h r s y z =
        let v = truncate_slot_sees 𝓛 mem run κs a r y in
        let w = truncate_slot_sees 𝓛 mem run κs a s z in
        both_facts 𝓤 _ _ _ (alike (truncate_slot_call 𝓛 mem run κs a) v w)
