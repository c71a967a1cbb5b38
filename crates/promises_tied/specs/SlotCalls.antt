-- The contract of each slot call, as the checker has it: it asks for nothing (`..IsTotal`), it is the equation with the call's definition
-- (`..IsCall`), and two ends that it allows are the same, in the answer and in everything lent (`..OneOutcome`).
use Rattle.std.specs.Prelude.{◌≡◌}
use seplogic.Ra.Ura.{Ura}
use base.Logic.{SProp}
use prog.Memory.{Memory}
use prog.Routine.{Routine}
use types.Logic.{Logic}
use contract.Monad.{Fun}
use contract.Lifetimes.{Lfts}
use contract.Notation as Notation
use denote.Triple.Entry.{Args, Res}
use denote.Triple.Clauses.{AtExit}
use Rattle.device.specs.Device.{dev}
use Rattle.slot_calls.specs.SlotCalls.{SlotDone, slot_done, SlotRead, slot_read}
use Rattle.slot_calls.specs.SlotCalls.{read_slot_m, write_slot_m, sync_slot_m, flush_slot_m, truncate_slot_m}
use Rattle.slot_calls.specs.contracts.read_slot as read-slot
use Rattle.slot_calls.specs.contracts.write_slot as write-slot
use Rattle.slot_calls.specs.contracts.sync_slot as sync-slot
use Rattle.slot_calls.specs.contracts.flush_slot as flush-slot
use Rattle.slot_calls.specs.contracts.truncate_slot as truncate-slot
use Rattle.promises_tied.specs.Decided.{Decided}

module _ {M : Type 1} {𝓤 : Ura M} (𝓛 : Logic 𝓤) (mem : Memory → SProp 𝓤) (run : Routine → Fun 𝓤) where
  abbrev 𝓝 : Notation.Connectives 𝓤
  𝓝 = Notation.connectives 𝓤

  open 𝓝 use {⌜◌⌝, ⊤ₛ}

  -- read_slot: what its end shows, and what it comes to.
  module _ (κs : Lfts 5) (a : Args read-slot.signature κs) where
    abbrev pub read_slot_sees : Res read-slot.signature κs → AtExit read-slot.ended κs → SlotRead
    read_slot_sees r z =
        slot_read r.number r.count z.1.1.1.1.1.1.1.0.now (dev a.0.now a.1.0.now z.1.1.1.1.0.now)

    abbrev pub read_slot_call : SlotRead
    read_slot_call =
        read_slot_m a.1.1.1.0.now a.1.1.0 a.1.1.1.1.1.0 a.1.1.1.1.1.1.0 a.1.1.1.1.1.1.1.0.now
        (dev a.0.now a.1.0.now a.1.1.1.1.0.now)

    abbrev pub ReadSlotIsTotal : Type 2
    ReadSlotIsTotal = (read-slot.clauses 𝓛 mem run κs a).requires tt ≡ ⊤ₛ

    abbrev pub ReadSlotIsCall : Type 2
    ReadSlotIsCall = (r : Res read-slot.signature κs) (z : AtExit read-slot.ended κs)
        → (read-slot.clauses 𝓛 mem run κs a).ensures tt r z ≡ ⌜ read_slot_sees r z ≡ read_slot_call ⌝

    abbrev pub ReadSlotOneOutcome : Type 1
    ReadSlotOneOutcome = Decided 𝓤 read-slot.ended (read-slot.clauses 𝓛 mem run) κs a read_slot_sees

  -- write_slot: what its end shows, and what it comes to.
  module _ (κs : Lfts 5) (a : Args write-slot.signature κs) where
    abbrev pub write_slot_sees : Res write-slot.signature κs → AtExit write-slot.ended κs → SlotDone
    write_slot_sees r z =
        slot_done r (dev z.0.now z.1.0.now z.1.1.1.1.0.now)

    abbrev pub write_slot_call : SlotDone
    write_slot_call =
        write_slot_m a.1.1.1.0.now a.1.1.0 a.1.1.1.1.1.0 a.1.1.1.1.1.1.0 a.1.1.1.1.1.1.1.0.now
        (dev a.0.now a.1.0.now a.1.1.1.1.0.now)

    abbrev pub WriteSlotIsTotal : Type 2
    WriteSlotIsTotal = (write-slot.clauses 𝓛 mem run κs a).requires tt ≡ ⊤ₛ

    abbrev pub WriteSlotIsCall : Type 2
    WriteSlotIsCall = (r : Res write-slot.signature κs) (z : AtExit write-slot.ended κs)
        → (write-slot.clauses 𝓛 mem run κs a).ensures tt r z ≡ ⌜ write_slot_sees r z ≡ write_slot_call ⌝

    abbrev pub WriteSlotOneOutcome : Type 1
    WriteSlotOneOutcome = Decided 𝓤 write-slot.ended (write-slot.clauses 𝓛 mem run) κs a write_slot_sees

  -- sync_slot: what its end shows, and what it comes to.
  module _ (κs : Lfts 5) (a : Args sync-slot.signature κs) where
    abbrev pub sync_slot_sees : Res sync-slot.signature κs → AtExit sync-slot.ended κs → SlotDone
    sync_slot_sees r z =
        slot_done r (dev z.0.now z.1.0.now z.1.1.1.1.0.now)

    abbrev pub sync_slot_call : SlotDone
    sync_slot_call =
        sync_slot_m a.1.1.1.0.now a.1.1.0 a.1.1.1.1.1.0 a.1.1.1.1.1.1.0 a.1.1.1.1.1.1.1.0.now a.1.1.1.1.1.1.1.1.0 a.1.1.1.1.1.1.1.1.1.0
        (dev a.0.now a.1.0.now a.1.1.1.1.0.now)

    abbrev pub SyncSlotIsTotal : Type 2
    SyncSlotIsTotal = (sync-slot.clauses 𝓛 mem run κs a).requires tt ≡ ⊤ₛ

    abbrev pub SyncSlotIsCall : Type 2
    SyncSlotIsCall = (r : Res sync-slot.signature κs) (z : AtExit sync-slot.ended κs)
        → (sync-slot.clauses 𝓛 mem run κs a).ensures tt r z ≡ ⌜ sync_slot_sees r z ≡ sync_slot_call ⌝

    abbrev pub SyncSlotOneOutcome : Type 1
    SyncSlotOneOutcome = Decided 𝓤 sync-slot.ended (sync-slot.clauses 𝓛 mem run) κs a sync_slot_sees

  -- flush_slot: what its end shows, and what it comes to.
  module _ (κs : Lfts 4) (a : Args flush-slot.signature κs) where
    abbrev pub flush_slot_sees : Res flush-slot.signature κs → AtExit flush-slot.ended κs → SlotDone
    flush_slot_sees r z =
        slot_done r (dev a.0.now a.1.0.now z.1.1.1.1.0.now)

    abbrev pub flush_slot_call : SlotDone
    flush_slot_call =
        flush_slot_m a.1.1.1.0.now a.1.1.0 a.1.1.1.1.1.0
        (dev a.0.now a.1.0.now a.1.1.1.1.0.now)

    abbrev pub FlushSlotIsTotal : Type 2
    FlushSlotIsTotal = (flush-slot.clauses 𝓛 mem run κs a).requires tt ≡ ⊤ₛ

    abbrev pub FlushSlotIsCall : Type 2
    FlushSlotIsCall = (r : Res flush-slot.signature κs) (z : AtExit flush-slot.ended κs)
        → (flush-slot.clauses 𝓛 mem run κs a).ensures tt r z ≡ ⌜ flush_slot_sees r z ≡ flush_slot_call ⌝

    abbrev pub FlushSlotOneOutcome : Type 1
    FlushSlotOneOutcome = Decided 𝓤 flush-slot.ended (flush-slot.clauses 𝓛 mem run) κs a flush_slot_sees

  -- truncate_slot: what its end shows, and what it comes to.
  module _ (κs : Lfts 4) (a : Args truncate-slot.signature κs) where
    abbrev pub truncate_slot_sees : Res truncate-slot.signature κs → AtExit truncate-slot.ended κs → SlotDone
    truncate_slot_sees r z =
        slot_done r (dev z.0.now z.1.0.now z.1.1.1.1.0.now)

    abbrev pub truncate_slot_call : SlotDone
    truncate_slot_call =
        truncate_slot_m a.1.1.1.0.now a.1.1.0 a.1.1.1.1.1.0 a.1.1.1.1.1.1.0
        (dev a.0.now a.1.0.now a.1.1.1.1.0.now)

    abbrev pub TruncateSlotIsTotal : Type 2
    TruncateSlotIsTotal = (truncate-slot.clauses 𝓛 mem run κs a).requires tt ≡ ⊤ₛ

    abbrev pub TruncateSlotIsCall : Type 2
    TruncateSlotIsCall = (r : Res truncate-slot.signature κs) (z : AtExit truncate-slot.ended κs)
        → (truncate-slot.clauses 𝓛 mem run κs a).ensures tt r z ≡ ⌜ truncate_slot_sees r z ≡ truncate_slot_call ⌝

    abbrev pub TruncateSlotOneOutcome : Type 1
    TruncateSlotOneOutcome = Decided 𝓤 truncate-slot.ended (truncate-slot.clauses 𝓛 mem run) κs a truncate_slot_sees
