-- The contract of `calls::make`, as the checker has it, and what `one_outcome` of crate calls_gate speaks of.
use Rattle.std.specs.Prelude.{◌≡◌}
use seplogic.Ra.Ura.{Ura}
use base.Logic.{SProp}
use prog.Memory.{Memory}
use prog.Routine.{Routine}
use types.Logic.{Logic}
use contract.Monad.{Fun}
use contract.Lifetimes.{Lfts}
use contract.Notation as Notation
use denote.Triple.Entry.{Args, Res}
use denote.Triple.Clauses.{AtExit}
use Rattle.device.specs.Device.{dev}
use Rattle.pool_state.specs.State.{bufs}
use Rattle.pool_steps.specs.World.{Lent, lent}
use Rattle.calls_gate.specs.Replies.{Came}
use Rattle.calls_gate.specs.Calls.{call_p}
use Rattle.calls_gate.specs.Promises.{End, ends}
use Rattle.calls.specs.contracts.make as make
use Rattle.promises_tied.specs.Decided.{Decided}

module _ {M : Type 1} {𝓤 : Ura M} (𝓛 : Logic 𝓤) (mem : Memory → SProp 𝓤) (run : Routine → Fun 𝓤) where
  abbrev 𝓝 : Notation.Connectives 𝓤
  𝓝 = Notation.connectives 𝓤

  open 𝓝 use {⌜◌⌝, ⊤ₛ}

  module _ (κs : Lfts 9) where
    -- What is lent, how it ends, and what it comes to.
    abbrev pub lends : Args make.signature κs → Lent
    lends a =
        lent (dev a.0.now a.1.0.now a.1.1.1.1.0)
        (bufs a.1.1.1.1.1.1.1.1.0 a.1.1.1.1.1.0.now a.1.1.1.1.1.1.0.now
        a.1.1.1.1.1.1.1.0.now)

    abbrev pub end : Res make.signature κs → AtExit make.ended κs → End
    end r z = record {
      answer = r.answer;
      told = r.told;
      left =
          lent (dev z.0.now z.1.0.now r.place)
          (bufs r.pool z.1.1.1.1.1.0.now z.1.1.1.1.1.1.0.now z.1.1.1.1.1.1.1.0.now);
      buf = z.1.1.1.1.1.1.1.1.1.1.1.1.0.now;
    }

    abbrev pub called : Args make.signature κs → Came
    called a =
        call_p a.1.1.1.0.now a.1.1.0 a.1.1.1.1.1.1.1.1.1.0
        a.1.1.1.1.1.1.1.1.1.1.0.now a.1.1.1.1.1.1.1.1.1.1.1.0.now
        a.1.1.1.1.1.1.1.1.1.1.1.1.0.now (lends a)

    module _ (a : Args make.signature κs) where
      -- It asks for nothing.
      abbrev pub MakeIsTotal : Type 2
      MakeIsTotal = (make.clauses 𝓛 mem run κs a).requires tt ≡ ⊤ₛ

      -- Its clause is that the end is what the call comes to.
      abbrev pub MakeIsCall : Type 2
      MakeIsCall = (r : Res make.signature κs) (z : AtExit make.ended κs)
          → (make.clauses 𝓛 mem run κs a).ensures tt r z ≡ ⌜ ends (end r z) ≡ called a ⌝

      -- Two ends that it allows are the same.
      abbrev pub MakeOneOutcome : Type 1
      MakeOneOutcome = Decided 𝓤 make.ended (make.clauses 𝓛 mem run) κs a end
