-- The contract of `pool::call`, as the checker has it, and what the promises speak of: `Entered` of crate pool, at what is lent and what is
-- left.
use Rattle.std.specs.Prelude.{◌≡◌}
use seplogic.Ra.Ura.{Ura}
use base.Logic.{SProp}
use prog.Memory.{Memory}
use prog.Routine.{Routine}
use types.Logic.{Logic}
use contract.Monad.{Fun}
use contract.Lifetimes.{Lfts}
use contract.Notation as Notation
use denote.Triple.Entry.{Args, Res}
use denote.Triple.Clauses.{AtExit}
use Rattle.pool.specs.Face.{Asked, Left, Same, Placed}
use Rattle.pool.specs.contracts.call as call
use Rattle.promises_tied.specs.Decided.{Decided}

module _ {M : Type 1} {𝓤 : Ura M} (𝓛 : Logic 𝓤) (mem : Memory → SProp 𝓤) (run : Routine → Fun 𝓤) where
  abbrev 𝓝 : Notation.Connectives 𝓤
  𝓝 = Notation.connectives 𝓤

  open 𝓝 use {⌜◌⌝, ◌∗◌, ⊤ₛ}

  module _ (κs : Lfts 10) where
    -- What it is asked, and what it leaves.
    abbrev pub asked : Args call.signature κs → Asked
    asked a = record {
      bytes = a.0.now;
      phys = a.1.0.now;
      geometry = a.1.1.0;
      plan = a.1.1.1.0.now;
      at = a.1.1.1.1.0.now;
      rows = a.1.1.1.1.1.0.now;
      names = a.1.1.1.1.1.1.0.now;
      dirs = a.1.1.1.1.1.1.1.0.now;
      pool = a.1.1.1.1.1.1.1.1.0;
      call = a.1.1.1.1.1.1.1.1.1.0;
      first = a.1.1.1.1.1.1.1.1.1.1.0.now;
      second = a.1.1.1.1.1.1.1.1.1.1.1.0.now;
      buf = a.1.1.1.1.1.1.1.1.1.1.1.1.0.now;
    }

    abbrev pub left : Res call.signature κs → AtExit call.ended κs → Left
    left r z = record {
      reply = r;
      bytes = z.0.now;
      phys = z.1.0.now;
      at = z.1.1.1.1.0.now;
      rows = z.1.1.1.1.1.0.now;
      names = z.1.1.1.1.1.1.0.now;
      dirs = z.1.1.1.1.1.1.1.0.now;
      buf = z.1.1.1.1.1.1.1.1.1.1.1.1.0.now;
    }

    module _ (a : Args call.signature κs) where
      -- It asks for nothing: any input may come.
      abbrev pub CallIsTotal : Type 2
      CallIsTotal = (call.clauses 𝓛 mem run κs a).requires tt ≡ ⊤ₛ

      -- Its two clauses are those of `Entered`.
      abbrev pub CallIsEntered : Type 2
      CallIsEntered = (r : Res call.signature κs) (z : AtExit call.ended κs)
          → (call.clauses 𝓛 mem run κs a).ensures tt r z ≡ (⌜ Same (asked a) (left r z) ⌝ ∗ ⌜ Placed (left r z) ⌝)

      -- Two ends that it allows are the same, in the reply, the place, the records and every byte.
      abbrev pub CallOneOutcome : Type 1
      CallOneOutcome = Decided 𝓤 call.ended (call.clauses 𝓛 mem run) κs a left
