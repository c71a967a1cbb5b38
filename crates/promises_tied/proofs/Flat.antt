-- The statements of specs/Flat.antt: the tie computes, and `one_outcome` of crate calls_gate decides.
use mathlib.Core.Path.{◌≡◌, refl, ◌∙◌}
use seplogic.Ra.Ura.{Ura}
use base.Logic.{SProp}
use prog.Memory.{Memory}
use prog.Routine.{Routine}
use types.Logic.{Logic}
use contract.Monad.{Fun}
use contract.Lifetimes.{Lfts}
use denote.Triple.Entry.{Args}
use Rattle.calls_gate.specs.Promises.{ends}
use Rattle.calls_gate.proofs.Promises.{one_outcome}
use Rattle.calls.specs.contracts.make as make
use Rattle.promises_tied.specs.Flat.{lends, end, called, MakeIsTotal, MakeIsCall, MakeOneOutcome}
use Rattle.promises_tied.proofs.Facts.{both_facts}

module _ {M : Type 1} {𝓤 : Ura M} (𝓛 : Logic 𝓤) (mem : Memory → SProp 𝓤) (run : Routine → Fun 𝓤) where
  module _ (κs : Lfts 9) (a : Args make.signature κs) where
    pub make_is_total : MakeIsTotal 𝓛 mem run κs a
    make_is_total = refl

    pub make_is_call : MakeIsCall 𝓛 mem run κs a
    make_is_call r z = refl

    pub make_one_outcome : MakeOneOutcome 𝓛 mem run κs a
    make_one_outcome g h r s y z =
        let c = called 𝓛 mem run κs a in
        let v = end 𝓛 mem run κs r y in
        let w = end 𝓛 mem run κs s z in
        both_facts 𝓤 (ends v ≡ c) (ends w ≡ c) (v ≡ w)
        (one_outcome a.1.1.1.0.now a.1.1.0 a.1.1.1.1.1.1.1.1.1.0
        a.1.1.1.1.1.1.1.1.1.1.0.now a.1.1.1.1.1.1.1.1.1.1.1.0.now
        a.1.1.1.1.1.1.1.1.1.1.1.1.0.now (lends 𝓛 mem run κs a) v w)
