-- The statements of specs/Face.antt: the tie computes, and `face_decides` of crate promises decides.
use mathlib.Core.Path.{◌≡◌, refl, ◌∙◌}
use seplogic.Ra.Ura.{Ura}
use base.Logic.{SProp}
use prog.Memory.{Memory}
use prog.Routine.{Routine}
use types.Logic.{Logic}
use contract.Monad.{Fun}
use contract.Lifetimes.{Lfts}
use denote.Triple.Entry.{Args}
use Rattle.pool.specs.Face.{Same, Placed, Entered}
use Rattle.pool.specs.contracts.call as call
use Rattle.promises.specs.Face.{FaceDecides}
use Rattle.promises.proofs.Face.{face_decides}
use Rattle.promises_tied.specs.Face.{asked, left, CallIsTotal, CallIsEntered, CallOneOutcome}
use Rattle.promises_tied.proofs.Facts.{two_clauses, each_facts}

module _ {M : Type 1} {𝓤 : Ura M} (𝓛 : Logic 𝓤) (mem : Memory → SProp 𝓤) (run : Routine → Fun 𝓤) where
  module _ (κs : Lfts 10) (a : Args call.signature κs) where
    pub call_is_total : CallIsTotal 𝓛 mem run κs a
    call_is_total = refl

    pub call_is_entered : CallIsEntered 𝓛 mem run κs a
    call_is_entered r z = refl

    pub call_one_outcome : CallOneOutcome 𝓛 mem run κs a
    unfolding FaceDecides
    call_one_outcome g h r s y z =
        let x = asked 𝓛 mem run κs a in
        let v = left 𝓛 mem run κs r y in
        let w = left 𝓛 mem run κs s z in
        each_facts 𝓤 _ _ (Entered x v) (Entered x w) (v ≡ w) (two_clauses 𝓤 (Same x v) (Placed v)) (two_clauses 𝓤 (Same x w) (Placed w))
        (face_decides x v w)
