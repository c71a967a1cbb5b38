-- "Any two outcomes it allows are the same", of a contract as the checker has it.
use Rattle.std.specs.Prelude.{◌≡◌}
use seplogic.Ra.Ura.{Ura}
use base.Logic.{ent}
use contract.Conj.{conj}
use contract.Fact.{fact}
use contract.Lifetimes.{Lfts}
use denote.Triple.Entry.{Args, Res}
use denote.Triple.Clauses.{Ended, AtExit, Clauses}

-- The contract c of a function T, with lifetimes κs and arguments a: where its `ensures` holds of two results, with the lent things at
-- exit of each, both are seen to be the same.
abbrev pub Decided : {M : Type 1} (𝓤 : Ura M) (T : Ended) (c : Clauses 𝓤 T) (κs : Lfts T.signature.lifetimes)
    (a : Args T.signature κs) {S : Type 0} → (Res T.signature κs → AtExit T κs → S) → Type 1
Decided 𝓤 T c κs a sees =
    (g h : (c κs a).ghost) (r s : Res T.signature κs) (y z : AtExit T κs)
    → ent 𝓤 (conj 𝓤 ((c κs a).ensures g r y) ((c κs a).ensures h s z)) (fact 𝓤 (sees r y ≡ sees s z))
