-- Contracts of two clauses, each a fact, and how a walk ends.
--     needs_both   the `requires` of a function: both facts are learned.      shows_both   the `requires` of a callee, and the `ensures` at the end: both are shown
--     heard_both   the `ensures` of a callee: both facts are learned
--     ends         the end of a walk: the tokens, what is had of the parameters, and the result, where the `ensures` is shown of nothing
-- `ends` takes `Logic`. The rest assumes nothing.
use mathlib.Core.List.{List, [], ◌∷◌}
use seplogic.Ra.Ura.{Ura}
use mir.Val.{Val}
use base.Logic.{SProp, ent, sep, emp, via, mono_l, emp∗, id⊢}
use types.Logic.{Logic}
use contract.Monad.{fact, fact_i}
use types.Kit.{Goal, Item, ‵, raw, ◌⊛◌, ⋆, Seq, ◌$◌, ◌∵◌, !, qed, suffices, use0, use1, move, split, join, done}
use denote.Signature.{type_at}
use denote.Steps.{heard}
use denote.Triple.Clauses.{Clauses, Ended, Lasts, at_exit}
use denote.Triple.Entry.{Res, alive}
use denote.Triple.Walked.{Stays, Fit, has_of, walk_of, ends_at}

module _ {M : Type 1} (𝓤 : Ura M) where
  pub shows_both : {φ ψ : Type 0} → φ → ψ → ent 𝓤 (emp 𝓤) (sep 𝓤 (fact 𝓤 φ) (fact 𝓤 ψ))
  shows_both {φ} {ψ} x y = via 𝓤 _ (fact_i 𝓤 ψ (emp 𝓤) y) (via 𝓤 _ (emp∗ 𝓤 (fact 𝓤 ψ)) (mono_l 𝓤 (fact 𝓤 ψ) (fact_i 𝓤 φ (emp 𝓤) x)))

module _ {M : Type 1} {𝓤 : Ura M} {𝓛 : Logic 𝓤} {K : Type 0} {Γ : List (Item 𝓤)} {G : Goal 𝓤 𝓛.H} where
  pub heard_both : K → (φ ψ : Type 0) → (φ → ψ → Seq K 𝓛 Γ G) → Seq K 𝓛 (raw (sep 𝓤 (fact 𝓤 φ) (fact 𝓤 ψ)) ∷ Γ) G
  heard_both t φ ψ k = use1 𝓛 (raw (fact 𝓤 φ) ⊛ raw (fact 𝓤 ψ)) (id⊢ 𝓤 _) $ split t $ heard t φ (λ x. heard t ψ (λ y. k x y))

pub needs_both : {M : Type 1} {𝓤 : Ura M} (𝓛 : Logic 𝓤) → (φ ψ : Type 0) (P : SProp 𝓤) {Q : SProp 𝓤} → (φ → ψ → ent 𝓤 P Q) → ent 𝓤 (sep 𝓤 P (sep 𝓤 (fact 𝓤 φ) (fact 𝓤 ψ))) Q
needs_both {𝓤 = 𝓤} 𝓛 φ ψ P {Q} k =
    qed 𝓛 (raw P ∷ raw (sep 𝓤 (fact 𝓤 φ) (fact 𝓤 ψ)) ∷ []) ∵ move ! (1 ∷ []) $ heard_both ! φ ψ (λ x y. record { prf = k x y })

module _ {M : Type 1} {𝓤 : Ura M} (𝓛 : Logic 𝓤) (T : Ended) (hs : Stays T.signature.params T.kept) (c : Clauses 𝓤 T) where
  pub ends : (y : (walk_of 𝓛 T hs c).Ghost) (v : Val) (r : Res T.signature y.0.0) (ws : Lasts T y.0.0 y.0.3) → Fit T hs y.0.0 y.0.3 ws
      → ent 𝓤 (emp 𝓤) ((c y.0.0 y.0.3).ensures y.1 r (at_exit T y.0.0 y.0.3 ws))
      → ent 𝓤 (⋆ 𝓛 (raw (alive 𝓛 T.signature y.0.0 y.0.1) ∷ ‵ (has_of y.0.0 T.signature.params T.kept hs y.0.3 ws y.0.4) ∷ ‵ ((type_at T.signature.result y.0.0).own_val r (v ∷ [])) ∷ []))
      ((walk_of 𝓛 T hs c).post y v)
  ends y v r ws fit says =
      qed 𝓛 (raw (alive 𝓛 T.signature y.0.0 y.0.1) ∷ ‵ (has_of y.0.0 T.signature.params T.kept hs y.0.3 ws y.0.4) ∷ ‵ ((type_at T.signature.result y.0.0).own_val r (v ∷ [])) ∷ []) ∵
      suffices ! _ (ends_at 𝓛 T hs c y v r ws fit) $
      use0 𝓛 (raw ((c y.0.0 y.0.3).ensures y.1 r (at_exit T y.0.0 y.0.3 ws))) says $
      move ! (2 ∷ 3 ∷ []) $ join ! $ move ! (2 ∷ 0 ∷ []) $ join ! $ done !
