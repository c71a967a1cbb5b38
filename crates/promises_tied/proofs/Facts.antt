-- Two facts that hold at once, and what follows from them.
use mathlib.Core.Path.{◌≡◌, sym, ◌∙◌}
use seplogic.Ra.Ura.{Ura}
use base.Logic.{SProp, ent, sep, emp, via, fst∗, snd∗}
use contract.Conj.{conj, conj_i, conj_l, conj_r}
use contract.Fact.{guard-conj, fact, fact_mono}

-- two ends that are both what the call comes to
pub alike : {S : Type 0} (c x y : S) → x ≡ c → y ≡ c → x ≡ y
alike c x y e f = e ∙ sym f

module _ {M : Type 1} (𝓤 : Ura M) where
  pub both_facts : (P Q R : Type 0) → (P → Q → R) → ent 𝓤 (conj 𝓤 (fact 𝓤 P) (fact 𝓤 Q)) (fact 𝓤 R)
  both_facts P Q R f =
      guard-conj 𝓤 P (emp 𝓤) (fact 𝓤 Q) (λ p. via 𝓤 (fact 𝓤 Q) (conj_r 𝓤 (emp 𝓤) (fact 𝓤 Q)) (fact_mono 𝓤 Q R (f p)))

  -- two clauses, side by side
  pub two_clauses : (P Q : Type 0) → ent 𝓤 (sep 𝓤 (fact 𝓤 P) (fact 𝓤 Q)) (fact 𝓤 (P × Q))
  two_clauses P Q =
      let a = fact 𝓤 P in
      let b = fact 𝓤 Q in
      via 𝓤 (conj 𝓤 a b) (conj_i 𝓤 a b (fst∗ 𝓤 a b) (snd∗ 𝓤 a b)) (both_facts P Q (P × Q) (λ p q. (p, q)))

  -- what follows from each of two assertions
  pub each_facts : (X Y : SProp 𝓤) (P Q R : Type 0) → ent 𝓤 X (fact 𝓤 P) → ent 𝓤 Y (fact 𝓤 Q) → (P → Q → R)
      → ent 𝓤 (conj 𝓤 X Y) (fact 𝓤 R)
  each_facts X Y P Q R x y f =
      let a = fact 𝓤 P in
      let b = fact 𝓤 Q in
      via 𝓤 (conj 𝓤 a b) (conj_i 𝓤 a b (via 𝓤 X (conj_l 𝓤 X Y) x) (via 𝓤 Y (conj_r 𝓤 X Y) y)) (both_facts P Q R f)
