-- The two ways of a call, over plain values: refused by the table, or made.
use Prim.Native.Nat.{ℕ}
use native.Mathlib.Omega.{arith}
use mathlib.Core.Path.{◌≡◌, sym, ap, ◌∙◌}
use mathlib.Core.Bool.{true, false}
use mathlib.Core.List.{List}
use lib.Dec.{eqb}
use borrow.Author.Tests.{eq-eqb, ne_eqb}
use Rattle.device.specs.declared.Geometry.{Geometry}
use Rattle.pool_state.specs.State.{Bufs, bufs}
use Rattle.pool_steps.specs.World.{Lent, lent}
use Rattle.calls_gate.specs.declared.Answer.{Answer}
use Rattle.calls_gate.specs.declared.Call.{Call}
use Rattle.calls_gate.specs.declared.Reply.{Reply}
use Rattle.calls_gate.specs.declared.Told.{Told}
use Rattle.calls_gate.specs.Answers.{number_of, answer_of, number_back}
use Rattle.calls_gate.specs.Replies.{nothing, silently, Came, came, replied}
use Rattle.calls_gate.specs.Table.{refusal_of, refused_b}
use Rattle.calls_gate.specs.Calls.{inner_m, refused_m, call_p}
use Rattle.calls_gate.proofs.Tests.{refusal_number}
use Rattle.calls_gate.proofs.Numbers.{inner-number}

module _ (plan : List ℕ) (g : Geometry) (c : Call) (one two buf : List ℕ) (l : Lent) (n : ℕ) (e : n ≡ refusal_of g c one two l) where
  pub refuses : (n ≡ 0 → ⊥) → (r : Reply) (m s d : List ℕ) → r ≡ silently (answer_of n) l.dev.place r.pool
      → bufs r.pool m s d ≡ refused_b c l.bufs
      → replied r l.dev.bytes l.dev.phys m s d buf ≡ call_p plan g c one two buf l
  unfolding call_p refused_m
  refuses ne r m s d er eb =
      let z : eqb (refusal_of g c one two l) 0 ≡ false = ne_eqb _ _ (λ y. ne (e ∙ y)) in
      let k : number_of (answer_of n) ≡ refusal_of g c one two l = number_back n (omega (arith, e, refusal_number g c one two l)) ∙ e in
      let told = ap (λ (x : Reply). replied x l.dev.bytes l.dev.phys m s d buf) er in
      let left = ap (λ (x : Bufs). came (number_of (answer_of n)) nothing (lent l.dev x) buf) eb in
      rw z (told ∙ left ∙ ap (λ (x : ℕ). came x nothing (lent l.dev (refused_b c l.bufs)) buf) k)

  pub goes_in : n ≡ 0 → refusal_of g c one two l ≡ 0
  goes_in z = sym e ∙ z

  pub makes : n ≡ 0 → (a : Answer) (o : ℕ) (t : Told) (left : Lent) (after : List ℕ) → a ≡ answer_of o
      → came o t left after ≡ inner_m plan g c one two buf l
      → came (number_of a) t left after ≡ call_p plan g c one two buf l
  unfolding call_p
  makes z a o t left after ea q =
      let k : eqb (refusal_of g c one two l) 0 ≡ true = eq-eqb _ _ (goes_in z) in
      let y : o ≡ (inner_m plan g c one two buf l).number = ap (λ (x : Came). x.number) q in
      let h : number_of a ≡ o = ap number_of ea ∙ number_back o (omega (arith, y, inner-number plan g c one two buf l)) in
      rw (k, h) q
