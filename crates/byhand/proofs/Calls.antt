-- A call in a walk.
--     calls_to     of a function that meets its contract: in front stand the tokens and what the arguments own; afterwards what it ensures, what is said of last values, and the tokens.
--                  The result's machine value is written out and its relation is in hand, so what a result of plain data owns need not be carried
--     copied       a `&[T]` is there twice, once for the call
--     a_number     a u64 or a usize is owned for nothing, and so is
--     a_struct     a struct of plain data
--     ty           the type of a local
-- Assumes `Logic`.
use mathlib.Core.Path.{refl, ap, subst}
use mathlib.Core.List.{List, [], ◌∷◌}
use seplogic.Ra.Ura.{Ura}
use Prim.Native.Nat.{ℕ, zero, suc, ◌<◌, ◌^◌}
use base.Fml.{Lft}
use mir.Syntax.{Lifetime, Callee, Place, Opd as Operand, Body, seq, call, Local, local, Ty, ty_unit, w64}
use mir.Val.{Val, vint}
use base.Logic.{ent, emp, id⊢}
use prog.Wp.{Env, Calls, Loops}
use types.Logic.{Logic}
use sound.WpLaws.{FmC}
use types.Kit.{Step, step, Item, ‵, raw, ◌⊛◌, some, later, Post, Goal, runs, lands, Seq, ◌$◌, move, use0, use1, use2, split, pick, drop, regoal, await}
use types.Run.{Opds}
use denote.RattleType.{RattleType, RowLaws, owns}
use denote.Ref.{Bor}
use denote.Slice.{ShrSlice, shr_slice_copy}
use denote.Laws.{Is, Tells, shows}
use denote.Signature.{type_at, types_at}
use denote.Steps.{only, peeks, owned}
use denote.Builtin.{u64}
use denote.Struct.Declared.{Declared, fields, row}
use denote.Struct.Struct.{Plains}
use denote.Struct.Laws as LL
use denote.Plain.{uint_Makes}
use denote.Triple.Call.{calls_at}
use denote.Triple.Clauses.{Clauses, Ended, Lasts, at_exit, lasts, closing}
use denote.Triple.Entry.{Res, alive, on_entry}
use denote.Triple.Spec.{Meets, triple_of}

-- the MIR type of a function's local
abbrev pub ty : List Local → ℕ → Ty
ty [] j = ty_unit
ty (local τ h ∷ ls) zero = τ
ty (local τ h ∷ ls) (suc j) = ty ls j

module _ {M : Type 1} {𝓤 : Ura M} {𝓛 : Logic 𝓤} {K : Type 0} {Γ : List (Item 𝓤)} {E : Env 𝓤 𝓛.H} {C : Calls 𝓤 𝓛.H} {f : Callee} {xs : List Operand} {Λ : Loops 𝓤 𝓛.H} {q : Post 𝓤 𝓛.H} {d : Place} where
  open 𝓛 use {H}

  pub calls_to : K → FmC 𝓤 H 𝓛.laws C → {rest : Body} (T : Ended) (c : Clauses 𝓤 T) → Meets 𝓛 T.signature (C f) (closing 𝓛 T c)
      → (y : (triple_of 𝓛 T.signature (closing 𝓛 T c)).Ghost) → ent 𝓤 (emp 𝓤) ((c y.0.0 y.0.3).requires y.1)
      → (val : Res T.signature y.0.0 → Val) → Tells (type_at T.signature.result y.0.0) (Is (type_at T.signature.result y.0.0)) (λ r. val r ∷ [])
      → Opds K 𝓛 (raw ((triple_of 𝓛 T.signature (closing 𝓛 T c)).pre y) ∷ Γ) E xs ((triple_of 𝓛 T.signature (closing 𝓛 T c)).args y)
      → ((r : Res T.signature y.0.0) (ws : Lasts T y.0.0 y.0.3) → Is (type_at T.signature.result y.0.0) r (val r ∷ [])
      → Seq K 𝓛 (raw ((c y.0.0 y.0.3).ensures y.1 r (at_exit T y.0.0 y.0.3 ws)) ∷ ‵ (lasts T y.0.0 y.0.3 ws) ∷ raw (alive 𝓛 T.signature y.0.0 y.0.1) ∷ Γ) (lands C Λ E d (val r) rest q))
      → Seq K 𝓛 (raw (alive 𝓛 T.signature y.0.0 y.0.1) ∷ ‵ (owns (types_at T.signature.params y.0.0) y.0.3 y.0.4) ∷ Γ) (runs C Λ E (seq (call f xs d) rest) q)
  calls_to t fm {rest} T c met y req val tl os k =
      use2 𝓛 (raw (on_entry 𝓛 T.signature y.0.0 y.0.1 y.0.3 y.0.4)) (id⊢ 𝓤 _) $
      use0 𝓛 (raw ((c y.0.0 y.0.3).requires y.1)) req $ move t (1 ∷ 0 ∷ []) $
      use2 𝓛 (raw ((triple_of 𝓛 T.signature (closing 𝓛 T c)).pre y)) (id⊢ 𝓤 _) $
      calls_at t fm (triple_of 𝓛 T.signature (closing 𝓛 T c)) met y os (λ v.
      use1 𝓛 (later (some (λ (r : Res T.signature y.0.0). (raw (alive 𝓛 T.signature y.0.0 y.0.1) ⊛ ‵ ((type_at T.signature.result y.0.0).own_val r (v ∷ []))) ⊛
      some (λ (ws : Lasts T y.0.0 y.0.3). ‵ (lasts T y.0.0 y.0.3 ws) ⊛ raw ((c y.0.0 y.0.3).ensures y.1 r (at_exit T y.0.0 y.0.3 ws)))))) (id⊢ 𝓤 _) $ await t tt $ pick t (λ r.
      split t $ move t (1 ∷ []) $ pick t (λ ws. split t $ move t (2 ∷ []) $ split t $ move t (1 ∷ []) $
      peeks t (type_at T.signature.result y.0.0) (Is (type_at T.signature.result y.0.0)) (shows 𝓛 (type_at T.signature.result y.0.0)) r (v ∷ []) (λ is. drop t $ move t (2 ∷ 1 ∷ 0 ∷ []) $
      regoal t (λ (u : Val). lands C Λ E d u rest q) (ap only (tl r (v ∷ []) is)) refl $ k r ws (subst (Is (type_at T.signature.result y.0.0) r) (tl r (v ∷ []) is) is)))))

module _ {M : Type 1} {𝓤 : Ura M} {𝓛 : Logic 𝓤} {K : Type 0} {Γ : List (Item 𝓤)} {G : Goal 𝓤 𝓛.H} where
  pub copied : K → (ℓ : Lifetime) (κ : Lft) (R : RattleType) → RowLaws R → (x : Bor (List R.Denot)) (vs : List Val)
      → Step K 𝓛 (‵ ((ShrSlice ℓ κ R).own_val x vs) ∷ ‵ ((ShrSlice ℓ κ R).own_val x vs) ∷ Γ) G (‵ ((ShrSlice ℓ κ R).own_val x vs) ∷ Γ) G
  copied t ℓ κ R L x vs = step (λ s. use1 𝓛 (‵ ((ShrSlice ℓ κ R).own_val x vs) ⊛ ‵ ((ShrSlice ℓ κ R).own_val x vs)) ((shr_slice_copy 𝓛 ℓ κ R L).twice x vs) $ split t $ s)

  pub a_number : K → (n : ℕ) → n < 2 ^ 64 → Step K 𝓛 (‵ (u64.own_val n (vint w64 n ∷ [])) ∷ Γ) G Γ G
  a_number t n l = owned t u64 (Is u64) (uint_Makes 𝓛 w64) n (vint w64 n ∷ []) (refl, l)

  pub a_struct : K → (T : Declared) (L : LL.Laws T) → Plains (fields T) → (d : T.D) → Is (row T) d (LL.vals T L d) → Step K 𝓛 (‵ ((row T).own_val d (LL.vals T L d)) ∷ Γ) G Γ G
  a_struct t T L plain d is = owned t (row T) (Is (row T)) (LL.makes T plain 𝓛) d (LL.vals T L d) is
