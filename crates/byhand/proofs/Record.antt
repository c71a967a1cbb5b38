-- A record behind a `&mut`, as steps of the calculus: it is taken out of the borrow, and another is put there.
--     taken        `&κ mut T` and κ's token: the record's cell, with its machine value written out and its relation in hand, beside the open borrow
--     put_back     the cell at another record h, and the open borrow: `&κ mut T` at h, and κ's token
--     lent, returned   a local's cell: a lifetime ν is made and the record is lent for it; ν's token and what says the last value: the cell again
-- Assumes `Logic`.
use mathlib.Core.Path.{refl}
use Prim.Native.Nat.{ℕ}
use mathlib.Core.List.{List, [], ◌∷◌}
use seplogic.Ra.Ura.{Ura}
use base.Fraction.{full_share}
use mir.Syntax.{Lifetime}
use mir.Val.{Val, vptr}
use base.Stored.{Gv}
use base.Fml.{Lft, GName, Share, fsep, flft, fobs, fauth, fres, flent, fobor}
use types.Logic.{Logic}
use types.Kit.{Goal, Soaks, Item, ‵, ◌⊛◌, some, later, Seq, Step, step, ◌$◌, move, use1, use3, split, drop, pick, fsplit, fsplit3, fjoin3, fjoin, fpack, fpick, feq_i, await}
use types.SemTy.{Body}
use types.Tokens.{lft_new, lft_end}
use denote.Laws.{Is, shows}
use denote.Memory.{mem, cell_at, part_of}
use denote.Ref.{MutRef}
use denote.Lend.{lends_ref, ref_back}
use denote.Steps.{opens, closes, owned, peeks}
use denote.Struct.Declared.{Declared, fields, row}
use denote.Struct.Steps.{spelt}
use denote.Struct.Struct.{Plains}
use denote.Struct.Laws as LL

module _ {M : Type 1} {𝓤 : Ura M} {𝓛 : Logic 𝓤} {K : Type 0} {Γ : List (Item 𝓤)} {G : Goal 𝓤 𝓛.H} where
  pub taken : K → Soaks G → (T : Declared) (L : LL.Laws T) (ℓ : Lifetime) {κ : Lft} {q : Share} {γ : GName} (b o : ℕ) (h : T.D) {vs : List Val}
      → (Is (row T) h (LL.vals T L h) → Seq K 𝓛 (‵ (cell_at full_share (row T).mir (LL.vals T L h) b o) ∷ ‵ (fobor κ q (Body (mem (row T)) b o γ)) ∷ ‵ (fobs γ ((row T).coded.code h)) ∷ ‵ (fauth γ ((row T).coded.code h)) ∷ Γ) G)
      → Seq K 𝓛 (‵ ((MutRef ℓ κ (row T)).own_val (record { ref_ptr = (b, o); ghost_name = γ; now = h }) vs) ∷ ‵ (flft κ q) ∷ Γ) G
  taken t z T L ℓ b o h k =
      fsplit3 t $ drop t $ opens t z (row T) {h = h} b o (λ vs. spelt t (row T) (Is (row T)) (shows 𝓛 (row T)) (LL.vals T L) (LL.tells T L) full_share h vs b o $ move t (1 ∷ []) $
      peeks t (row T) (Is (row T)) (shows 𝓛 (row T)) h (LL.vals T L h) (λ g. drop t $ k g))

  pub put_back : K → Soaks G → (T : Declared) (L : LL.Laws T) → Plains (fields T) → (ℓ : Lifetime) {κ : Lft} {q : Share} {u v : Gv} {γ : GName} (b o : ℕ) (h : T.D) → Is (row T) h (LL.vals T L h)
      → Step K 𝓛 (‵ ((MutRef ℓ κ (row T)).own_val (record { ref_ptr = (b, o); ghost_name = γ; now = h }) (vptr b o ∷ [])) ∷ ‵ (flft κ q) ∷ Γ) G
      (‵ (cell_at full_share (row T).mir (LL.vals T L h) b o) ∷ ‵ (fobor κ q (Body (mem (row T)) b o γ)) ∷ ‵ (fobs γ u) ∷ ‵ (fauth γ v) ∷ Γ) G
  put_back t z T L plain ℓ b o h is = step (λ s. owned t (row T) (Is (row T)) (LL.makes T plain 𝓛) h (LL.vals T L h) is $ move t (1 ∷ 0 ∷ []) $ closes t z (row T) h (LL.vals T L h) b o $
      feq_i t (List Val) (vptr b o ∷ []) (vptr b o ∷ []) refl $ fjoin3 t $ s)

  pub lent : K → Soaks G → (T : Declared) (L : LL.Laws T) → Plains (fields T) → (ℓ : Lifetime) (b o : ℕ) (h : T.D) → Is (row T) h (LL.vals T L h)
      → ((ν : ℕ) (γ : GName) → Seq K 𝓛 (‵ (flft (ν ∷ []) full_share) ∷ ‵ ((MutRef ℓ (ν ∷ []) (row T)).own_val (record { ref_ptr = (b, o); ghost_name = γ; now = h }) (vptr b o ∷ [])) ∷ ‵ (flent (ν ∷ []) (Body (mem (row T)) b o γ)) ∷ Γ) G)
      → Seq K 𝓛 (‵ (cell_at full_share (row T).mir (LL.vals T L h) b o) ∷ Γ) G
  unfolding part_of
  lent t z T L plain ℓ b o h is k =
      owned t (row T) (Is (row T)) (LL.makes T plain 𝓛) h (LL.vals T L h) is $ move t (1 ∷ 0 ∷ []) $ fjoin t $ fpack t (List Val) (λ us. fsep (cell_at full_share (row T).mir us b o) ((row T).own_val h us)) (LL.vals T L h) $
      lft_new t z (λ ν. move t (1 ∷ []) $ use1 𝓛 (later (some (λ (γ : GName). ‵ ((MutRef ℓ (ν ∷ []) (row T)).own_val (record { ref_ptr = (b, o); ghost_name = γ; now = h }) (vptr b o ∷ [])) ⊛ ‵ (flent (ν ∷ []) (Body (mem (row T)) b o γ))))) (lends_ref 𝓛 (row T) ℓ (ν ∷ []) h b o) $
      await t z $ pick t (λ γ. split t $ move t (2 ∷ 0 ∷ 1 ∷ []) $ k ν γ))

  pub returned : K → Soaks G → (T : Declared) (L : LL.Laws T) {ν : ℕ} {γ : GName} (b o : ℕ) (h : T.D)
      → (Is (row T) h (LL.vals T L h) → Seq K 𝓛 (‵ (cell_at full_share (row T).mir (LL.vals T L h) b o) ∷ Γ) G)
      → Seq K 𝓛 (‵ (flft (ν ∷ []) full_share) ∷ ‵ (flent (ν ∷ []) (Body (mem (row T)) b o γ)) ∷ ‵ (fres γ ((row T).coded.code h)) ∷ Γ) G
  unfolding part_of
  returned t z T L {ν} {γ} b o h k =
      lft_end t z $ use3 𝓛 (later (‵ ((mem (row T)).own_at h b o))) (ref_back 𝓛 (row T) (ν ∷ []) γ h b o) $ await t z $ fpick t (λ vs. fsplit t $
      spelt t (row T) (Is (row T)) (shows 𝓛 (row T)) (LL.vals T L) (LL.tells T L) full_share h vs b o $ move t (1 ∷ []) $ peeks t (row T) (Is (row T)) (shows 𝓛 (row T)) h (LL.vals T L h) (λ g. drop t $ k g))
