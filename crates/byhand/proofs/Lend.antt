-- A lent slice that is passed on, as steps of a walk.
--     lend, back       as `&mut`: a lifetime ν is made and the slice is lent for it; with ν's token and what says the last list it comes back at that list
--     share, unshare   as `&`: the list stays. Of elements that hold no `&mut`, for whatever lifetime
--     given_up         a slice that is not passed on at all: what says that its list is the last
-- Assumes `Logic`.
use mathlib.Core.Path.{◌≡◌, refl, sym}
use Prim.Native.Nat.{ℕ}
use mathlib.Core.List.{List, [], ◌∷◌}
use lib.ListN.{length}
use seplogic.Ra.Ura.{Ura}
use base.Fraction.{full_share}
use mir.Syntax.{Lifetime, erased}
use mir.Val.{Val}
use base.Fml.{Lft, GName, Share, Incl-refl, flft, fres}
use contract.BorrowLft.{⊑_static}
use types.Logic.{Logic}
use types.Kit.{Goal, Soaks, Item, ‵, ◌⊛◌, some, later, Seq, Step, step, ◌$◌, move, use1, use2, use3, split, pick, drop, rewrite, fsplit, fjoin, feq_l, feq_i, await}
use types.Tokens.{lft_new, lft_end}
use denote.RattleType.{RattleType, RowLaws}
use denote.Shares.{Shares}
use denote.Ref.{MutBor, as_bor}
use denote.Slice.{shr_slice_vals, mut_slice_vals, MutSlice, ShrSlice, Room, finally, res-finally, coded_holeys, heres}
use borrow.Table.Owned as O
use borrow.Rule.Slice.Reshare.{kept_s, sl_reshare_as, sl_reshare_back}
use borrow.Rule.Array.Share.{share_cells}
use Rattle.byhand.proofs.Again.{LentAgain, lends_again, comes_back}

-- the same slice, under the name δ at the list l
abbrev pub anew : {X : Type 0} → MutBor (List X) → GName → List X → MutBor (List X)
anew x δ l = record { ref_ptr = x.ref_ptr; ghost_name = δ; now = l }

module _ {M : Type 1} {𝓤 : Ura M} {𝓛 : Logic 𝓤} {K : Type 0} {Γ : List (Item 𝓤)} {G : Goal 𝓤 𝓛.H} where
  pub lend : K → Soaks G → (R : RattleType) {κ : Lft} {q : Share} (ℓ ℓ' : Lifetime) (x : MutBor (List R.Denot)) (vs : List Val)
      → ((ν : ℕ) (δ : GName) → Seq K 𝓛 (‵ (flft (ν ∷ []) full_share) ∷ ‵ ((MutSlice ℓ' (ν ∷ []) R).own_val (anew x δ x.now) vs) ∷ ‵ (LentAgain R κ (ν ∷ []) q x.ghost_name x.ref_ptr.0 x.ref_ptr.1 δ x.now) ∷ Γ) G)
      → Seq K 𝓛 (‵ ((MutSlice ℓ κ R).own_val x vs) ∷ ‵ (flft κ q) ∷ Γ) G
  lend t z R {κ} {q} ℓ ℓ' x vs k =
      fsplit t $ fsplit t $ feq_l t (λ e. feq_i t (List Val) (mut_slice_vals x) (mut_slice_vals x) refl $ fjoin t $ fjoin t $ lft_new t z (λ ν. move t (1 ∷ 2 ∷ []) $
      use2 𝓛 (later (some (λ (δ : GName). ‵ ((MutSlice ℓ' (ν ∷ []) R).own_val (anew x δ x.now) (mut_slice_vals x)) ⊛ ‵ (LentAgain R κ (ν ∷ []) q x.ghost_name x.ref_ptr.0 x.ref_ptr.1 δ x.now)))) (lends_again R κ (ν ∷ []) q x.ghost_name x.ref_ptr.0 x.ref_ptr.1 𝓛 ℓ ℓ' x.now) $ await t z $ pick t (λ δ. split t $
      rewrite t 0 (λ (us : List Val). ‵ ((MutSlice ℓ' (ν ∷ []) R).own_val (anew x δ x.now) us)) (sym e) refl $ move t (2 ∷ 0 ∷ 1 ∷ []) $ k ν δ)))

  pub back : K → Soaks G → (R : RattleType) {κ : Lft} {q : Share} (ℓ : Lifetime) (x : MutBor (List R.Denot)) {ν : ℕ} {δ : GName} (vs : List Val) (zs : List R.Denot) → vs ≡ mut_slice_vals x → Room R (length x.now) → length zs ≡ length x.now
      → Step K 𝓛 (‵ ((MutSlice ℓ κ R).own_val (anew x x.ghost_name zs) vs) ∷ ‵ (flft κ q) ∷ Γ) G (‵ (flft (ν ∷ []) full_share) ∷ ‵ (LentAgain R κ (ν ∷ []) q x.ghost_name x.ref_ptr.0 x.ref_ptr.1 δ x.now) ∷ ‵ (finally R δ zs) ∷ Γ) G
  back t z R {κ} {q} ℓ x {ν} {δ} vs zs e rm l = step (λ s. lft_end t z $
      use3 𝓛 (later (‵ ((MutSlice ℓ κ R).own_val (anew x x.ghost_name zs) (mut_slice_vals x)) ⊛ ‵ (flft κ q))) (comes_back R κ (ν ∷ []) q x.ghost_name x.ref_ptr.0 x.ref_ptr.1 𝓛 ℓ ℓ x.now δ zs rm l) $ await t z $ split t $
      rewrite t 0 (λ (us : List Val). ‵ ((MutSlice ℓ κ R).own_val (anew x x.ghost_name zs) us)) (sym e) refl $ s)

  pub share : K → Soaks G → (R : RattleType) → RowLaws R → Shares 𝓛 R [] → {κ : Lft} {q : Share} (ℓ ℓ' : Lifetime) (x : MutBor (List R.Denot)) (vs : List Val)
      → ((ν : ℕ) → Seq K 𝓛 (‵ (flft (ν ∷ []) full_share) ∷ ‵ ((ShrSlice ℓ' (ν ∷ []) R).own_val (as_bor x) vs) ∷ kept_s 𝓛 R κ q (ν ∷ []) x.ghost_name x.now x.ref_ptr.0 x.ref_ptr.1 ∷ Γ) G)
      → Seq K 𝓛 (‵ ((MutSlice ℓ κ R).own_val x vs) ∷ ‵ (flft κ q) ∷ Γ) G
  share t z R L s {κ} {q} ℓ ℓ' x vs k =
      fsplit t $ fsplit t $ feq_l t (λ e. fjoin t $ lft_new t z (λ ν. move t (1 ∷ 2 ∷ []) $
      use3 𝓛 (later (‵ ((O.ShrSlice erased (ν ∷ []) R).own_val (as_bor x)) ⊛ (kept_s 𝓛 R κ q (ν ∷ []) x.ghost_name x.now x.ref_ptr.0 x.ref_ptr.1 ⊛ ‵ (flft (ν ∷ []) full_share))))
      (sl_reshare_as 𝓛 R κ q (ν ∷ []) x.ref_ptr.0 x.ref_ptr.1 x.ghost_name (𝓛.A.lft (ν ∷ []) full_share)
      (λ ys room n. share_cells 𝓛 R (ν ∷ []) x.ref_ptr.0 L [] s ((ν ∷ [], full_share) ∷ []) (⊑_static (ν ∷ [])) (Incl-refl (ν ∷ [])) ys x.ref_ptr.1 room n) x.now) $ await t z $ split t $
      fsplit t $ feq_i t (List Val) vs (shr_slice_vals (as_bor x)) e $ fjoin t $ fjoin t $ move t (1 ∷ []) $ split t $ move t (1 ∷ 2 ∷ 0 ∷ []) $ k ν))

  pub unshare : K → Soaks G → (R : RattleType) {κ : Lft} {q : Share} (ℓ : Lifetime) (x : MutBor (List R.Denot)) {ν : ℕ} (vs : List Val) → vs ≡ mut_slice_vals x
      → Step K 𝓛 (‵ ((MutSlice ℓ κ R).own_val x vs) ∷ ‵ (flft κ q) ∷ Γ) G (‵ (flft (ν ∷ []) full_share) ∷ kept_s 𝓛 R κ q (ν ∷ []) x.ghost_name x.now x.ref_ptr.0 x.ref_ptr.1 ∷ Γ) G
  unshare t z R {κ} {q} ℓ x {ν} vs e = step (λ s. lft_end t z $
      use2 𝓛 (later (‵ ((O.MutSlice erased κ R).own_val x) ⊛ ‵ (flft κ q))) (sl_reshare_back 𝓛 R κ q (ν ∷ []) x.ref_ptr.0 x.ref_ptr.1 x.ghost_name x.now) $ await t z $ split t $
      fsplit t $ feq_i t (List Val) vs (mut_slice_vals x) e $ fjoin t $ fjoin t $ s)

  pub given_up : K → (R : RattleType) (ℓ : Lifetime) (κ : Lft) (x : MutBor (List R.Denot)) (vs : List Val) → Step K 𝓛 (‵ (finally R x.ghost_name x.now) ∷ Γ) G (‵ ((MutSlice ℓ κ R).own_val x vs) ∷ Γ) G
  given_up t R ℓ κ x vs = step (λ s. fsplit t $ drop t $ fsplit t $ use1 𝓛 (‵ (fres x.ghost_name ((coded_holeys R).code (heres R x.now)))) (𝓛.names.obs-res x.ghost_name ((coded_holeys R).code (heres R x.now))) $
      use1 𝓛 (‵ (finally R x.ghost_name x.now)) (res-finally 𝓛 ℓ κ R x.ghost_name x.now) $ move t (1 ∷ []) $ drop t $ s)
