-- A local array that is lent as a slice for a call, and comes back, as steps of the calculus.
--     lent_array, returned_array      as `&mut`: a lifetime ν is made, and the array's cell is lent for it; ν's token and what says the last list: the cell again
--     lent_front, returned_front      its first k elements as `&mut`: the others stay with the lender (`behind`), and stand behind the last list afterwards
--     shared_array, unshared_array    as `&`: the list stays. Of elements that hold no `&mut`, for whatever lifetime
-- Assumes `Logic`.
use mathlib.Core.Path.{◌≡◌, refl, sym, subst, ◌∙◌}
use Prim.Native.Nat.{ℕ, ◌≤◌}
use mathlib.Core.List.{List, [], ◌∷◌, ◌++◌}
use lib.ListN.{length, take, drop as without, take-append-drop}
use lib.Seq.{length-take-le, length_front}
use seplogic.Ra.Ura.{Ura}
use base.Fraction.{full_share}
use mir.Syntax.{Lifetime}
use mir.Val.{Val}
use base.Fml.{GName, Fml, Incl-refl, fsep, flft, flent}
use contract.BorrowLft.{⊑_static}
use types.Logic.{Logic}
use types.Kit.{Goal, Soaks, Item, ‵, ◌⊛◌, some, later, Seq, Step, step, ◌$◌, move, use1, use2, use3, split, drop, pick, rewrite, fsplit, fjoin, fpack, fpick, feq_l, feq_i, await}
use types.SemTy.{cells, Arr}
use types.Share.{arr_parts}
use types.Tokens.{lft_new, lft_end, lent_back}
use denote.RattleType.{RattleType}
use denote.Laws.{Is, Tells, Makes, shows}
use denote.Array.{Array, Array-Makes, Array-Tells, array_vals}
use denote.ArrayMemory.{Single, Array-apart, Array-whole}
use denote.Memory.{mem, shares, cell_at, part_at, part_of}
use denote.Shares.{Shares}
use denote.Slice.{slice_val, MutSlice, ShrSlice, Room, finally}
use denote.Lend.{Held, lends_slice, slice_back, lends_shr_slice}
use denote.Index.{row, whole_in, whole_out}
use denote.Steps.{owned, peeks}
use denote.Struct.Steps.{spelt}
use borrow.Table.Elements.{at, cut_app, join_app}
use borrow.Rule.Array.Share.{Room-take}

-- the elements from k on
abbrev pub behind : (R : RattleType) (k : ℕ) → List R.Denot → (b o : ℕ) → Fml
behind R k xs b o = cells (mem R) (without k xs) b (at o (mem R).size k)

module _ {M : Type 1} {𝓤 : Ura M} {𝓛 : Logic 𝓤} {K : Type 0} {Γ : List (Item 𝓤)} {G : Goal 𝓤 𝓛.H} where
  -- the array's cell, as its elements
  apart : K → (R : RattleType) → Single R.mir → Makes 𝓛 R (Is R) → (n b o : ℕ) (xs : List R.Denot) (vs : List Val) → Is (Array R n) xs vs
      → (length xs ≡ n → Seq K 𝓛 (‵ (row R full_share xs b o) ∷ Γ) G) → Seq K 𝓛 (‵ (cell_at full_share (Array R n).mir vs b o) ∷ Γ) G
  unfolding part_of
  apart t R one mk n b o xs vs is k =
      owned t (Array R n) (Is (Array R n)) (Array-Makes 𝓛 R mk n) xs vs is $ move t (1 ∷ 0 ∷ []) $ fjoin t $ fpack t (List Val) (λ us. fsep (cell_at full_share (Array R n).mir us b o) ((Array R n).own_val xs us)) vs $
      use1 𝓛 (‵ ((arr_parts (shares R) n).part full_share xs b o)) (Array-apart 𝓛 R full_share one n xs b o) $ fsplit t $ feq_l t (λ l. k l)

  -- and back
  together : K → (R : RattleType) (vals : R.Denot → List Val) → Tells R (Is R) vals → (n b o : ℕ) (xs : List R.Denot) → length xs ≡ n
      → (Is (Array R n) xs (array_vals vals xs) → Seq K 𝓛 (‵ (cell_at full_share (Array R n).mir (array_vals vals xs) b o) ∷ Γ) G) → Seq K 𝓛 (‵ (row R full_share xs b o) ∷ Γ) G
  unfolding part_of
  together t R vals tl n b o xs l k =
      feq_i t ℕ (length xs) n l $ fjoin t $ use1 𝓛 (‵ (part_at (Array R n) full_share xs b o)) (Array-whole 𝓛 R full_share n xs b o) $ fpick t (λ vs. fsplit t $
      spelt t (Array R n) (Is (Array R n)) (shows 𝓛 (Array R n)) (array_vals vals) (Array-Tells R vals tl n) full_share xs vs b o $ move t (1 ∷ []) $
      peeks t (Array R n) (Is (Array R n)) (shows 𝓛 (Array R n)) xs (array_vals vals xs) (λ is. drop t $ k is))

  -- elements in memory are lent as a slice
  lent_cells : K → Soaks G → (R : RattleType) (ℓ : Lifetime) (n b o : ℕ) (xs : List R.Denot) → length xs ≡ n → Room R n
      → ((ν : ℕ) (γ : GName) → Seq K 𝓛 (‵ (flft (ν ∷ []) full_share) ∷ ‵ ((MutSlice ℓ (ν ∷ []) R).own_val (record { ref_ptr = (b, o); ghost_name = γ; now = xs }) (slice_val (b, o) n ∷ [])) ∷ ‵ (flent (ν ∷ []) (Held R n b o γ)) ∷ Γ) G)
      → Seq K 𝓛 (‵ (cells (mem R) xs b o) ∷ Γ) G
  lent_cells t z R ℓ n b o xs l room k =
      lft_new t z (λ ν. move t (1 ∷ []) $
      use1 𝓛 (later (some (λ (γ : GName). ‵ ((MutSlice ℓ (ν ∷ []) R).own_val (record { ref_ptr = (b, o); ghost_name = γ; now = xs }) (slice_val (b, o) (length xs) ∷ [])) ⊛ ‵ (flent (ν ∷ []) (Held R (length xs) b o γ)))))
      (lends_slice 𝓛 R ℓ (ν ∷ []) xs b o (subst (Room R) (sym l) room)) $ await t z $ pick t (λ γ. split t $
      rewrite t 0 (λ (m : ℕ). ‵ ((MutSlice ℓ (ν ∷ []) R).own_val (record { ref_ptr = (b, o); ghost_name = γ; now = xs }) (slice_val (b, o) m ∷ []))) l refl $ rewrite t 1 (λ (m : ℕ). ‵ (flent (ν ∷ []) (Held R m b o γ))) l refl $
      move t (2 ∷ 0 ∷ 1 ∷ []) $ k ν γ))

module _ {M : Type 1} {𝓤 : Ura M} {𝓛 : Logic 𝓤} {K : Type 0} {Γ : List (Item 𝓤)} {G : Goal 𝓤 𝓛.H} where
  pub lent_array : K → Soaks G → (R : RattleType) → Single R.mir → Makes 𝓛 R (Is R) → (ℓ : Lifetime) (n b o : ℕ) (xs : List R.Denot) (vs : List Val) → Is (Array R n) xs vs → Room R n
      → ((ν : ℕ) (γ : GName) → length xs ≡ n
      → Seq K 𝓛 (‵ (flft (ν ∷ []) full_share) ∷ ‵ ((MutSlice ℓ (ν ∷ []) R).own_val (record { ref_ptr = (b, o); ghost_name = γ; now = xs }) (slice_val (b, o) n ∷ [])) ∷ ‵ (flent (ν ∷ []) (Held R n b o γ)) ∷ Γ) G)
      → Seq K 𝓛 (‵ (cell_at full_share (Array R n).mir vs b o) ∷ Γ) G
  lent_array t z R one mk ℓ n b o xs vs is room k =
      apart t R one mk n b o xs vs is (λ l. use1 𝓛 (‵ (cells (mem R) xs b o)) (whole_in 𝓛 R xs b o) $ lent_cells t z R ℓ n b o xs l room (λ ν γ. k ν γ l))

  pub returned_array : K → Soaks G → (R : RattleType) (vals : R.Denot → List Val) → Tells R (Is R) vals → {ν : ℕ} {γ : GName} (n b o : ℕ) (xs : List R.Denot)
      → (Is (Array R n) xs (array_vals vals xs) → Seq K 𝓛 (‵ (cell_at full_share (Array R n).mir (array_vals vals xs) b o) ∷ Γ) G)
      → Seq K 𝓛 (‵ (flft (ν ∷ []) full_share) ∷ ‵ (flent (ν ∷ []) (Held R n b o γ)) ∷ ‵ (finally R γ xs) ∷ Γ) G
  returned_array t z R vals tl {ν} {γ} n b o xs k =
      lft_end t z $ use3 𝓛 (later (‵ ((Arr (mem R) n).own_at xs b o))) (slice_back 𝓛 R (ν ∷ []) γ xs n b o) $ await t z $ fsplit t $ feq_l t (λ l.
      use1 𝓛 (‵ (row R full_share xs b o)) (whole_out 𝓛 R xs b o) $ together t R vals tl n b o xs l k)

  pub lent_front : K → Soaks G → (R : RattleType) → Single R.mir → Makes 𝓛 R (Is R) → (ℓ : Lifetime) (n k b o : ℕ) (xs : List R.Denot) (vs : List Val) → Is (Array R n) xs vs → Room R n → k ≤ n
      → ((ν : ℕ) (γ : GName) → length xs ≡ n
      → Seq K 𝓛 (‵ (flft (ν ∷ []) full_share) ∷ ‵ ((MutSlice ℓ (ν ∷ []) R).own_val (record { ref_ptr = (b, o); ghost_name = γ; now = take k xs }) (slice_val (b, o) k ∷ [])) ∷ ‵ (flent (ν ∷ []) (Held R k b o γ)) ∷ ‵ (behind R k xs b o) ∷ Γ) G)
      → Seq K 𝓛 (‵ (cell_at full_share (Array R n).mir vs b o) ∷ Γ) G
  lent_front t z R one mk ℓ n k b o xs vs is room few next =
      apart t R one mk n b o xs vs is (λ l. let e : length (take k xs) ≡ k = length-take-le k xs (subst (λ (m : ℕ). k ≤ m) (sym l) few) in
      use1 𝓛 (‵ (cells (mem R) xs b o)) (whole_in 𝓛 R xs b o) $ rewrite t 0 (λ (ys : List R.Denot). ‵ (cells (mem R) ys b o)) (sym (take-append-drop k xs)) refl $
      use1 𝓛 (‵ (cells (mem R) (take k xs) b o) ⊛ ‵ (cells (mem R) (without k xs) b (at o (mem R).size (length (take k xs))))) (cut_app 𝓛 (mem R) (take k xs) (without k xs) b o) $ split t $
      rewrite t 1 (λ (m : ℕ). ‵ (cells (mem R) (without k xs) b (at o (mem R).size m))) e refl $
      lent_cells t z R ℓ k b o (take k xs) e (subst (Room R) e (Room-take R n k xs l room)) (λ ν γ. next ν γ l))

  pub returned_front : K → Soaks G → (R : RattleType) (vals : R.Denot → List Val) → Tells R (Is R) vals → {ν : ℕ} {γ : GName} (n k b o : ℕ) (xs ys : List R.Denot) → length xs ≡ n → k ≤ n
      → (length ys ≡ k → Is (Array R n) (ys ++ without k xs) (array_vals vals (ys ++ without k xs)) → Seq K 𝓛 (‵ (cell_at full_share (Array R n).mir (array_vals vals (ys ++ without k xs)) b o) ∷ Γ) G)
      → Seq K 𝓛 (‵ (flft (ν ∷ []) full_share) ∷ ‵ (flent (ν ∷ []) (Held R k b o γ)) ∷ ‵ (finally R γ ys) ∷ ‵ (behind R k xs b o) ∷ Γ) G
  returned_front t z R vals tl {ν} {γ} n k b o xs ys l few next =
      lft_end t z $ use3 𝓛 (later (‵ ((Arr (mem R) k).own_at ys b o))) (slice_back 𝓛 R (ν ∷ []) γ ys k b o) $ await t z $ fsplit t $ feq_l t (λ e.
      rewrite t 1 (λ (m : ℕ). ‵ (cells (mem R) (without k xs) b (at o (mem R).size m))) (sym e) refl $
      use2 𝓛 (‵ (cells (mem R) (ys ++ without k xs) b o)) (join_app 𝓛 (mem R) ys (without k xs) b o) $
      use1 𝓛 (‵ (row R full_share (ys ++ without k xs) b o)) (whole_out 𝓛 R (ys ++ without k xs) b o) $
      together t R vals tl n b o (ys ++ without k xs) (length_front xs ys k (e ∙ sym (length-take-le k xs (subst (λ (m : ℕ). k ≤ m) (sym l) few))) ∙ l) (next e))

  pub shared_array : K → Soaks G → (R : RattleType) → Single R.mir → Makes 𝓛 R (Is R) → Shares 𝓛 R [] → (ℓ : Lifetime) (n b o : ℕ) (xs : List R.Denot) (vs : List Val) → Is (Array R n) xs vs → Room R n
      → ((ν : ℕ) → length xs ≡ n
      → Seq K 𝓛 (‵ (flft (ν ∷ []) full_share) ∷ ‵ ((ShrSlice ℓ (ν ∷ []) R).own_val (record { ref_ptr = (b, o); now = xs }) (slice_val (b, o) n ∷ [])) ∷ ‵ (flent (ν ∷ []) ((arr_parts (shares R) (length xs)).part full_share xs b o)) ∷ Γ) G)
      → Seq K 𝓛 (‵ (cell_at full_share (Array R n).mir vs b o) ∷ Γ) G
  shared_array t z R one mk s ℓ n b o xs vs is room k =
      apart t R one mk n b o xs vs is (λ l. feq_i t ℕ (length xs) (length xs) refl $ fjoin t $ lft_new t z (λ ν. move t (1 ∷ 0 ∷ []) $
      use2 𝓛 (later ((‵ ((ShrSlice ℓ (ν ∷ []) R).own_val (record { ref_ptr = (b, o); now = xs }) (slice_val (b, o) (length xs) ∷ [])) ⊛ ‵ (flent (ν ∷ []) ((arr_parts (shares R) (length xs)).part full_share xs b o))) ⊛ ‵ (flft (ν ∷ []) full_share)))
      (lends_shr_slice 𝓛 R ℓ (ν ∷ []) full_share xs b o (subst (Room R) (sym l) room) [] s ((ν ∷ [], full_share) ∷ []) (⊑_static (ν ∷ [])) (Incl-refl (ν ∷ []))) $ await t z $ split t $ split t $
      rewrite t 0 (λ (m : ℕ). ‵ ((ShrSlice ℓ (ν ∷ []) R).own_val (record { ref_ptr = (b, o); now = xs }) (slice_val (b, o) m ∷ []))) l refl $ move t (2 ∷ 0 ∷ 1 ∷ []) $ k ν l))

  pub unshared_array : K → Soaks G → (R : RattleType) (vals : R.Denot → List Val) → Tells R (Is R) vals → {ν : ℕ} (n b o : ℕ) (xs : List R.Denot) → length xs ≡ n
      → Step K 𝓛 (‵ (cell_at full_share (Array R n).mir (array_vals vals xs) b o) ∷ Γ) G (‵ (flft (ν ∷ []) full_share) ∷ ‵ (flent (ν ∷ []) ((arr_parts (shares R) (length xs)).part full_share xs b o)) ∷ Γ) G
  unshared_array t z R vals tl {ν} n b o xs l = step (λ s. lft_end t z $ lent_back t z $ fsplit t $ drop t $ together t R vals tl n b o xs l (λ _. s))
