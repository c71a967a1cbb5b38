-- A header write and a release on the device, by slots: what they leave in each slot, and what the slot's header says then.
use Rattle.std.specs.Prelude.{Some}
use Prim.Native.Nat.{ℕ, ◌-◌, ◌+◌, ◌^◌, ◌≤◌, ◌<◌, min}
use native.Mathlib.Omega.{arith}
use mathlib.Core.Path.{◌≡◌, refl, sym, ap, ◌∙◌, subst}
use mathlib.Core.Logic.{◌≢◌, ◌⊎◌, inl, inr}
use mathlib.Core.Bool.{Bool, true, false, false≢true}
use mathlib.Core.List.{List, [], ◌++◌}
use lib.Dec.{ltb, lit<, lit≤}
use lib.ListN.{length, take, drop, length-append, length-take, length-drop}
use borrow.Author.Tests.{eq-eqb, ltb-true, ltb-false}
use Rattle.text.specs.Text.{none}
use Rattle.text.proofs.Grammar.{text_complete}
use Rattle.header.specs.Block.{free_header, decoded}
use Rattle.header.proofs.BlockLaws.{short_absent}
use Rattle.header.proofs.RoundTrip.{decode_encode, cut_free_decodes}
use Rattle.device.specs.declared.Geometry.{Geometry}
use Rattle.device.specs.Device.{Dev, Shape, flush_m, header_write_m, data_truncate_m}
use Rattle.device.specs.AnyDevice.{Call, header, flush, truncate, slot_of, sound, same_block, file_keeps}
use Rattle.device.specs.Calls.{SlotStays, call_m, block_of}
use Rattle.device.proofs.CallByCall.{acts}
use Rattle.device.proofs.Memory.{memory}
use Rattle.device_lent.proofs.Puts.{put_block, put_phys, put_stopped}
use Rattle.pool_steps.specs.Steps.{fine_m, put_m, free_block, free_m, says}
use Rattle.pool_steps.proofs.Stays.{Kept, call_kept, put_kept, then_keeps, length_free}

module _ (plan : List ℕ) (g : Geometry) (i : ℕ) (d : Dev) (s : Shape g d.bytes d.phys) (r : i < length d.phys) where
  -- ---- every other slot stays

  module _ (j : ℕ) (ne : j ≢ i) where
    abbrev Only : Dev → Type 0
    Only e = Kept g d e × SlotStays g j d e

    call_only : (c : Call) (e : Dev) → slot_of c ≡ i → sound c ≡ true → Only e → Only (call_m plan g c e)
    call_only c e q o k =
        let l : slot_of c < length d.phys = rw q r in
        let m : slot_of c < length e.phys = rw k.0.slots l in
        let t = (memory plan g).other_stays e c j (λ z. ne (z ∙ q)) in
        let a = acts plan g e c k.0.shape m o in (
          call_kept plan g c d e k.0 l,
          subst (SlotStays g j d) a (t.0 ∙ k.1.0, t.1 ∙ k.1.1),
        )

    put_only : (block : List ℕ) → length block ≡ 512 → Only (put_m plan g i block d)
    unfolding put_m
    put_only block o =
        let w = call_only (header i block) d refl (eq-eqb _ _ o) (record { shape = s; slots = refl }, (refl, refl)) in
        then_keeps Only (header_write_m plan g i block d) (flush_m plan) w (call_only (flush i) (header_write_m plan g i block d) refl refl w)

    pub put_others : (block : List ℕ) → length block ≡ 512 → SlotStays g j d (put_m plan g i block d)
    put_others block o = (put_only block o).1

    pub free_others : (generation : ℕ) → SlotStays g j d (free_m plan g i generation d)
    unfolding free_m
    free_others generation =
        let p = put_only (free_block generation) (length_free generation) in
        let e = put_m plan g i (free_block generation) d in
        (then_keeps Only e (data_truncate_m plan g i 0) p (call_only (truncate i 0) e refl refl p)).1

    -- and so does what its header says
    pub free_others_say : (generation : ℕ) → says g j (free_m plan g i generation d) ≡ says g j d
    free_others_say generation = ap (λ (b : List ℕ). decoded b (length b)) (same_block (memory plan g) d (free_m plan g i generation d) j (free_others generation))

  -- ---- the slot itself

  module _ (generation : ℕ) where
    abbrev free : List ℕ
    free = free_block generation

    abbrev whole : Bool
    whole = fine_m (header_write_m plan g i free d)

    -- where the free header was written whole it stays, whatever came of the flush and the truncate
    pub free_block_lem : whole ≡ true → block_of g i (free_m plan g i generation d) ≡ free
    unfolding free_m
    free_block_lem f =
        let e = put_m plan g i free d in
        let k = put_kept plan g i d s r free in
        let n : i < length e.phys = omega (arith, k.slots) in
        let b = put_block plan g i d s r free (length_free generation) f in
        let a = acts plan g e (truncate i 0) k.shape n refl in
        let t = file_keeps (memory plan g) e (truncate i 0) refl (put_phys plan g i d s r free (length_free generation) f) in
        then_keeps (λ x. block_of g i x ≡ free) e (data_truncate_m plan g i 0) b (subst (λ (x : Dev). block_of g i x ≡ free) a (t ∙ b))

    -- where it was not, nothing more was done
    free_stopped : whole ≡ false → free_m plan g i generation d ≡ header_write_m plan g i free d
    unfolding free_m
    free_stopped f =
        let p = (put_stopped plan g i d s r free (length_free generation) f).0 in
        let q : fine_m (put_m plan g i free d) ≡ false = ap fine_m p ∙ f in
        rw q p

    free_says_whole : generation < 2 ^ 64 → whole ≡ true → says g i (free_m plan g i generation d) ≡ Some (free_header generation)
    free_says_whole l f =
        ap (λ (b : List ℕ). decoded b (length b)) (free_block_lem f)
        ∙ ap (decoded free) (length_free generation)
        ∙ decode_encode (free_header generation) [] (record { same_length = refl; short = lit≤ tt; len_fits = lit< tt; generation_fits = l }) (text_complete none)

    -- A release that was done leaves the free header,
    pub free_says : generation < 2 ^ 64 → fine_m (free_m plan g i generation d) ≡ true → says g i (free_m plan g i generation d) ≡ Some (free_header generation)
    free_says l e = go whole refl
      where
        go : (t : Bool) → whole ≡ t → says g i (free_m plan g i generation d) ≡ Some (free_header generation)
        go true f = free_says_whole l f
        go false f = absurd (false≢true (sym (ap fine_m (free_stopped f) ∙ f) ∙ e))

    -- the first half of the free header over a block that is whole, or over one that says nothing and still does
    cut_says : generation < 2 ^ 64 → (b : List ℕ) → length b ≤ 512 → (c : List ℕ) → c ≡ take 256 free ++ drop 256 b
        → (decoded c (length c) ≡ decoded b (length b)) ⊎ (decoded c (length c) ≡ Some (free_header generation))
    cut_says l b h c e = go (ltb (length b) 512) refl
      where
        n : length c ≡ min 256 (length free) + (length b - 256)
        n = rw e (simp (length-append, length-take, length-drop))

        go : (t : Bool) → ltb (length b) 512 ≡ t → (decoded c (length c) ≡ decoded b (length b)) ⊎ (decoded c (length c) ≡ Some (free_header generation))
        go true q =
            let k : length b < 512 = ltb-true (length b) 512 q in
            inl (short_absent c (length c) (omega (arith, n, length_free generation)) ∙ sym (short_absent b (length b) k))
        go false q =
            let k : 512 ≤ length b = ltb-false (length b) 512 q in
            let m : length c ≡ 512 = omega (arith, n, length_free generation) in
            inr (ap (decoded c) m ∙ ap (λ (x : List ℕ). decoded x 512) e ∙ cut_free_decodes generation b l)

    -- and one that was stopped leaves it, or the header says what it said.
    pub free_says_or_stays : generation < 2 ^ 64
        → (says g i (free_m plan g i generation d) ≡ says g i d) ⊎ (says g i (free_m plan g i generation d) ≡ Some (free_header generation))
    free_says_or_stays l = go whole refl
      where
        after : whole ≡ false → (block_of g i (header_write_m plan g i free d) ≡ block_of g i d) ⊎ (block_of g i (header_write_m plan g i free d) ≡ take 256 free ++ drop 256 (block_of g i d))
            → (says g i (free_m plan g i generation d) ≡ says g i d) ⊎ (says g i (free_m plan g i generation d) ≡ Some (free_header generation))
        after f (inl e) = inl (ap (says g i) (free_stopped f) ∙ ap (λ (b : List ℕ). decoded b (length b)) e)
        after f (inr e) =
            let n = (memory plan g).block_length d i s r in
            rw (free_stopped f) (cut_says l (block_of g i d) (omega (arith, n)) (block_of g i (header_write_m plan g i free d)) e)

        go : (t : Bool) → whole ≡ t → (says g i (free_m plan g i generation d) ≡ says g i d) ⊎ (says g i (free_m plan g i generation d) ≡ Some (free_header generation))
        go true f = inr (free_says_whole l f)
        go false f = after f (put_stopped plan g i d s r free (length_free generation) f).1
