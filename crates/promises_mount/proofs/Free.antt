-- What a release makes of the headers on the device: other slots keep theirs, the slot's own is free or as it was. What a release leaves
-- in each slot (`free_others`, `free_block_lem`, `put_stopped` of steps) carries it, with what a whole, a cut and a short block say.
use Prim.Native.Nat.{ℕ, ◌^◌, ◌<◌}
use native.Mathlib.Omega.{arith}
use native.Mathlib.Decide.{dec_lt}
use mathlib.Core.Path.{◌≡◌, refl, sym, ap, ◌∙◌}
use mathlib.Core.Logic.{◌≢◌, ◌⊎◌, inl, inr}
use mathlib.Core.Bool.{Bool, true, false, false≢true}
use mathlib.Core.List.{List, [], ◌++◌}
use lib.ListN.{length, take, drop, length-take, length-drop, length-append}
use Rattle.limits.specs.Limits.{last_counter}
use Rattle.text.specs.Text.{none}
use Rattle.text.proofs.Grammar.{text_complete}
use Rattle.header.specs.Block.{free_header, decoded}
use Rattle.header.specs.RoundTrip.{Fits}
use Rattle.header.proofs.RoundTrip.{decode_encode, cut_free_decodes}
use Rattle.device.specs.declared.Geometry.{Geometry}
use Rattle.device.specs.Device.{Dev, Shape, header_write_m}
use Rattle.device.specs.AnyDevice.{same_block}
use Rattle.device.specs.Calls.{block_of}
use Rattle.device.proofs.Memory.{memory}
use Rattle.pool_steps.specs.Steps.{fine_m, put_m, free_block, free_m}
use Rattle.pool_steps.proofs.Stays.{length_free}
use Rattle.device_lent.proofs.Puts.{put_stopped}
use Rattle.pool_steps.proofs.Frees.{free_others, free_block_lem}
use Rattle.mount_survey.proofs.Staging.{short_said}
use Rattle.mount_survey.specs.Heads.{idle, said_of, head_of}
use Rattle.promises_mount.specs.Words.{header_at}

-- ---- what blocks say

-- half a block over one that is short is short
half_short : (ys old : List ℕ) → length old < 512 → length (take 256 ys ++ drop 256 old) < 512
half_short ys old l = simp (length-append, length-take, length-drop) (omega arith)

module _ (gen : ℕ) (small : gen < last_counter) where
  free_fits : Fits (free_header gen) []
  free_fits = record { same_length = refl; short = omega arith; len_fits = omega arith; generation_fits = omega arith }

  -- the free header: free
  pub free_said : head_of (free_block gen) ≡ idle gen
  unfolding head_of
  free_said =
      ap (said_of (free_block gen))
      (ap (decoded (free_block gen)) (length_free gen) ∙ decode_encode (free_header gen) [] free_fits (text_complete none))

  -- its first half over an old block: the same
  pub cut_said : (old : List ℕ) → length old ≡ 512 → head_of (take 256 (free_block gen) ++ drop 256 old) ≡ idle gen
  unfolding head_of
  cut_said old e =
      let b = take 256 (free_block gen) ++ drop 256 old in
      let n : length b ≡ 512 = simp (length-append, length-take, length-drop) (omega (arith, length_free gen, e)) in
      ap (said_of b) (ap (decoded b) n ∙ cut_free_decodes gen old (omega arith))

-- ---- after a release

module _ (plan : List ℕ) (g : Geometry) (i gen : ℕ) (d : Dev) (s : Shape g d.bytes d.phys) (r : i < length d.phys) where
  abbrev ys : List ℕ
  ys = free_block gen

  abbrev freed : Dev
  freed = free_m plan g i gen d

  abbrev stored : Dev
  stored = header_write_m plan g i ys d

  pub free_keeps : (j : ℕ) → j ≢ i → header_at g freed j ≡ header_at g d j
  unfolding header_at
  free_keeps j ne = ap head_of (same_block (memory plan g) d freed j (free_others plan g i d s r j ne gen))

  -- a write that was not whole ends it
  stopped : fine_m stored ≡ false → freed ≡ stored
  unfolding free_m
  stopped f =
      let p = (put_stopped plan g i d s r ys (length_free gen) f).0 in
      let q : fine_m (put_m plan g i ys d) ≡ false = ap fine_m p ∙ f in
      rw q p

  module _ (small : gen < last_counter) where
    written : fine_m stored ≡ true → header_at g freed i ≡ idle gen
    unfolding header_at
    written f = ap head_of (free_block_lem plan g i d s r gen f) ∙ free_said gen small

    pub free_frees : fine_m freed ≡ true → header_at g freed i ≡ idle gen
    free_frees e = go (fine_m stored) refl
      where
        go : (t : Bool) → fine_m stored ≡ t → header_at g freed i ≡ idle gen
        go true f = written f
        go false f = absurd (false≢true (sym (ap fine_m (stopped f) ∙ f) ∙ e))

    -- half of the block over what the slot had, which was a whole block or none
    torn : (c : List ℕ) → c ≡ take 256 ys ++ drop 256 (block_of g i d) → Dec (length (block_of g i d) < 512)
        → (head_of c ≡ head_of (block_of g i d)) ⊎ (head_of c ≡ idle gen)
    torn c e (yes l) =
        let b = block_of g i d in
        inl (ap head_of e ∙ short_said (take 256 ys ++ drop 256 b) (half_short ys b l) ∙ sym (short_said b l))
    torn c e (no l) =
        let n : length (block_of g i d) ≡ 512 = omega (arith, (memory plan g).block_length d i s r) in
        inr (ap head_of e ∙ cut_said gen small (block_of g i d) n)

    pub free_stays : (header_at g freed i ≡ header_at g d i) ⊎ (header_at g freed i ≡ idle gen)
    unfolding header_at
    free_stays = go (fine_m stored) refl
      where
        unwritten : (block_of g i stored ≡ block_of g i d) ⊎ (block_of g i stored ≡ take 256 ys ++ drop 256 (block_of g i d))
            → (head_of (block_of g i stored) ≡ head_of (block_of g i d)) ⊎ (head_of (block_of g i stored) ≡ idle gen)
        unwritten (inl e) = inl (ap head_of e)
        unwritten (inr e) = torn (block_of g i stored) e (dec_lt (length (block_of g i d)) 512)

        go : (t : Bool) → fine_m stored ≡ t → (head_of (block_of g i freed) ≡ head_of (block_of g i d)) ⊎ (head_of (block_of g i freed) ≡ idle gen)
        go true f = inr (written f)
        go false f = rw (stopped f) (unwritten (put_stopped plan g i d s r ys (length_free gen) f).1)
