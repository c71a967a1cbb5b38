-- Numbers that are made records for a call, and put back: at most 66 whole rows of them, two more than a pool has.
use Rattle.std.specs.Prelude.{◌≡◌, refl, Bool, true, false, cond, List, ◌++◌, ℕ, ◌*◌, ◌/◌, ◌%◌, ◌≤◌, eqb, ltb, length, take, drop, replicate}
use Rattle.std.proofs.Common.{ap, ◌∙◌, arith, ltb-false, eqb-true, take_at}
use Rattle.std.proofs.lemmas.Bool.{false≢true}
use Rattle.limits.specs.Limits.{row_width}
use Rattle.slot_records.specs.declared.Slot.{Slot}
use Rattle.slot_records.specs.Records.{none, nums_of, slots_of}
use Rattle.slot_records.specs.SameNumbers.{nums_slots, length_slots}

-- whole rows, and at most 66
unfoldable pub whole_rows : List ℕ → Bool
whole_rows s = cond (ltb 264 (length s)) false (eqb (length s % 4) 0)

-- 66 records: those of the numbers, and behind them zero ones
unfoldable pub spread_of : List ℕ → List Slot
spread_of s = slots_of s ++ drop (length (slots_of s)) (replicate 66 none)

-- Such numbers are four for each row, and the rows at most 66.
pub whole_rows_lem : (s : List ℕ) → whole_rows s ≡ true → (length s ≡ length s / row_width * row_width) × (length s / row_width ≤ 66)
unfolding whole_rows
whole_rows_lem s = go (ltb 264 (length s)) refl
  where
    go : (z : Bool) → ltb 264 (length s) ≡ z → cond z false (eqb (length s % 4) 0) ≡ true → (length s ≡ length s / row_width * row_width) × (length s / row_width ≤ 66)
    go true f h = absurd (false≢true h)
    go false f h =
        let l : length s ≤ 264 = ltb-false 264 (length s) f in
        let e : length s % 4 ≡ 0 = eqb-true (length s % 4) 0 h in
        (omega arith, omega arith)

-- As many records as rows.
pub length_whole : (s : List ℕ) → whole_rows s ≡ true → length (slots_of s) ≡ length s / row_width
length_whole s h = length_slots (length s / row_width) s (whole_rows_lem s h).0

-- They stand in front.
pub take_spread : (s : List ℕ) → whole_rows s ≡ true → take (length s / row_width) (spread_of s) ≡ slots_of s
unfolding spread_of
take_spread s h = take_at (slots_of s) (drop (length (slots_of s)) (replicate 66 none)) (length s / row_width) (length_whole s h)

-- Their numbers are the numbers.
pub nums_spread : (s : List ℕ) (rs : List Slot) → whole_rows s ≡ true → rs ≡ spread_of s → nums_of (take (length s / row_width) rs) ≡ s
nums_spread s rs h e = ap (λ (x : List Slot). nums_of (take (length s / row_width) x)) e ∙ ap nums_of (take_spread s h) ∙ nums_slots (length s / row_width) s (whole_rows_lem s h).0
