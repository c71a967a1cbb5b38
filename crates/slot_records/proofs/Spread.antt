-- Whole rows of numbers and 66 records: the records that are stored from the numbers, and the numbers that are loaded from the records.
use mathlib.Core.Path.{◌≡◌, sym, ◌∙◌}
use mathlib.Core.Bool.{true}
use mathlib.Core.List.{List, ◌++◌}
use Prim.Native.Nat.{ℕ, ◌*◌, ◌/◌}
use native.Mathlib.Omega.{arith}
use lib.ListN.{length, take, drop, replicate}
use lib.Seq.{length-take-le}
use Rattle.limits.specs.Limits.{row_width}
use Rattle.slot_records.specs.declared.Slot.{Slot}
use Rattle.slot_records.specs.Records.{none, nums_of, loaded, stored}
use Rattle.slot_records.specs.SameNumbers.{loaded_all, stored_all}
use Rattle.slot_records.specs.Whole.{whole_rows, spread_of, whole_rows_lem, length_whole}

module _ (s : List ℕ) (rs : List Slot) (h : whole_rows s ≡ true) (n : length rs ≡ 66) where
  -- the records in front are as many as the rows
  pub front_long : length s / row_width ≡ length (take (length s / row_width) rs)
  front_long = sym (length-take-le (length s / row_width) rs (omega (arith, whole_rows_lem s h)))

  just : length s ≡ length (take (length s / row_width) rs) * row_width
  just = omega (arith, whole_rows_lem s h, front_long)

  pub loaded_whole : (m : List ℕ) → m ≡ loaded (take (length s / row_width) rs) s → m ≡ nums_of (take (length s / row_width) rs)
  loaded_whole m e = e ∙ loaded_all (take (length s / row_width) rs) s just

  pub stored_whole : (l : List Slot) → rs ≡ replicate 66 none → l ≡ stored s (take (length s / row_width) rs) → l ++ drop (length s / row_width) rs ≡ spread_of s
  unfolding spread_of
  stored_whole l z e = rw (e, stored_all s (take (length s / row_width) rs) just, length_whole s h, z)
