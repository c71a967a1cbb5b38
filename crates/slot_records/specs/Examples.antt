-- A bound row of a file of 7 bytes whose path has 3, clean, under generation 5, and an unbound row of generation 2: records and numbers.
use Rattle.std.specs.Prelude.{◌≡◌, refl, false, List, [], ◌∷◌, map, ℕ}
use Rattle.lists.specs.Blocks.{cat}
use Rattle.slot_rows.specs.Rows.{Row, file, unbound, bound, mark_of}
use Rattle.slot_records.specs.Records.{slot_of, slot_nums, nums_of, slots_of}

two : List Row
two = bound (97 ∷ 47 ∷ 98 ∷ []) (file 5 7 false) ∷ unbound 2 ∷ []

numbers : List ℕ
numbers = 1 ∷ 3 ∷ 7 ∷ 5 ∷ 0 ∷ 0 ∷ 0 ∷ 2 ∷ []

flat_of_two : nums_of (map slot_of two) ≡ numbers
unfolding two numbers nums_of cat slot_nums slot_of mark_of
flat_of_two = refl

two_of_flat : slots_of numbers ≡ map slot_of two
unfolding two numbers slots_of slot_of mark_of
two_of_flat = refl
