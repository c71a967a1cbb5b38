-- The spans that a dump sorts: how many they are, where they lie, and what lines they stand for.
use Prim.Native.Nat.{ℕ, ◌*◌, ◌≤◌, ◌<◌}
use native.Mathlib.Omega.{arith}
use mathlib.Core.Path.{◌≡◌, refl, sym, ap, ◌∙◌}
use mathlib.Core.Bool.{Bool}
use mathlib.Core.List.{List, [], ◌∷◌, map}
use lib.ListN.{length, take}
use lib.Seq.{sets, sets-eq, length-sets, take_at}
use Rattle.limits.specs.Limits.{dir_width}
use Rattle.lists.specs.Runs.{range}
use Rattle.lists.specs.Blocks.{cat}
use Rattle.lists.specs.Sort.{All, all_keep, all_range, all_sort, keep, sort}
use Rattle.slot_rows.specs.Rows.{Row, at, is_bound, rows_of, Flat}
use Rattle.dir_rows.specs.Rows.{dirs_of}
use Rattle.row_order.specs.Spans.{spelled, AllInside, span_before, file_span, slot_of, file_spans, dir_spans, file_before}
use Rattle.row_order.specs.InOrder.{length_sorted}
use Rattle.row_order.specs.Picks.{picks_few, picks_inside, file_spans_lem, file_inside, file_slot_lem}
use Rattle.row_order.specs.AllDirs.{cat_map, dirs_many, sorted_cat}
use Rattle.row_order.specs.Theorems.{files_sorted}
use Rattle.line_dump.specs.Dump.{file_line, dir_line, files_of, files_text, dirs_text, SlotsBelow}

-- ---- lists

all_mapped : (f : ℕ → ℕ) (P : ℕ → Type 0) (xs : List ℕ) → All (λ x. P (f x)) xs → All P (map f xs)
all_mapped f P [] a = tt
all_mapped f P (x ∷ xs) a = (a.0, all_mapped f P xs a.1)

-- what was written to the front is read there
front_back : (l xs d : List ℕ) (k n : ℕ) → k ≡ length xs → d ≡ sets l 0 xs → length xs ≤ n → n ≤ length l → (k ≤ length d) × (take k d ≡ xs)
front_back l xs d k n e f h m =
    (omega (arith, ap length f, length-sets l 0 xs), ap (take k) (f ∙ sets-eq xs l 0 (omega arith)) ∙ take_at xs _ k (sym e))

-- ---- files

-- what the files of a dump are, for any rows
files_are : (rs : List Row) → files_of rs ≡ sort (file_before rs) (keep (λ i. is_bound (at rs i)) (range 0 (length rs)))
unfolding files_of
files_are rs = refl

module _ (cap n : ℕ) (l s : List ℕ) (F : Flat cap n l s) where
  abbrev rs : List Row
  rs = rows_of l s n

  abbrev held : ℕ → Bool
  held i = is_bound (at rs i)

  files_few : length (file_spans rs) ≤ n
  files_few = rw (file_spans_lem l s n) (picks_few (file_span rs) held 0 n)

  -- as they were written
  pub files_front : (w d : List ℕ) (k : ℕ) → k ≡ length (file_spans rs) → d ≡ sets w 0 (file_spans rs) → n ≤ length w → (k ≤ length d) × (take k d ≡ file_spans rs)
  files_front w d k e f h = front_back w (file_spans rs) d k n e f files_few h

  pub files_inside : AllInside s (file_spans rs)
  files_inside = rw (file_spans_lem l s n) (picks_inside s (file_span rs) held n (file_inside cap n l s F))

  pub files_held : SlotsBelow n (sort (span_before s) (file_spans rs))
  unfolding SlotsBelow
  files_held =
      let p = all_range (λ i. slot_of (file_span rs i) < n) 0 n (λ i a h. omega (arith, file_slot_lem cap n l s F i)) in
      all_sort (span_before s) (λ x. slot_of x < n) (file_spans rs)
      (rw (file_spans_lem l s n) (all_mapped (file_span rs) (λ x. slot_of x < n) (keep held (range 0 n)) (all_keep held (λ i. slot_of (file_span rs i) < n) (range 0 n) p)))

  pub files_text_lem : cat (λ x. file_line rs (slot_of x)) (sort (span_before s) (file_spans rs)) ≡ files_text rs
  unfolding files_text file_spans
  files_text_lem =
      let is = keep held (range 0 (length rs)) in
      let f : ℕ → List ℕ = λ x. file_line rs (slot_of x) in
      ap (cat f) (files_sorted cap n l s F is) ∙ cat_map (file_span rs) f (file_line rs) (λ i. ap (file_line rs) (file_slot_lem cap n l s F i)) (sort (file_before rs) is)
      ∙ ap (cat (file_line rs)) (sym (files_are rs))

  pub files_count : length (sort (span_before s) (file_spans rs)) ≤ n
  files_count = omega (arith, length_sorted (span_before s) (file_spans rs), files_few)

-- ---- directories

module _ (m : ℕ) (b : List ℕ) (h : m * dir_width ≤ length b) where
  abbrev ds : List (List ℕ)
  ds = dirs_of b m

  -- as they were written
  pub dirs_front : (w d : List ℕ) → d ≡ sets w 0 (dir_spans ds) → m ≤ length w → take m d ≡ dir_spans ds
  dirs_front w d f k = (front_back w (dir_spans ds) d m m (sym (dirs_many b m h)) f (omega (arith, dirs_many b m h)) k).1

  pub dirs_text_lem : cat (λ x. dir_line (spelled b x)) (sort (span_before b) (dir_spans ds)) ≡ dirs_text ds
  unfolding dirs_text
  dirs_text_lem = sorted_cat b m h dir_line
