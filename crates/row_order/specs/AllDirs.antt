-- The parts of all directories: how many they are, that they lie in the rows, and what they spell, by row and in order.
use Prim.Native.Nat.{ℕ, zero, suc, ◌+◌, ◌*◌, ◌≤◌}
use Rattle.std.proofs.Common.{arith, sym, ◌∙◌}
use Rattle.std.specs.Prelude.{◌≡◌, true, length}
use Rattle.std.proofs.Math.Path.{refl, ap, ap₂}
use mathlib.Core.List.{List, [], ◌∷◌, ◌++◌, map}
use Rattle.std.proofs.lemmas.List.{length-map}
use Rattle.limits.specs.Limits.{dir_width}
use Rattle.lists.specs.Blocks.{cat}
use Rattle.lists.specs.Runs.{range, tab}
use Rattle.lists.specs.Sort.{sort}
use Rattle.dir_rows.specs.Rows.{dir_at, dirs_of}
use Rattle.dir_rows.proofs.InBuffer.{length_dirs}
use Rattle.row_order.specs.Spans.{spelled, span_before, in_order, dir_span, dir_spans, AllInside}
use Rattle.row_order.specs.InOrder.{length_sorted, spelled_sort, inside_sort}
use Rattle.row_order.specs.Picks.{picks_inside, dir_spans_lem, dir_inside, dir_spelled, row_spells}

pub cat_map : {A B : Type 0} (f : A → B) (g : B → List ℕ) (h : A → List ℕ) → ((x : A) → g (f x) ≡ h x) → (xs : List A)
    → cat g (map f xs) ≡ cat h xs
unfolding cat
cat_map f g h e [] = refl
cat_map f g h e (x ∷ xs) = ap₂ (λ (p q : List ℕ). p ++ q) (e x) (cat_map f g h e xs)

module _ (b : List ℕ) (m : ℕ) (h : m * dir_width ≤ length b) where
  abbrev ds : List (List ℕ)
  ds = dirs_of b m

  by_row : (i k : ℕ) → i + k ≤ m → map (spelled b) (map (dir_span ds) (range i k)) ≡ tab (dir_at b) i k
  unfolding range tab
  by_row i zero l = refl
  by_row i (suc k) l =
      ap₂ (λ (x : List ℕ) (xs : List (List ℕ)). x ∷ xs) (dir_spelled m b h i ∙ row_spells m b h i (omega arith)) (by_row (suc i) k (omega arith))

  pub dirs_spelled : map (spelled b) (dir_spans ds) ≡ ds
  unfolding dir_spans dirs_of
  dirs_spelled = ap (λ (n : ℕ). map (spelled b) (map (dir_span ds) (range 0 n))) (length_dirs b m) ∙ by_row 0 m (omega arith)

  pub dirs_many : length (dir_spans ds) ≡ m
  dirs_many = sym (length-map (dir_spans ds) (spelled b)) ∙ ap length dirs_spelled ∙ length_dirs b m

  pub dirs_inside : AllInside b (dir_spans ds)
  dirs_inside = rw (dir_spans_lem b m) (picks_inside b (dir_span ds) (λ (j : ℕ). true) m (dir_inside m b h))

  -- ---- in order

  abbrev sorted : List ℕ
  sorted = sort (span_before b) (dir_spans ds)

  pub sorted_many : length sorted ≡ m
  sorted_many = length_sorted (span_before b) (dir_spans ds) ∙ dirs_many

  pub sorted_inside : AllInside b sorted
  sorted_inside = inside_sort b (dir_spans ds) dirs_inside

  -- What is made of each part, one behind the other, is what is made of each directory, in order.
  pub sorted_cat : (f : List ℕ → List ℕ) → cat (λ (x : ℕ). f (spelled b x)) sorted ≡ cat f (in_order ds)
  sorted_cat f =
      sym (cat_map (spelled b) f (λ (x : ℕ). f (spelled b x)) (λ x. refl) sorted)
      ∙ ap (cat f) (spelled_sort b (dir_spans ds) ∙ ap in_order dirs_spelled)
