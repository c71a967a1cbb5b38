-- Each answer's law: what the parts are, the run of entries, and the ways out of read_dir.
use Prim.Native.Nat.{ℕ, suc, ◌+◌, ◌-◌, ◌*◌, ◌/◌, ◌%◌, ◌<◌, ◌≤◌}
use native.Mathlib.Omega.{arith}
use native.Mathlib.Nat.{add-sub_cancel_left}
use native.Mathlib.Numerals.{add-one}
use mathlib.Core.Path.{◌≡◌, refl, sym, ap, ◌∙◌}
use mathlib.Core.List.{List, [], ◌∷◌, ◌++◌, map, append_assoc}
use lib.ListN.{length, get_or, set, take, drop, length-append, length-take, length-drop, length-set, drop_of_length-le}
use lib.Seq.{sets, sets-eq, length-sets, drop-cons}
use Rattle.std.proofs.Common.{sum}
use Rattle.std.proofs.lemmas.Grind.{common_steps}
use Rattle.lists.specs.Blocks.{cat, sets_append}
use Rattle.lists.specs.Runs.{range}
use Rattle.lists.specs.Sort.{keep, sort, length_sort}
use Rattle.le.specs.Le.{le, laid}
use Rattle.path.specs.Path.{is_parent}
use Rattle.slot_rows.specs.Rows.{at, rows_of}
use Rattle.slot_rows.proofs.InBuffers.{length_rows}
use Rattle.dir_rows.specs.Rows.{dirs_of}
use Rattle.dir_rows.proofs.InBuffer.{length_dirs}
use Rattle.row_order.specs.Spans.{spelled, SpanInside, AllInside, span_before, file_span, dir_span}
use Rattle.row_order.specs.InOrder.{inside_get, inside_sort}
use Rattle.inner_list.specs.Listing.{is_child, entry}
use Rattle.inner_list.specs.Parts.{child_files, child_dirs, entries, size_of}

-- ---- children

pub child_files_lem : (dir l s : List ℕ) (n : ℕ)
    → child_files dir (rows_of l s n) ≡ map (file_span (rows_of l s n)) (keep (λ (i : ℕ). is_child dir (at (rows_of l s n) i)) (range 0 n))
unfolding child_files
child_files_lem dir l s n = rw (length_rows l s n)

pub child_dirs_lem : (dir b : List ℕ) (m : ℕ)
    → child_dirs dir (dirs_of b m) ≡ map (dir_span (dirs_of b m)) (keep (λ (j : ℕ). is_parent dir (get_or (dirs_of b m) j [])) (range 0 m))
unfolding child_dirs
child_dirs_lem dir b m = rw (length_dirs b m)

-- ---- sizes

pub size_sum : (xs : List ℕ) → sum (map (λ x. 3 + x % 512) xs) ≡ size_of xs
unfolding size_of
size_sum [] = refl
size_sum (x ∷ xs) = grind (arith, common_steps, size_sum xs)

pub size_few : (xs : List ℕ) → size_of xs ≤ length xs * 514
unfolding size_of
size_few [] = omega arith
size_few (x ∷ xs) = omega (arith, size_few xs)

length_entry : (kind : ℕ) (p : List ℕ) → length (entry kind p) ≡ 3 + length p
unfolding entry
length_entry kind p = omega arith

pub length_spelled : (b : List ℕ) (x : ℕ) → SpanInside b x → length (spelled b x) ≡ x % 512
unfolding spelled
length_spelled b x h = simp (length-take, length-drop) (omega arith)

-- the entries of parts that lie inside take as many bytes
pub entries_long : (kind : ℕ) (b xs : List ℕ) → AllInside b xs → length (entries kind b xs) ≡ size_of xs
unfolding entries cat size_of AllInside
entries_long kind b [] a = refl
entries_long kind b (x ∷ xs) a =
    simp length-append (omega (arith, length_entry kind (spelled b x), length_spelled b x a.0, entries_long kind b xs a.1))

-- ---- one entry, and a run of them

sets_laid : (d ys : List ℕ) (at : ℕ) → at + length ys ≤ length d → sets d at ys ≡ laid d at ys
unfolding laid
sets_laid d ys at h = sets-eq ys d at h ∙ append_assoc (take at d) ys (drop (at + length ys) d)

-- a kind, a length and a path, one behind the other
pub entry_put : (d c e l p : List ℕ) (at kind n : ℕ) → at + 3 + length p ≤ length d → n ≡ length p
    → c ≡ set d at kind → e ≡ laid c (at + 1) (le 2 n) → l ≡ sets e (at + 3) p → l ≡ sets d at (entry kind p)
unfolding entry
entry_put d c e l p at kind n h z f g k =
    let q : length c ≡ length d = ap length f ∙ length-set d at kind in
    let u : e ≡ sets c (at + 1) (le 2 n) = g ∙ sym (sets_laid c (le 2 n) (at + 1) (omega arith)) in
    let a1 : at + 1 ≡ suc at = omega arith in
    let a3 : at + 3 ≡ suc (suc (suc at)) = omega arith in
    k ∙ rw (u, f, z, a1, a3)

-- Behind entry i: what is still to be written makes the whole of it.
pub record Putting (kind : ℕ) (b xs d₀ : List ℕ) (at i end : ℕ) (d : List ℕ) : Type 0 where
  pub long : length d ≡ length d₀
  pub reached : end + length (entries kind b (drop i xs)) ≡ at + length (entries kind b xs)
  pub cells : sets d end (entries kind b (drop i xs)) ≡ sets d₀ at (entries kind b xs)

module _ (kind : ℕ) (b xs d₀ : List ℕ) (at : ℕ) where
  module _ (i end : ℕ) (d : List ℕ) (P : Putting kind b xs d₀ at i end d) where
    pub putting_end : length xs ≤ i → (end ≡ at + length (entries kind b xs)) × (d ≡ sets d₀ at (entries kind b xs))
    unfolding entries cat
    putting_end h =
        let e : drop i xs ≡ [] = drop_of_length-le xs h in
        (omega (arith, (rw e at P.reached)), (rw e at P.cells))

    module _ (a : AllInside b xs) (h : i < length xs) where
      abbrev x : ℕ
      x = get_or xs i 0

      -- the part of the next entry, as it is lent
      next_part_lem : take (x / 512 + x % 512 - x / 512) (drop (x / 512) b) ≡ spelled b x
      unfolding spelled
      next_part_lem = rw (add-sub_cancel_left (x / 512) (x % 512))

      next_inside : SpanInside b x
      next_inside = inside_get b xs i a h

      turn : entries kind b (drop i xs) ≡ entry kind (spelled b x) ++ entries kind b (drop (i + 1) xs)
      unfolding entries cat
      turn = rw (add-one, drop-cons xs i 0 h)

      pub next_long : length (entries kind b (drop i xs)) ≡ 3 + x % 512 + length (entries kind b (drop (i + 1) xs))
      next_long =
          ap length turn
          ∙ length-append (entry kind (spelled b x)) (entries kind b (drop (i + 1) xs))
          ∙ ap (λ (n : ℕ). n + length (entries kind b (drop (i + 1) xs))) (length_entry kind (spelled b x) ∙ ap (λ (n : ℕ). 3 + n) (length_spelled b x next_inside))

      -- the next entry fits
      pub next_fits : at + length (entries kind b xs) ≤ length d₀
          → (end + 3 + length (take (x / 512 + x % 512 - x / 512) (drop (x / 512) b)) ≤ length d) × (length (take (x / 512 + x % 512 - x / 512) (drop (x / 512) b)) < 512)
      next_fits f =
          let n : length (take (x / 512 + x % 512 - x / 512) (drop (x / 512) b)) ≡ x % 512 = ap length next_part_lem ∙ length_spelled b x next_inside in
          (omega (arith, P.long, P.reached, next_long), omega arith)

      pub putting_more : (l : List ℕ) → l ≡ sets d end (entry kind (take (x / 512 + x % 512 - x / 512) (drop (x / 512) b))) → Putting kind b xs d₀ at (i + 1) (end + 3 + x % 512) l
      putting_more l e =
          let f : l ≡ sets d end (entry kind (spelled b x)) = (rw next_part_lem at e) in
          let n : length (entry kind (spelled b x)) ≡ 3 + x % 512 = length_entry kind (spelled b x) ∙ ap (λ (k : ℕ). 3 + k) (length_spelled b x next_inside) in
          let z : end + 3 + x % 512 ≡ end + length (entry kind (spelled b x)) = omega arith in
          record {
            long = ap length f ∙ simp length-sets P.long;
            reached = omega (arith, P.reached, next_long);
            cells = rw (z, f, sets_append (entry kind (spelled b x)) (entries kind b (drop (i + 1) xs)) d end, ← turn) P.cells;
          }

-- ---- both runs of entries

-- in order, entries take as many bytes
pub entries_sorted : (kind : ℕ) (b xs : List ℕ) → length (entries kind b (sort (span_before b) xs)) ≡ length (entries kind b xs)
unfolding entries
entries_sorted kind b xs = length_sort (span_before b) (λ (x : ℕ). entry kind (spelled b x)) xs

module _ (names dirs files folders fs ds buf : List ℕ) (a : AllInside names files) (b : AllInside dirs folders)
    (f : fs ≡ sort (span_before names) files) (d : ds ≡ sort (span_before dirs) folders)
    (h : length (entries 0 names files) + length (entries 1 dirs folders) ≤ length buf) where
  files_long : length (entries 0 names fs) ≡ length (entries 0 names files)
  files_long = ap (λ (x : List ℕ). length (entries 0 names x)) f ∙ entries_sorted 0 names files

  dirs_long : length (entries 1 dirs ds) ≡ length (entries 1 dirs folders)
  dirs_long = ap (λ (x : List ℕ). length (entries 1 dirs x)) d ∙ entries_sorted 1 dirs folders

  pub files_fit : AllInside names fs × (0 + length (entries 0 names fs) ≤ length buf)
  files_fit = (rw f (inside_sort names files a), omega (arith, files_long))

  module _ (at : ℕ) (mid : List ℕ) (p : (at ≡ 0 + length (entries 0 names fs)) × (mid ≡ sets buf 0 (entries 0 names fs))) where
    pub dirs_fit : AllInside dirs ds × (at + length (entries 1 dirs ds) ≤ length mid)
    dirs_fit = (rw d (inside_sort dirs folders b), omega (arith, files_long, dirs_long, ap length p.1 ∙ length-sets buf 0 (entries 0 names fs)))

    pub both_put : (r : ℕ) (l : List ℕ) → (r ≡ at + length (entries 1 dirs ds)) × (l ≡ sets mid at (entries 1 dirs ds))
        → (r ≡ length (entries 0 names files) + length (entries 1 dirs folders)) × (l ≡ sets buf 0 (entries 0 names (sort (span_before names) files) ++ entries 1 dirs (sort (span_before dirs) folders)))
    both_put r l q = (
      omega (arith, q.0, p.0, files_long, dirs_long),
      q.1 ∙ rw (p.0, p.1, sets_append (entries 0 names fs) (entries 1 dirs ds) buf 0, f, d),
    )
