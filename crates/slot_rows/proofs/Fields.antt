-- A row's numbers as its fields, and the store of two of them.
use mathlib.Core.Path.{◌≡◌, refl, sym, ap, ◌∙◌}
use mathlib.Core.List.{List, [], ◌∷◌}
use mathlib.Core.Bool.{Bool, true, false, not, false≢true}
use Prim.Native.Nat.{ℕ, ◌+◌, ◌-◌, ◌*◌, ◌≤◌, ◌<◌}
use native.Mathlib.Omega.{arith}
use lib.Dec.{eqb}
use lib.ListN.{length, get_or, set, take, drop, replicate}
use lib.Seq.{sets, set-get_or, get_or-set_other}
use Rattle.limits.specs.Limits.{max_path, row_width}
use Rattle.path.specs.Path.{same_path}
use Rattle.lists.specs.Blocks.{pad, sets_four}
use Rattle.slot_rows.specs.Rows.{Row, file, unbound, bound, at, is_bound, path_of, gen_of, len_of, is_dirty, refiled, resized, holds, mark_of, row_nums, row_name, rows_of, Flat}
use Rattle.slot_rows.proofs.InBuffers.{row_fits_lem, resized_path, num_at, name_part, row_kept, row_stored}
use Rattle.slot_rows.proofs.Finding.{holds_path, holds_unbound}

pub mark_bound : (r : Row) → not (eqb (get_or (row_nums r) 0 0) 0) ≡ is_bound r
unfolding row_nums is_bound mark_of
mark_bound (unbound g) = refl
mark_bound (bound p f) = by_mark f.dirty
  where
    by_mark : (d : Bool) → not (eqb (mark_of d) 0) ≡ true
    by_mark true = refl
    by_mark false = refl

pub mark_dirty : (r : Row) → eqb (get_or (row_nums r) 0 0) 2 ≡ is_dirty r
unfolding row_nums is_dirty mark_of
mark_dirty (unbound g) = refl
mark_dirty (bound p f) = by_mark f.dirty
  where
    by_mark : (d : Bool) → eqb (mark_of d) 2 ≡ d
    by_mark true = refl
    by_mark false = refl

pub num_path : (r : Row) → get_or (row_nums r) 1 0 ≡ length (path_of r)
unfolding row_nums path_of
num_path (unbound g) = refl
num_path (bound p f) = refl

pub num_len : (r : Row) → get_or (row_nums r) 2 0 ≡ len_of r
unfolding row_nums len_of
num_len (unbound g) = refl
num_len (bound p f) = refl

pub num_generation : (r : Row) → get_or (row_nums r) 3 0 ≡ gen_of r
unfolding row_nums gen_of
num_generation (unbound g) = refl
num_generation (bound p f) = refl

-- ---- two fields stored

resized_nums : (m : ℕ) (e : Bool) (r : Row) → is_bound r ≡ true → row_nums (resized m e r) ≡ mark_of e ∷ get_or (row_nums r) 1 0 ∷ m ∷ get_or (row_nums r) 3 0 ∷ []
unfolding row_nums resized refiled is_bound
resized_nums m e (unbound g) h = absurd (false≢true h)
resized_nums m e (bound p f) h = refl

-- the first and the third of four cells
sets_two : (l : List ℕ) (k a c : ℕ) → set (set l k a) (k + 2) c ≡ sets l k (a ∷ get_or l (k + 1) 0 ∷ c ∷ get_or l (k + 3) 0 ∷ [])
sets_two l k a c =
    let b : get_or (set l k a) (k + 1) 0 ≡ get_or l (k + 1) 0 = get_or-set_other l k (k + 1) a 0 (λ e. omega arith) in
    let d : get_or (set (set l k a) (k + 2) c) (k + 3) 0 ≡ get_or (set l k a) (k + 3) 0 = get_or-set_other (set l k a) (k + 2) (k + 3) c 0 (λ e. omega arith) in
    let f : get_or (set l k a) (k + 3) 0 ≡ get_or l (k + 3) 0 = get_or-set_other l k (k + 3) a 0 (λ e. omega arith) in
    sym (rw (sym b, set-get_or (set l k a) (k + 1) 0, sym (d ∙ f), set-get_or (set (set l k a) (k + 2) c) (k + 3) 0))
    ∙ sets_four l k a (get_or l (k + 1) 0) c (get_or l (k + 3) 0)

module _ (cap n : ℕ) (l s : List ℕ) (F : Flat cap n l s) (i : ℕ) (h : i < n) where
  pub resized_stored : (l₁ : List ℕ) (m len : ℕ) (d : Bool) → is_bound (at (rows_of l s n) i) ≡ true → m ≡ mark_of d → l₁ ≡ set (set l (i * row_width) m) (i * row_width + 2) len
      → (rows_of l₁ s n ≡ set (rows_of l s n) i (resized len d (at (rows_of l s n) i))) × Flat cap n l₁ s
  resized_stored l₁ m len d b e a =
      row_kept cap n l s F i h (resized len d (at (rows_of l s n) i)) l₁ (resized_path len d (at (rows_of l s n) i))
      (a ∙ sets_two l (i * row_width) m len ∙ rw (resized_nums len d (at (rows_of l s n) i) b, e, num_at cap n l s F i h 1 (omega arith), num_at cap n l s F i h 3 (omega arith)))

  -- whether the row's part of the names spells p
  pub row_spells : (p : List ℕ) (k : ℕ) → k ≡ length (path_of (at (rows_of l s n) i)) → is_bound (at (rows_of l s n) i) ≡ true
      → same_path (take (i * max_path + k - i * max_path) (drop (i * max_path) s)) p ≡ holds p (at (rows_of l s n) i)
  row_spells p k e b = ap (λ (x : List ℕ). same_path x p) (name_part cap n l s F i h k e).1 ∙ sym (holds_path p (at (rows_of l s n) i) b)

  pub bound_stored : (p l₁ s₁ : List ℕ) (m g len : ℕ) (d : Bool) → length p ≤ max_path → m ≡ mark_of d
      → l₁ ≡ sets l (i * row_width) (m ∷ length p ∷ len ∷ g ∷ []) → s₁ ≡ sets s (i * max_path) (pad max_path p)
      → (rows_of l₁ s₁ n ≡ set (rows_of l s n) i (bound p (file g len d))) × Flat cap n l₁ s₁
  unfolding row_nums row_name path_of
  bound_stored p l₁ s₁ m g len d k e a b = row_stored cap n l s F i h (bound p (file g len d)) l₁ s₁ k (rw e at a) b

  pub unbound_stored : (l₁ s₁ : List ℕ) (g : ℕ) → l₁ ≡ sets l (i * row_width) (0 ∷ 0 ∷ 0 ∷ g ∷ []) → s₁ ≡ sets s (i * max_path) (replicate max_path 0)
      → (rows_of l₁ s₁ n ≡ set (rows_of l s n) i (unbound g)) × Flat cap n l₁ s₁
  unfolding row_nums row_name path_of pad
  unbound_stored l₁ s₁ g a b = row_stored cap n l s F i h (unbound g) l₁ s₁ (omega arith) a b

-- what says whether a row holds a path
pub ruleset row_paths = (row_fits_lem, name_part, row_spells, holds_unbound)
