-- Rows and their buffers: the view of a flat form, what a store to one row does, what stands in a row's place, and more rows.
use mathlib.Core.Path.{◌≡◌, refl, sym, ap, ◌∙◌}
use mathlib.Core.List.{List, [], ◌∷◌, ◌++◌, append_assoc}
use mathlib.Core.Bool.{Bool, true, false}
use Prim.Native.Nat.{ℕ, zero, suc, ◌+◌, ◌*◌, ◌-◌, ◌<◌, ◌≤◌}
use native.Mathlib.Nat.{sub-zero}
use native.Mathlib.Omega.{arith}
use lib.ListN.{length, get_or, set, take, drop, replicate, length-set, length-append, length-replicate}
use lib.Seq.{sets, take-append-le, take-nil, drop_at, set-get_or}
use Rattle.limits.specs.Limits.{max_path, row_width}
use Rattle.lists.specs.Blocks.{pad, cat, length_pad, take_pad, pad_fits, length_cat, flat_set, flat_at, flat_part}
use Rattle.lists.specs.Zeros.{flat_more}
use Rattle.slot_rows.specs.Rows.{Row, file, unbound, bound, none, at, is_bound, path_of, gen_of, refiled, resized, mark_of, row_nums, row_name, flat_nums, flat_names, row_from, rows_of, Short, Flat}

-- ---- sizes

pub nums_wide : (r : Row) → length (row_nums r) ≡ 4
unfolding row_nums
nums_wide (unbound g) = refl
nums_wide (bound p f) = refl

pub name_wide : (r : Row) → length (row_name r) ≡ max_path
unfolding row_name
name_wide r = length_pad max_path (path_of r)

pub length_rows : (l s : List ℕ) (n : ℕ) → length (rows_of l s n) ≡ n
unfolding rows_of
length_rows l s zero = refl
length_rows l s (suc n) = ap suc (length_rows (drop row_width l) (drop max_path s) n)

-- ---- a row with another length and dirty bit keeps all else

pub resized_bound : (m : ℕ) (e : Bool) (r : Row) → is_bound (resized m e r) ≡ is_bound r
unfolding resized is_bound
resized_bound m e (unbound g) = refl
resized_bound m e (bound p f) = refl

pub resized_path : (m : ℕ) (e : Bool) (r : Row) → path_of (resized m e r) ≡ path_of r
unfolding resized path_of
resized_path m e (unbound g) = refl
resized_path m e (bound p f) = refl

pub resized_gen : (m : ℕ) (e : Bool) (r : Row) → gen_of (resized m e r) ≡ gen_of r
unfolding resized refiled gen_of
resized_gen m e (unbound g) = refl
resized_gen m e (bound p f) = refl

-- ---- the view of a flat form

row_back : (r : Row) (l s : List ℕ) → length (path_of r) ≤ max_path
    → row_from (get_or (row_nums r ++ l) 0 0) (get_or (row_nums r ++ l) 1 0) (get_or (row_nums r ++ l) 2 0) (get_or (row_nums r ++ l) 3 0) (row_name r ++ s) ≡ r
unfolding row_from row_nums row_name path_of mark_of
row_back (unbound g) l s h = refl
row_back (bound p f) l s h = by_mark f.dirty refl
  where
    by_mark : (d : Bool) → f.dirty ≡ d
        → row_from (mark_of d) (length p) f.len f.gen (pad max_path p ++ s) ≡ bound p (file f.gen f.len d)
    by_mark true e = rw (take-append-le (length p) (pad max_path p) s (omega (arith, length_pad max_path p)), take_pad max_path p h)
    by_mark false e = rw (take-append-le (length p) (pad max_path p) s (omega (arith, length_pad max_path p)), take_pad max_path p h)

rows_cat : (rs : List Row) (l s : List ℕ) → Short rs → rows_of (cat row_nums rs ++ l) (cat row_name rs ++ s) (length rs) ≡ rs
unfolding rows_of cat
rows_cat [] l s h = refl
rows_cat (r ∷ rs) l s h =
    rw (
      append_assoc,
      append_assoc,
      row_back r (cat row_nums rs ++ l) (cat row_name rs ++ s) (h 0),
      drop_at (row_nums r) (cat row_nums rs ++ l) 4 (nums_wide r),
      drop_at (row_name r) (cat row_name rs ++ s) max_path (name_wide r),
      rows_cat rs l s (λ i. h (suc i)),
    )

pub rows_flat : (cap : ℕ) (rs : List Row) → length rs ≤ cap → Short rs → rows_of (flat_nums cap rs) (flat_names cap rs) (length rs) ≡ rs
unfolding flat_nums flat_names
rows_flat cap rs h k =
    let a : length (cat row_nums rs) ≤ cap * row_width = omega (arith, length_cat row_nums 4 nums_wide rs) in
    let b : length (cat row_name rs) ≤ cap * max_path = omega (arith, length_cat row_name max_path name_wide rs) in
    rw (pad_fits (cap * row_width) (cat row_nums rs) a, pad_fits (cap * max_path) (cat row_name rs) b)
    (rows_cat rs (replicate (cap * row_width - length (cat row_nums rs)) 0) (replicate (cap * max_path - length (cat row_name rs)) 0) k)

-- buffers that are the flat form of some rows have these rows as their view
pub flat_of_lem : (cap n : ℕ) (rs : List Row) (l s : List ℕ) → length rs ≡ n → n ≤ cap → Short rs → l ≡ flat_nums cap rs → s ≡ flat_names cap rs
    → (rows_of l s n ≡ rs) × Flat cap n l s
flat_of_lem cap n rs l s e h k a b =
    let v : rows_of l s n ≡ rs = rw (a, b, ← e) (rows_flat cap rs (omega arith) k) in
    (v, record { few = h; nums = rw (v, a); names = rw (v, b); short = rw v k })

pub short_set : (rs : List Row) (i : ℕ) (r : Row) → Short rs → length (path_of r) ≤ max_path → Short (set rs i r)
short_set [] i r h k j = h j
short_set (x ∷ rs) zero r h k zero = k
short_set (x ∷ rs) zero r h k (suc j) = h (suc j)
short_set (x ∷ rs) (suc i) r h k zero = h 0
short_set (x ∷ rs) (suc i) r h k (suc j) = short_set rs i r (λ m. h (suc m)) k j

module _ (cap n : ℕ) (l s : List ℕ) (F : Flat cap n l s) where
  pub nums_long : length l ≡ cap * row_width
  unfolding flat_nums
  nums_long = ap length (sym F.nums) ∙ length_pad (cap * row_width) _

  pub names_long : length s ≡ cap * max_path
  unfolding flat_names
  names_long = ap length (sym F.names) ∙ length_pad (cap * max_path) _

module _ (cap n : ℕ) (l s : List ℕ) (F : Flat cap n l s) (i : ℕ) (h : i < n) where
  few : length (rows_of l s n) ≤ cap
  few = omega (arith, F.few, length_rows l s n)

  inside : i < length (rows_of l s n)
  inside = omega (arith, length_rows l s n)

  -- ---- what stands in a row's place

  pub row_fits_lem : (i * row_width + row_width ≤ length l) × (i * max_path + max_path ≤ length s)
  row_fits_lem = (omega (arith, nums_long cap n l s F, F.few), omega (arith, names_long cap n l s F, F.few))

  pub num_at : (k : ℕ) → k < 4 → get_or l (i * row_width + k) 0 ≡ get_or (row_nums (at (rows_of l s n) i)) k 0
  unfolding flat_nums
  num_at k q =
      ap (λ (x : List ℕ). get_or x (i * row_width + k) 0) (sym F.nums) ∙ flat_at row_nums 4 nums_wide cap (rows_of l s n) i k none few inside q

  name_front : (k : ℕ) → k ≤ max_path → take k (drop (i * max_path) s) ≡ take k (row_name (at (rows_of l s n) i))
  unfolding flat_names
  name_front k q =
      ap (λ (x : List ℕ). take k (drop (i * max_path) x)) (sym F.names) ∙ flat_part row_name max_path name_wide cap (rows_of l s n) i k none few inside q

  -- the part of the row's length is its path, and lies in the buffer
  pub name_part : (k : ℕ) → k ≡ length (path_of (at (rows_of l s n) i))
      → (i * max_path + k ≤ length s) × (take (i * max_path + k - i * max_path) (drop (i * max_path) s) ≡ path_of (at (rows_of l s n) i))
  unfolding row_name
  name_part k e =
      let q : k ≤ max_path = omega (arith, F.short i) in
      let z : i * max_path + k - i * max_path ≡ k = omega arith in
      (omega (arith, row_fits_lem), rw z (name_front k q ∙ rw e (take_pad max_path (path_of (at (rows_of l s n) i)) (F.short i))))

  -- ---- a store

  nums_store : (r : Row) → sets l (i * row_width) (row_nums r) ≡ flat_nums cap (set (rows_of l s n) i r)
  unfolding flat_nums
  nums_store r =
      ap (λ (x : List ℕ). sets x (i * row_width) (row_nums r)) (sym F.nums) ∙ flat_set row_nums 4 nums_wide cap (rows_of l s n) i r few inside

  names_store : (r : Row) → sets s (i * max_path) (row_name r) ≡ flat_names cap (set (rows_of l s n) i r)
  unfolding flat_names
  names_store r =
      ap (λ (x : List ℕ). sets x (i * max_path) (row_name r)) (sym F.names) ∙ flat_set row_name max_path name_wide cap (rows_of l s n) i r few inside

  -- a row stored changes that row of the view and no other, and the buffers are flat again
  pub row_stored : (r : Row) (l₁ s₁ : List ℕ) → length (path_of r) ≤ max_path → l₁ ≡ sets l (i * row_width) (row_nums r) → s₁ ≡ sets s (i * max_path) (row_name r)
      → (rows_of l₁ s₁ n ≡ set (rows_of l s n) i r) × Flat cap n l₁ s₁
  row_stored r l₁ s₁ k a b =
      flat_of_lem cap n (set (rows_of l s n) i r) l₁ s₁ (simp length-set (length_rows l s n)) F.few (short_set (rows_of l s n) i r F.short k) (a ∙ nums_store r) (b ∙ names_store r)

  name_stays : sets s (i * max_path) (row_name (at (rows_of l s n) i)) ≡ s
  name_stays = names_store (at (rows_of l s n) i) ∙ ap (flat_names cap) (set-get_or (rows_of l s n) i none) ∙ F.names

  -- a row whose path stays: its name is not touched
  pub row_kept : (r : Row) (l₁ : List ℕ) → path_of r ≡ path_of (at (rows_of l s n) i) → l₁ ≡ sets l (i * row_width) (row_nums r)
      → (rows_of l₁ s n ≡ set (rows_of l s n) i r) × Flat cap n l₁ s
  unfolding row_name
  row_kept r l₁ e a = row_stored r l₁ s (rw e (F.short i)) a (sym name_stays ∙ rw e)

-- ---- more rows

nums_blank : row_nums none ≡ replicate 4 0
unfolding row_nums
nums_blank = refl

name_blank : row_name none ≡ replicate max_path 0
unfolding row_name path_of pad
name_blank = refl

pub short_append : (rs ts : List Row) → Short rs → Short ts → Short (rs ++ ts)
short_append [] ts h k j = k j
short_append (r ∷ rs) ts h k zero = h 0
short_append (r ∷ rs) ts h k (suc j) = short_append rs ts (λ m. h (suc m)) k j

short_none : (k : ℕ) → Short (replicate k none)
unfolding path_of
short_none zero j = omega arith
short_none (suc k) zero = omega arith
short_none (suc k) (suc j) = short_none k j

-- buffers of zeros hold no row
pub flat_zero : (cap : ℕ) → Flat cap 0 (replicate (cap * row_width) 0) (replicate (cap * max_path) 0)
unfolding flat_nums flat_names cat pad path_of
flat_zero cap =
    (flat_of_lem cap 0 [] (replicate (cap * row_width) 0) (replicate (cap * max_path) 0) refl (omega arith) (short_none 0) (rw (take-nil (cap * row_width), sub-zero)) (rw (take-nil (cap * max_path), sub-zero))).1

module _ (cap n k : ℕ) (l s : List ℕ) where
  -- the k rows past the count are `none`: they are counted where they lie
  pub rows_grow : Flat cap n l s → n + k ≤ cap → (rows_of l s (n + k) ≡ rows_of l s n ++ replicate k none) × Flat cap (n + k) l s
  unfolding flat_nums flat_names
  rows_grow F h =
      let e : length (rows_of l s n ++ replicate k none) ≡ n + k = simp (length-append, length-replicate, length_rows) in
      let few : length (rows_of l s n) + k ≤ cap = omega (arith, length_rows l s n) in
      flat_of_lem cap (n + k) (rows_of l s n ++ replicate k none) l s e h (short_append (rows_of l s n) (replicate k none) F.short (short_none k))
      (sym F.nums ∙ sym (flat_more row_nums 4 nums_wide none nums_blank cap (rows_of l s n) k few))
      (sym F.names ∙ sym (flat_more row_name max_path name_wide none name_blank cap (rows_of l s n) k few))
