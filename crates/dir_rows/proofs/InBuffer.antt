-- Directory rows and their buffer: the view of a flat form, the part that a row's spelling stands in, and one row more.
use Prim.Native.Nat.{ℕ, zero, suc, ◌+◌, ◌-◌, ◌*◌, ◌<◌, ◌≤◌, min}
use mathlib.Core.Path.{◌≡◌, refl, sym, ap, subst, ◌∙◌}
use mathlib.Core.List.Memᴰ
use mathlib.Core.List.{List, [], ◌∷◌, ◌++◌, append_assoc, append-nil}
use mathlib.Core.Logic.{⊎_elim}
use native.Mathlib.Nat.{mul-le-mul_right, add-sub_cancel_left}
use native.Mathlib.Omega.{arith}
use lib.ListN.{length, get_or, take, drop, replicate, length-append, length-take, length-drop}
use lib.Seq.{take_all, take_at, take-take, drop-drop, drop-append-add}
use Rattle.limits.specs.Limits.{max_path, dir_width}
use Rattle.le.specs.Le.{unle, field, laid}
use Rattle.le.proofs.Fields.{unle_le}
use Rattle.lists.specs.Fronts.{take_cut, take_inside, drop_zeros}
use Rattle.lists.specs.Blocks.{pad, cat, length_pad, pad_fits, take_pad, cat_append, length_cat, flat_part, flat_free}
use Rattle.lists.specs.Runs.{tab, length_tab, tab_all}
use Rattle.dir_rows.specs.Rows.{dir_row, flat_dirs, spelt, dir_at, dirs_of, Short, FlatDirs}

-- ---- sizes

pub row_wide : (d : List ℕ) → length (dir_row d) ≡ dir_width
unfolding dir_row
row_wide d = ap (λ (k : ℕ). suc (suc k)) (length_pad max_path d)

pub length_dirs : (b : List ℕ) (m : ℕ) → length (dirs_of b m) ≡ m
unfolding dirs_of
length_dirs b m = length_tab (dir_at b) 0 m

spelt_short : (r : List ℕ) → length r ≤ dir_width → length (spelt r) ≤ max_path
unfolding spelt
spelt_short r h = simp (length-take, length-drop) (omega arith)

pub dir_short : (b : List ℕ) (j : ℕ) → length (dir_at b j) ≤ max_path
unfolding dir_at
dir_short b j = spelt_short (take dir_width (drop (j * dir_width) b)) (simp length-take (omega arith))

tab_short : (b : List ℕ) (i k : ℕ) → Short (tab (dir_at b) i k)
unfolding tab
tab_short b i zero d m = absurd (Memᴰ.not-nil m)
tab_short b i (suc k) d m = ⊎_elim (λ e. rw e (dir_short b i)) (tab_short b (suc i) k d) (Memᴰ.cases_cons m)

-- what is read from a buffer fits its rows
pub dirs_short : (b : List ℕ) (m : ℕ) → Short (dirs_of b m)
unfolding dirs_of
dirs_short b m = tab_short b 0 m

-- ---- the view of a flat form

spelt_row : (d : List ℕ) → length d ≤ max_path → spelt (dir_row d) ≡ d
unfolding spelt dir_row
spelt_row d h = ap (λ (k : ℕ). take k (pad max_path d)) (unle_le 2 (length d) (omega arith)) ∙ take_pad max_path d h

short_at : (ds : List (List ℕ)) (j : ℕ) → Short ds → length (get_or ds j []) ≤ max_path
short_at [] j s = omega arith
short_at (d ∷ ds) zero s = s d (Memᴰ.head refl)
short_at (d ∷ ds) (suc j) s = short_at ds j (λ x m. s x (Memᴰ.tail m))

pub dirs_flat : (cap : ℕ) (ds : List (List ℕ)) → length ds ≤ cap → Short ds → dirs_of (flat_dirs cap ds) (length ds) ≡ ds
unfolding dirs_of flat_dirs dir_at
dirs_flat cap ds h s = tab_all (λ (j : ℕ). spelt (take dir_width (drop (j * dir_width) (pad (cap * dir_width) (cat dir_row ds))))) ds [] 0 row
  where
    row : (j : ℕ) → j < length ds → spelt (take dir_width (drop ((0 + j) * dir_width) (pad (cap * dir_width) (cat dir_row ds)))) ≡ get_or ds j []
    row j l =
        let z : (0 + j) * dir_width ≡ j * dir_width = omega arith in
        rw (z, flat_part dir_row dir_width row_wide cap ds j dir_width [] h l (omega arith), take_all dir_width (dir_row (get_or ds j [])) (omega (arith, row_wide (get_or ds j []))))
        (spelt_row (get_or ds j []) (short_at ds j s))

-- a buffer that is the flat form of some directories holds these
pub dirs_of_lem : (cap m : ℕ) (ds : List (List ℕ)) (b : List ℕ) → length ds ≡ m → m ≤ cap → Short ds → b ≡ flat_dirs cap ds → (dirs_of b m ≡ ds) × FlatDirs cap m b
dirs_of_lem cap m ds b e h s f =
    let v : dirs_of b m ≡ ds = rw (f, ← e) (dirs_flat cap ds (omega arith) s) in
    (v, record { few = h; flat = ap (flat_dirs cap) v ∙ sym f })

-- no directories: all is zero
pub flat_none : (cap : ℕ) → flat_dirs cap [] ≡ replicate (cap * dir_width) 0
unfolding flat_dirs cat
flat_none cap = let z : cap * dir_width - 0 ≡ cap * dir_width = omega arith in pad_fits (cap * dir_width) [] (omega arith) ∙ ap (λ (k : ℕ). replicate k 0) z

-- ---- the part that a row's spelling stands in

module _ (b : List ℕ) (j : ℕ) where
  pub dir_length : j * dir_width + dir_width ≤ length b → length (dir_at b j) ≡ min (field b (j * dir_width) 2) max_path
  unfolding dir_at spelt
  dir_length h =
      let t : take 2 (take dir_width (drop (j * dir_width) b)) ≡ take 2 (drop (j * dir_width) b) = take-take 2 dir_width (drop (j * dir_width) b) (omega arith) in
      ap (λ (r : List ℕ). length (take (unle r) (drop 2 (take dir_width (drop (j * dir_width) b))))) t
      ∙ simp (length-take, length-drop) (omega arith)

  -- as it is lent
  pub dir_part : (k : ℕ) → k ≡ length (dir_at b j) → take (j * dir_width + 2 + k - (j * dir_width + 2)) (drop (j * dir_width + 2) b) ≡ dir_at b j
  unfolding dir_at spelt
  dir_part k e =
      let r : List ℕ = take dir_width (drop (j * dir_width) b) in
      let s : 2 + k ≤ dir_width = omega (arith, dir_short b j) in
      rw (add-sub_cancel_left (j * dir_width + 2) k, ← drop-drop 2 (j * dir_width) b)
      (sym (take_inside 2 k dir_width (drop (j * dir_width) b) s) ∙ rw e (take_cut (field r 0 2) (drop 2 r)))

-- ---- one row more

module _ {A : Type 0} (f : A → List ℕ) (w : ℕ) (wide : (r : A) → length (f r) ≡ w) where
  cat_snoc : (rs : List A) (r : A) → cat f (rs ++ (r ∷ [])) ≡ cat f rs ++ f r
  unfolding cat
  cat_snoc rs r = cat_append f rs (r ∷ []) ∙ ap (λ (t : List ℕ). cat f rs ++ t) (append-nil (f r))

  -- a block laid over the first free one is one block more
  flat_push : (n : ℕ) (rs : List A) → length rs < n → (r : A)
      → laid (pad (n * w) (cat f rs)) (length rs * w) (f r) ≡ pad (n * w) (cat f (rs ++ (r ∷ [])))
  unfolding laid
  flat_push n rs h r =
      let c : List ℕ = cat f rs in
      let e : length c ≡ length rs * w = length_cat f w wide rs in
      let room : length c + w ≤ n * w = omega (arith, e, mul-le-mul_right {m = suc (length rs)} {n = n} w h) in
      let z : length rs * w + length (f r) ≡ length c + w = omega (arith, wide r, e) in
      let l : length (c ++ f r) ≡ length c + w = length-append c (f r) ∙ ap (λ (k : ℕ). length c + k) (wide r) in
      let y : n * w - length c - w ≡ n * w - (length c + w) = omega arith in
      rw (
        pad_fits (n * w) c (omega arith),
        cat_snoc rs r,
        pad_fits (n * w) (c ++ f r) (omega (arith, l)),
        l,
        take_at c (replicate (n * w - length c) 0) (length rs * w) e,
        z,
        drop-append-add c (replicate (n * w - length c) 0) w,
        drop_zeros w (n * w - length c),
        y,
        append_assoc,
      )

short_snoc : (ds : List (List ℕ)) (x : List ℕ) → Short ds → length x ≤ max_path → Short (ds ++ (x ∷ []))
short_snoc ds x s h d m = ⊎_elim (s d) (λ o. subst (λ (y : List ℕ). length y ≤ max_path) (sym (Memᴰ.eq_of_singleton o)) h) (Memᴰ.append_cases ds m)

module _ (cap m : ℕ) (b : List ℕ) (F : FlatDirs cap m b) where
  pub dirs_long : length b ≡ cap * dir_width
  unfolding flat_dirs
  dirs_long = ap length (sym F.flat) ∙ length_pad (cap * dir_width) _

  module _ (h : m < cap) where
    pub row_fits_lem : m * dir_width + dir_width ≤ length b
    row_fits_lem = omega (arith, dirs_long)

    -- the spelling's part of the first free row, as it is lent, is zero
    pub row_free : take (m * dir_width + 2 + max_path - (m * dir_width + 2)) (drop (m * dir_width + 2) b) ≡ replicate max_path 0
    unfolding flat_dirs
    row_free =
        let n : length (dirs_of b m) ≡ m = length_dirs b m in
        let r = flat_free dir_row dir_width row_wide cap (dirs_of b m) (omega arith) 2 max_path (omega arith) in
        rw (add-sub_cancel_left (m * dir_width + 2) max_path)
        (ap (λ (x : List ℕ). take max_path (drop (m * dir_width + 2) x)) (sym F.flat) ∙ ap (λ (k : ℕ). take max_path (drop (k * dir_width + 2) (flat_dirs cap (dirs_of b m)))) (sym n) ∙ r)

    -- a row laid there is one directory more
    pub dir_pushed : (x e : List ℕ) → length x ≤ max_path → e ≡ laid b (m * dir_width) (dir_row x) → (dirs_of e (m + 1) ≡ dirs_of b m ++ (x ∷ [])) × FlatDirs cap (m + 1) e
    unfolding flat_dirs
    dir_pushed x e s q =
        let n : length (dirs_of b m) ≡ m = length_dirs b m in
        let t : laid b (m * dir_width) (dir_row x) ≡ flat_dirs cap (dirs_of b m ++ (x ∷ [])) =
        ap (λ (y : List ℕ). laid y (m * dir_width) (dir_row x)) (sym F.flat)
        ∙ ap (λ (k : ℕ). laid (flat_dirs cap (dirs_of b m)) (k * dir_width) (dir_row x)) (sym n)
        ∙ flat_push dir_row dir_width row_wide cap (dirs_of b m) (omega arith) x in
        dirs_of_lem cap (m + 1) (dirs_of b m ++ (x ∷ [])) e (length-append (dirs_of b m) (x ∷ []) ∙ ap (λ (k : ℕ). k + 1) n) (omega arith) (short_snoc (dirs_of b m) x (dirs_short b m) s) (q ∙ t)
