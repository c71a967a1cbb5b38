-- Buffers that pass the tests of sizes, rest and fit are the flat form of their view, and the other way round.
use Prim.Native.Nat.{ℕ, zero, suc, ◌+◌, ◌-◌, ◌*◌, ◌≤◌, ◌<◌, min}
use mathlib.Core.Path.{◌≡◌, refl, sym, ap, ap₂, ◌∙◌}
use mathlib.Core.List.{List, [], ◌∷◌, ◌++◌, append_assoc}
use mathlib.Core.Bool.{Bool, true}
use native.Mathlib.Omega.{arith}
use native.Mathlib.Nat.{add-zero, add-sub_cancel_left}
use lib.Dec.{leb}
use Rattle.std.proofs.lemmas.Bool.Decides.{nat_tests}
use lib.ListN.{length, take, drop, get_or, replicate, length-drop, length-take, take-append-drop, get_or-eq_default}
use lib.Seq.{length-take-le, take_all, drop-drop, get_or-drop}
use borrow.Author.Tests.{leb-true, eqb-true, eq-eqb, le-leb}
pub use Rattle.lists.specs.Bools.{both, and_of}
use Rattle.limits.specs.Limits.{max_path, row_width, dir_width}
use Rattle.lists.specs.Runs.{all_of, tab, all_at, get_or_tab}
use Rattle.lists.specs.Same.{same_bytes, same_bytes_refl, same_bytes_eq}
use Rattle.lists.specs.Blocks.{pad, pad_fits, cat, length_cat, get_or_pad, flat_at, flat_part}
use Rattle.le.specs.Le.{le, unle, field}
use Rattle.le.proofs.Fields.{unle_le}
use Rattle.le.proofs.Parts.{glue}
use Rattle.text.specs.Greatest.{greatest, greatest_zero}
use Rattle.slot_rows.specs.Rows.{rows_of, row_from, row_nums, row_name, path_of, mark_of, flat_nums, flat_names, Short, Flat}
use Rattle.slot_rows.proofs.InBuffers.{nums_wide, name_wide, length_rows}
use Rattle.dir_rows.specs.Rows.{dir_row, dir_at, dirs_of, flat_dirs, FlatDirs}
use Rattle.dir_rows.proofs.InBuffer.{row_wide, length_dirs, dir_short, dir_length, dir_part}
use Rattle.pool_state.specs.declared.Pool.{Pool}
use Rattle.pool_state.specs.State.{Bufs, bufs}
use Rattle.pool_state.specs.Reads.{Reads}
use Rattle.pool_test.specs.Test.{sizes_ok, is_zero, cut_out, rest_ok, bare_ok, row_fits, dir_fits, fits_ok}
use Rattle.pool_test.specs.Keys.{Sized}

-- ---- tests

-- what holds at every index below n
pub below : (f : ℕ → Bool) (n j : ℕ) → all_of f 0 n ≡ true → j < n → f j ≡ true
below f n j e h = all_at f 0 n j e (omega arith) (omega arith)

pub sized : (q : Pool) (l n d : ℕ) → sizes_ok q l n d ≡ true → Sized q l n d
unfolding sizes_ok
sized q l n d e =
    record {
      rows = grind (arith, nat_tests, e);
      dir_rows_lem = grind (arith, nat_tests, e);
      held = grind (arith, nat_tests, e);
      dirs = grind (arith, nat_tests, e);
      free = grind (arith, nat_tests, e);
      begun = grind (arith, nat_tests, e);
      counted = grind (arith, nat_tests, e);
      nums_long = grind (arith, nat_tests, e);
      names_long = grind (arith, nat_tests, e);
      dirs_long = grind (arith, nat_tests, e);
      queue_long = grind (arith, nat_tests, e);
    }

pub sized_tested : (b : Bufs) → Reads b → sizes_ok b.pool (length b.nums) (length b.names) (length b.dirs) ≡ true
unfolding sizes_ok
sized_tested b R = grind (arith, nat_tests)

-- ---- zeros

zeros : (l : List ℕ) → is_zero l ≡ true → l ≡ replicate (length l) 0
unfolding is_zero
zeros l e = greatest_zero l (eqb-true _ _ e)

zero_front : (l : List ℕ) (k : ℕ) → ((i : ℕ) → i < k → get_or l i 0 ≡ 0) → greatest (take k l) ≡ 0
unfolding greatest
zero_front l zero h = refl
zero_front [] (suc k) h = refl
zero_front (x ∷ l) (suc k) h = omega (arith, h 0 (omega arith), zero_front l k (λ i p. h (suc i) (omega arith)))

-- a part is zero if all its cells are
pub zero_part : (l : List ℕ) (a e : ℕ) → ((j : ℕ) → a ≤ j → j < e → get_or l j 0 ≡ 0) → is_zero (cut_out l a e) ≡ true
unfolding is_zero
zero_part l a e h =
    eq-eqb _ _ (zero_front (drop a l) (e - a) (λ i p. get_or-drop a l i 0 ∙ h (a + i) (omega arith) (omega arith)))

pub part_rest : (l : List ℕ) (a : ℕ) → cut_out l a (length l) ≡ drop a l
part_rest l a = take_all (length l - a) (drop a l) (simp length-drop (omega arith))

-- the front of a list whose rest is zero, filled up again
refill : (w n : ℕ) (c l : List ℕ) → c ++ drop n l ≡ l → length c ≡ n → n ≤ w → length l ≡ w → is_zero (cut_out l n (length l)) ≡ true → pad w c ≡ l
refill w n c l e k h m z =
    let y : length (drop n l) ≡ w - length c = length-drop n l ∙ rw (m, k) in
    pad_fits w c (omega arith) ∙ rw (← y, ← zeros (drop n l) (rw (part_rest l n) at z)) e

-- ---- slot rows

record Fit (l s : List ℕ) : Type 0 where
  low : get_or l 0 0 ≤ 2
  brief : get_or l 1 0 ≤ max_path
  fill : take (max_path - get_or l 1 0) (drop (get_or l 1 0) s) ≡ replicate (max_path - get_or l 1 0) 0
  bare : get_or l 0 0 ≡ 0 → (get_or l 1 0 ≡ 0) × (get_or l 2 0 ≡ 0)

take_four : (l : List ℕ) → 4 ≤ length l → take row_width l ≡ get_or l 0 0 ∷ get_or l 1 0 ∷ get_or l 2 0 ∷ get_or l 3 0 ∷ []
take_four [] h = absurd (omega arith)
take_four (a ∷ []) h = absurd (omega arith)
take_four (a ∷ b ∷ []) h = absurd (omega arith)
take_four (a ∷ b ∷ c ∷ []) h = absurd (omega arith)
take_four (a ∷ b ∷ c ∷ d ∷ l) h = refl

from_nums : (m k n g : ℕ) (s : List ℕ) → m ≤ 2 → k ≤ length s → (m ≡ 0 → (k ≡ 0) × (n ≡ 0)) → row_nums (row_from m k n g s) ≡ m ∷ k ∷ n ∷ g ∷ []
unfolding row_nums row_from mark_of
from_nums zero k n g s a h b = let z = b refl in rw (z.0, z.1)
from_nums (suc zero) k n g s a h b = rw (length-take-le k s h)
from_nums (suc (suc zero)) k n g s a h b = rw (length-take-le k s h)
from_nums (suc (suc (suc m))) k n g s a h b = absurd (omega arith)

from_path : (m k n g : ℕ) (s : List ℕ) → m ≤ 2 → (m ≡ 0 → (k ≡ 0) × (n ≡ 0)) → path_of (row_from m k n g s) ≡ take k s
unfolding path_of row_from
from_path zero k n g s a b = let z = b refl in rw z.0
from_path (suc zero) k n g s a b = refl
from_path (suc (suc zero)) k n g s a b = refl
from_path (suc (suc (suc m))) k n g s a b = absurd (omega arith)

-- a front, zero filled, is the longer front whose rest is zero
pad_take : (w k : ℕ) (s : List ℕ) → k ≤ w → w ≤ length s → take (w - k) (drop k s) ≡ replicate (w - k) 0 → pad w (take k s) ≡ take w s
pad_take w k s a b e =
    let n : length (take k s) ≡ k = length-take-le k s (omega arith) in
    let z : k + (w - k) ≡ w = omega arith in
    pad_fits w (take k s) (omega arith)
    ∙ ap (λ (i : ℕ). take k s ++ replicate (w - i) 0) n
    ∙ ap (λ (t : List ℕ). take k s ++ t) (sym e)
    ∙ glue k (w - k) s refl refl
    ∙ ap (λ (i : ℕ). take i s) z

rows_back : (n : ℕ) (l s : List ℕ) → n * row_width ≤ length l → n * max_path ≤ length s → ((j : ℕ) → j < n → Fit (drop (j * row_width) l) (drop (j * max_path) s))
    → (cat row_nums (rows_of l s n) ++ drop (n * row_width) l ≡ l) × (cat row_name (rows_of l s n) ++ drop (n * max_path) s ≡ s) × Short (rows_of l s n)
unfolding rows_of cat row_name path_of
rows_back zero l s a b f = (refl, refl, λ i. omega arith)
rows_back (suc n) l s a b f =
    let F : Fit l s = f 0 (omega arith) in
    let p : 4 ≤ length l = omega arith in
    let q : max_path ≤ length s = omega arith in
    let ih =
    rows_back n (drop row_width l) (drop max_path s) (simp length-drop (omega arith)) (simp length-drop (omega arith))
    (λ j h. rw (drop-drop (j * row_width) 4 l, drop-drop (j * max_path) max_path s) (again j h)) in
    let u : suc n * row_width ≡ row_width + n * row_width = omega arith in
    let v : suc n * max_path ≡ max_path + n * max_path = omega arith in (
      rw (append_assoc, u, ← drop-drop (n * row_width) 4 l, ih.0, from_nums (get_or l 0 0) (get_or l 1 0) (get_or l 2 0) (get_or l 3 0) s F.low (omega (arith, F.brief)) F.bare)
          (ap (λ (x : List ℕ). x ++ drop row_width l) (sym (take_four l p)) ∙ take-append-drop 4 l),
      rw (append_assoc, v, ← drop-drop (n * max_path) max_path s, ih.1, from_path (get_or l 0 0) (get_or l 1 0) (get_or l 2 0) (get_or l 3 0) s F.low F.bare, pad_take max_path (get_or l 1 0) s F.brief q F.fill)
          (take-append-drop max_path s),
      short F ih.2,
    )
  where
    again : (j : ℕ) → j < n → Fit (drop (row_width + j * row_width) l) (drop (max_path + j * max_path) s)
    again j h =
        let u : suc j * row_width ≡ row_width + j * row_width = omega arith in
        let v : suc j * max_path ≡ max_path + j * max_path = omega arith in
        rw (← u, ← v) (f (suc j) (omega arith))

    short : Fit l s → Short (rows_of (drop row_width l) (drop max_path s) n) → Short (row_from (get_or l 0 0) (get_or l 1 0) (get_or l 2 0) (get_or l 3 0) s ∷ rows_of (drop row_width l) (drop max_path s) n)
    short F h zero = rw (from_path (get_or l 0 0) (get_or l 1 0) (get_or l 2 0) (get_or l 3 0) s F.low F.bare) (simp length-take (omega (arith, F.brief)))
    short F h (suc i) = h i

bare_of : (m k n : ℕ) → bare_ok m k n ≡ true → m ≡ 0 → (k ≡ 0) × (n ≡ 0)
unfolding bare_ok
bare_of m k n e z = (grind (arith, nat_tests), grind (arith, nat_tests))

bare_tested : (m k n : ℕ) → (m ≡ 0 → (k ≡ 0) × (n ≡ 0)) → bare_ok m k n ≡ true
unfolding bare_ok
bare_tested m k n h = grind (arith, nat_tests)

-- the test of row j, on the lists from row j on
fit_of : (l s : List ℕ) (j : ℕ) → j * max_path + max_path ≤ length s → row_fits l s j ≡ true → Fit (drop (j * row_width) l) (drop (j * max_path) s)
unfolding row_fits
fit_of l s j h e =
    let e1 = both (leb (get_or l (j * row_width) 0) 2) _ e in
    let e2 = both (leb (get_or l (j * row_width + 1) 0) max_path) _ e1.1 in
    let e3 = both (bare_ok (get_or l (j * row_width) 0) (get_or l (j * row_width + 1) 0) (get_or l (j * row_width + 2) 0)) _ e2.1 in
    let m : get_or (drop (j * row_width) l) 0 0 ≡ get_or l (j * row_width) 0 = get_or-drop (j * row_width) l 0 0 ∙ rw add-zero in
    let k : get_or (drop (j * row_width) l) 1 0 ≡ get_or l (j * row_width + 1) 0 = get_or-drop (j * row_width) l 1 0 in
    let n : get_or (drop (j * row_width) l) 2 0 ≡ get_or l (j * row_width + 2) 0 = get_or-drop (j * row_width) l 2 0 in
    let a : get_or l (j * row_width) 0 ≤ 2 = leb-true _ _ e1.0 in
    let b : get_or l (j * row_width + 1) 0 ≤ max_path = leb-true _ _ e2.0 in
    record {
      low = omega arith;
      brief = omega arith;
      fill = rw k (tail (get_or l (j * row_width + 1) 0) b e3.1);
      bare = λ q. let y = bare_of _ _ _ e3.0 (sym m ∙ q) in (k ∙ y.0, n ∙ y.1);
    }
  where
    tail : (k : ℕ) → k ≤ max_path → is_zero (cut_out s (j * max_path + k) (j * max_path + max_path)) ≡ true → take (max_path - k) (drop k (drop (j * max_path) s)) ≡ replicate (max_path - k) 0
    tail k b e =
        let z : j * max_path + max_path - (j * max_path + k) ≡ max_path - k = omega arith in
        let y : take (max_path - k) (drop k (drop (j * max_path) s)) ≡ cut_out s (j * max_path + k) (j * max_path + max_path) = rw (drop-drop k (j * max_path) s, z) in
        let n : length (cut_out s (j * max_path + k) (j * max_path + max_path)) ≡ max_path - k = rw z (length-take-le (max_path - k) (drop (j * max_path + k) s) (simp length-drop (omega arith))) in
        y ∙ zeros (cut_out s (j * max_path + k) (j * max_path + max_path)) e ∙ rw n

rows_flat_of : (cap n : ℕ) (l s : List ℕ) → n ≤ cap → length l ≡ cap * row_width → length s ≡ cap * max_path
    → is_zero (cut_out l (n * row_width) (length l)) ≡ true → is_zero (cut_out s (n * max_path) (length s)) ≡ true → all_of (row_fits l s) 0 n ≡ true → Flat cap n l s
unfolding flat_nums flat_names
rows_flat_of cap n l s h a b x y f =
    let r = rows_back n l s (omega arith) (omega arith) (λ j k. fit_of l s j (omega arith) (below (row_fits l s) n j f k)) in
    record {
      few = h;
      nums = refill (cap * row_width) (n * row_width) _ l r.0 (length_cat row_nums 4 nums_wide (rows_of l s n) ∙ rw (length_rows l s n)) (omega arith) a x;
      names = refill (cap * max_path) (n * max_path) _ s r.1 (length_cat row_name max_path name_wide (rows_of l s n) ∙ rw (length_rows l s n)) (omega arith) b y;
      short = r.2;
    }

-- the same of whole buffers
pub fit_rows : (q : Pool) (l s b : List ℕ) → sizes_ok q (length l) (length s) (length b) ≡ true → rest_ok (bufs q l s b) ≡ true → fits_ok (bufs q l s b) ≡ true
    → Flat q.chosen.rows q.held l s
unfolding rest_ok fits_ok
fit_rows q l s b e r f =
    let S = sized q (length l) (length s) (length b) e in
    rows_flat_of q.chosen.rows q.held l s S.held S.nums_long S.names_long (grind (arith, nat_tests)) (grind (arith, nat_tests)) (grind (arith, nat_tests))

-- and the other way round
pub row_tested : (b : Bufs) → Reads b → (i : ℕ) → i < b.pool.held → row_fits b.nums b.names i ≡ true
unfolding row_fits
row_tested b R i h =
    and_of _ _ (le-leb _ _ (R.marks i h)) (and_of _ _ (le-leb _ _ (R.short i h))
    (and_of _ _ (bare_tested _ _ _ (R.bare i h)) (zero_part b.names _ _ name)))
  where
    name : (j : ℕ) → i * max_path + get_or b.nums (i * row_width + 1) 0 ≤ j → j < i * max_path + max_path → get_or b.names j 0 ≡ 0
    name j p q =
        let z : j ≡ i * max_path + (j - i * max_path) = omega arith in
        ap (λ (k : ℕ). get_or b.names k 0) z ∙ R.fill i (j - i * max_path) h (omega arith) (omega arith)

-- ---- directory rows

module _ (b : List ℕ) (j : ℕ) (room : j * dir_width + dir_width ≤ length b) where
  k : ℕ
  k = field b (j * dir_width) 2

  -- a row that fits is the row of what it spells
  row_of : dir_fits b j ≡ true → dir_row (dir_at b j) ≡ take dir_width (drop (j * dir_width) b)
  unfolding dir_fits dir_row k
  row_of e =
      let e1 = both (same_bytes (le 2 k) (take 2 (drop (j * dir_width) b))) _ e in
      let e2 = both (leb k max_path) _ e1.1 in
      let s : k ≤ max_path = leb-true _ _ e2.0 in
      let n : length (dir_at b j) ≡ k = dir_length b j room ∙ min_left s in
      let d : dir_at b j ≡ take k (drop (j * dir_width + 2) b) =
      sym (dir_part b j k (sym n)) ∙ ap (λ (i : ℕ). take i (drop (j * dir_width + 2) b)) (add-sub_cancel_left (j * dir_width + 2) k) in
      let p : pad max_path (dir_at b j) ≡ take max_path (drop (j * dir_width + 2) b) = ap (pad max_path) d ∙ pad_take max_path k (drop (j * dir_width + 2) b) s (simp length-drop (omega arith)) (tail s e2.1) in
      ap₂ (λ (x y : List ℕ). x ++ y) (ap (le 2) n ∙ same_bytes_eq _ _ e1.0) (p ∙ ap (take max_path) (sym (drop-drop 2 (j * dir_width) b)))
      ∙ glue 2 max_path (drop (j * dir_width) b) refl refl
    where
      min_left : k ≤ max_path → min k max_path ≡ k
      min_left h = omega arith

      tail : k ≤ max_path → is_zero (cut_out b (j * dir_width + 2 + k) (j * dir_width + dir_width)) ≡ true → take (max_path - k) (drop k (drop (j * dir_width + 2) b)) ≡ replicate (max_path - k) 0
      tail h e =
          let z : j * dir_width + dir_width - (j * dir_width + 2 + k) ≡ max_path - k = omega arith in
          let y : take (max_path - k) (drop k (drop (j * dir_width + 2) b)) ≡ cut_out b (j * dir_width + 2 + k) (j * dir_width + dir_width) = rw (drop-drop k (j * dir_width + 2) b, z) in
          let n : length (cut_out b (j * dir_width + 2 + k) (j * dir_width + dir_width)) ≡ max_path - k = rw z (length-take-le (max_path - k) (drop (j * dir_width + 2 + k) b) (simp length-drop (omega arith))) in
          y ∙ zeros (cut_out b (j * dir_width + 2 + k) (j * dir_width + dir_width)) e ∙ rw n

dirs_back : (b : List ℕ) (i k : ℕ) → (i + k) * dir_width ≤ length b → ((j : ℕ) → i ≤ j → j < i + k → dir_fits b j ≡ true)
    → cat dir_row (tab (dir_at b) i k) ++ drop ((i + k) * dir_width) b ≡ drop (i * dir_width) b
unfolding cat tab
dirs_back b i zero h f = rw add-zero
dirs_back b i (suc k) h f =
    let z : (i + suc k) * dir_width ≡ (suc i + k) * dir_width = omega arith in
    let y : i * dir_width + dir_width ≡ suc i * dir_width = omega arith in
    append_assoc (dir_row (dir_at b i)) (cat dir_row (tab (dir_at b) (suc i) k)) (drop ((i + suc k) * dir_width) b)
    ∙ ap₂ (λ (x t : List ℕ). x ++ t) (row_of b i (omega arith) (f i (omega arith) (omega arith)))
    (ap (λ (n : ℕ). cat dir_row (tab (dir_at b) (suc i) k) ++ drop n b) z ∙ dirs_back b (suc i) k (omega arith) (λ j p q. f j (omega arith) (omega arith))
    ∙ ap (λ (n : ℕ). drop n b) (sym y) ∙ sym (drop-drop dir_width (i * dir_width) b))
    ∙ take-append-drop dir_width (drop (i * dir_width) b)

dirs_flat_of : (cap m : ℕ) (b : List ℕ) → m ≤ cap → length b ≡ cap * dir_width → is_zero (cut_out b (m * dir_width) (length b)) ≡ true → all_of (dir_fits b) 0 m ≡ true → FlatDirs cap m b
unfolding flat_dirs dirs_of
dirs_flat_of cap m b h a z f =
    let z₀ : 0 * dir_width ≡ 0 = omega arith in
    let z₁ : m * dir_width ≡ (0 + m) * dir_width = omega arith in
    let r =
    ap (λ (n : ℕ). cat dir_row (tab (dir_at b) 0 m) ++ drop n b) z₁
    ∙ dirs_back b 0 m (omega arith) (λ j p q. below (dir_fits b) m j f (omega arith))
    ∙ ap (λ (n : ℕ). drop n b) z₀ in
    record {
      few = h;
      flat = refill (cap * dir_width) (m * dir_width) _ b r (length_cat dir_row dir_width row_wide (tab (dir_at b) 0 m) ∙ ap (λ (n : ℕ). n * dir_width) (length_dirs b m)) (omega arith) a z;
    }

pub fit_dirs : (b : Bufs) → Sized b.pool (length b.nums) (length b.names) (length b.dirs) → rest_ok b ≡ true → fits_ok b ≡ true
    → FlatDirs b.pool.chosen.dir_rows b.pool.dirs b.dirs
unfolding rest_ok fits_ok
fit_dirs b S r f =
    dirs_flat_of b.pool.chosen.dir_rows b.pool.dirs b.dirs S.dirs S.dirs_long (grind (arith, nat_tests)) (grind (arith, nat_tests))

-- and the other way round
pub dir_tested : (cap m : ℕ) (b : List ℕ) → FlatDirs cap m b → (j : ℕ) → j < m → dir_fits b j ≡ true
unfolding dir_fits flat_dirs dirs_of dir_row
dir_tested cap m b F j h =
    let ds = tab (dir_at b) 0 m in
    let d = get_or ds j [] in
    let n : length ds ≡ m = length_dirs b m in
    let u : length d ≤ max_path = rw (get_or_tab (dir_at b) 0 m j [] h) (dir_short b (0 + j)) in
    let t : take 2 (drop (j * dir_width) b) ≡ le 2 (length d) =
    ap (λ (x : List ℕ). take 2 (drop (j * dir_width) x)) (sym F.flat) ∙ flat_part dir_row dir_width row_wide cap ds j 2 [] (omega (arith, F.few)) (omega arith) (omega arith) in
    let k : field b (j * dir_width) 2 ≡ length d = ap unle t ∙ unle_le 2 (length d) (omega arith) in
    and_of _ _ (ap₂ same_bytes (ap (le 2) k) t ∙ same_bytes_refl (le 2 (length d))) (and_of _ _ (le-leb (field b (j * dir_width) 2) max_path (omega arith)) (zero_part b _ _ (tail n u k)))
  where
    tail : length (tab (dir_at b) 0 m) ≡ m → length (get_or (tab (dir_at b) 0 m) j []) ≤ max_path → field b (j * dir_width) 2 ≡ length (get_or (tab (dir_at b) 0 m) j [])
        → (i : ℕ) → j * dir_width + 2 + field b (j * dir_width) 2 ≤ i → i < j * dir_width + dir_width → get_or b i 0 ≡ 0
    tail n u k i p q =
        let ds = tab (dir_at b) 0 m in
        let d = get_or ds j [] in
        let z : i ≡ j * dir_width + suc (suc (i - (j * dir_width + 2))) = omega arith in
        ap (λ (x : List ℕ). get_or x i 0) (sym F.flat)
        ∙ ap (λ (x : ℕ). get_or (pad (cap * dir_width) (cat dir_row ds)) x 0) z
        ∙ flat_at dir_row dir_width row_wide cap ds j (suc (suc (i - (j * dir_width + 2)))) [] (omega (arith, F.few)) (omega arith) (omega arith)
        ∙ get_or_pad max_path d (i - (j * dir_width + 2)) u
        ∙ get_or-eq_default d 0 {n = i - (j * dir_width + 2)} (omega arith)

-- ---- the queue

cells_back : (n : ℕ) (q : List ℕ) → length q ≡ 64 → n ≤ 64 → is_zero (cut_out q n 64) ≡ true → pad 64 (take n q) ≡ q
cells_back n q k h z =
    refill 64 n (take n q) q (take-append-drop n q) (length-take-le n q (omega arith)) h k (rw k z)

pub fit_queue : (b : Bufs) → Sized b.pool (length b.nums) (length b.names) (length b.dirs) → rest_ok b ≡ true
    → pad 64 (take b.pool.free b.pool.queue) ≡ b.pool.queue
unfolding rest_ok
fit_queue b S r = cells_back b.pool.free b.pool.queue S.queue_long S.free (grind (arith, nat_tests))
