-- Records and flat numbers are the same: there and back, and row by row.
use Rattle.std.specs.Prelude.{◌≡◌, refl, List, [], ◌∷◌, ◌++◌, map, ℕ, zero, suc, ◌+◌, ◌-◌, ◌*◌, ◌≤◌, ◌<◌, length, get_or, take, drop, replicate}
use Rattle.std.proofs.Common.{sym, ap, ◌∙◌, append-nil, arith, drop_of_length-le, drop-cons, length-take-le, take_all, take_at}
use Rattle.std.proofs.Math.Seq.{drop-length}
use Rattle.limits.specs.Limits.{row_width}
use Rattle.lists.specs.Blocks.{pad, pad_fits, take_pad, cat, length_cat}
use Rattle.slot_rows.specs.Rows.{Row, unbound, bound, row_nums}
use Rattle.slot_records.specs.declared.Slot.{Slot}
use Rattle.slot_records.specs.Records.{none, slot_of, slot_nums, nums_of, slot_in, slots_of, loaded, stored, flat_of, cleared}

-- The numbers of records give the records back.
pub slots_nums : (rs : List Slot) → slots_of (nums_of rs) ≡ rs
unfolding slots_of nums_of cat slot_nums
slots_nums [] = refl
slots_nums (r ∷ rs) = ap (λ (x : List Slot). r ∷ x) (slots_nums rs)

-- The records of whole rows of numbers give the numbers back.
pub nums_slots : (k : ℕ) (s : List ℕ) → length s ≡ k * row_width → nums_of (slots_of s) ≡ s
unfolding slots_of nums_of cat slot_nums
nums_slots zero [] e = refl
nums_slots zero (m ∷ s) e = absurd (omega arith)
nums_slots (suc k) [] e = refl
nums_slots (suc k) (m ∷ []) e = absurd (omega arith)
nums_slots (suc k) (m ∷ a ∷ []) e = absurd (omega arith)
nums_slots (suc k) (m ∷ a ∷ n ∷ []) e = absurd (omega arith)
nums_slots (suc k) (m ∷ a ∷ n ∷ g ∷ s) e = ap (λ (x : List ℕ). m ∷ a ∷ n ∷ g ∷ x) (nums_slots k s (omega arith))

-- As many records as there are rows of numbers.
pub length_slots : (k : ℕ) (s : List ℕ) → length s ≡ k * row_width → length (slots_of s) ≡ k
unfolding slots_of
length_slots zero [] e = refl
length_slots zero (m ∷ s) e = absurd (omega arith)
length_slots (suc k) [] e = absurd (omega arith)
length_slots (suc k) (m ∷ []) e = absurd (omega arith)
length_slots (suc k) (m ∷ a ∷ []) e = absurd (omega arith)
length_slots (suc k) (m ∷ a ∷ n ∷ []) e = absurd (omega arith)
length_slots (suc k) (m ∷ a ∷ n ∷ g ∷ s) e = ap suc (length_slots k s (omega arith))

pub length_nums : (rs : List Slot) → length (nums_of rs) ≡ length rs * row_width
unfolding nums_of slot_nums
length_nums rs = length_cat slot_nums 4 (λ r. refl) rs

-- A buffer of just the rows' length is all written, and all read.
pub loaded_all : (rs : List Slot) (s : List ℕ) → length s ≡ length rs * row_width → loaded rs s ≡ nums_of rs
unfolding loaded
loaded_all rs s e = rw (drop_of_length-le s {i = length rs * row_width} (omega arith)) (append-nil (nums_of rs))

pub stored_all : (s : List ℕ) (rs : List Slot) → length s ≡ length rs * row_width → stored s rs ≡ slots_of s
unfolding stored
stored_all s rs e = ap slots_of (take_all (length rs * row_width) s (omega arith))

-- Rows that were loaded are stored back as they were.
pub stored_loaded : (rs : List Slot) (s : List ℕ) → stored (loaded rs s) rs ≡ rs
unfolding stored loaded
stored_loaded rs s = ap slots_of (take_at (nums_of rs) (drop (length rs * row_width) s) (length rs * row_width) (length_nums rs)) ∙ slots_nums rs

-- The numbers of the records of rows are those of crate slot_rows.
pub nums_rows : (rs : List Row) → nums_of (map slot_of rs) ≡ cat row_nums rs
unfolding nums_of cat slot_nums slot_of row_nums
nums_rows [] = refl
nums_rows (unbound g ∷ rs) = ap (λ (x : List ℕ). 0 ∷ 0 ∷ 0 ∷ g ∷ x) (nums_rows rs)
nums_rows (bound p f ∷ rs) = ap (λ (x : List ℕ). row_nums (bound p f) ++ x) (nums_rows rs)

drop_zeros : (k n : ℕ) → drop {A = ℕ} k (replicate n 0) ≡ replicate (n - k) 0
drop_zeros zero n = let e : n - 0 ≡ n = omega arith in rw e
drop_zeros (suc k) zero = let e : 0 - suc k ≡ 0 = omega arith in rw e
drop_zeros (suc k) (suc n) = let e : suc n - suc k ≡ n - k = omega arith in rw e (drop_zeros k n)

-- Rows that are loaded into zeros are zero filled.
pub zeros_loaded : (n : ℕ) (rs : List Slot) (z s : List ℕ) → length rs * row_width ≤ n → z ≡ replicate n 0 → s ≡ loaded rs z → s ≡ pad n (nums_of rs)
unfolding loaded
zeros_loaded n rs z s h e w =
    let k : length (nums_of rs) ≡ length rs * row_width = length_nums rs in
    w ∙ ap (λ (x : List ℕ). nums_of rs ++ drop (length rs * row_width) x) e ∙ ap (λ (x : List ℕ). nums_of rs ++ x) (drop_zeros (length rs * row_width) n ∙ ap (λ (x : ℕ). replicate (n - x) 0) (sym k)) ∙ sym (pad_fits n (nums_of rs) (omega arith))

drop_one : (s : List ℕ) (a b : ℕ) → a + 1 ≡ b → a < length s → drop a s ≡ get_or s a 0 ∷ drop b s
drop_one s a b e h =
    let z : b ≡ suc a = omega arith in
    rw z (drop-cons s a 0 h)

-- Where row i of the numbers is next, it is the first of the records that are left.
pub slot_next : (s : List ℕ) (i : ℕ) → i * row_width + row_width ≤ length s → slots_of (drop (i * row_width) s) ≡ slot_in s i ∷ slots_of (drop (i * row_width + row_width) s)
unfolding slots_of slot_in
slot_next s i h =
    let a = i * row_width in
    let d : drop a s ≡ get_or s a 0 ∷ get_or s (a + 1) 0 ∷ get_or s (a + 2) 0 ∷ get_or s (a + 3) 0 ∷ drop (a + 4) s =
    drop_one s a (a + 1) refl (omega arith)
    ∙ ap (λ (x : List ℕ). get_or s a 0 ∷ x) (drop_one s (a + 1) (a + 2) (omega arith) (omega arith)
    ∙ ap (λ (x : List ℕ). get_or s (a + 1) 0 ∷ x) (drop_one s (a + 2) (a + 3) (omega arith) (omega arith)
    ∙ ap (λ (x : List ℕ). get_or s (a + 2) 0 ∷ x) (drop_one s (a + 3) (a + 4) (omega arith) (omega arith)))) in
    ap slots_of d

-- At most 64 rows stand at the front of the zero filled array, and what is stored of an array are the rows at its front.
pub flat_front : (rs : List Slot) → length rs ≤ 64 → take (length rs * row_width) (flat_of rs) ≡ nums_of rs
unfolding flat_of
flat_front rs h =
    let k : length (nums_of rs) ≡ length rs * row_width = length_nums rs in
    ap (λ (x : ℕ). take x (flat_of rs)) (sym k) ∙ take_pad 256 (nums_of rs) (omega arith)

pub nums_stored : (s : List ℕ) (rs : List Slot) → length rs * row_width ≤ length s → nums_of (stored s rs) ≡ take (length rs * row_width) s
unfolding stored
nums_stored s rs h = nums_slots (length rs) (take (length rs * row_width) s) (length-take-le (length rs * row_width) s h)

nums_none : (n : ℕ) → nums_of (replicate n none) ≡ replicate (n * row_width) 0
unfolding nums_of cat slot_nums
nums_none zero = refl
nums_none (suc n) =
    let k : suc n * row_width ≡ suc (suc (suc (suc (n * row_width)))) = omega arith in
    rw k (ap (λ (x : List ℕ). 0 ∷ 0 ∷ 0 ∷ 0 ∷ x) (nums_none n))

-- Rows that are all zero: so are their numbers.
pub nums_cleared : (rs : List Slot) → nums_of (cleared (length rs) rs) ≡ replicate (length (nums_of rs)) 0
unfolding cleared
nums_cleared rs = rw (drop-length rs, append-nil (replicate (length rs) none), length_nums rs) (nums_none (length rs))
