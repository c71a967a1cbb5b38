-- What the loops do: what is written so far, with what is left laid over the rest, is the whole.
use mathlib.Core.Path.{◌≡◌, sym, ap, ◌∙◌}
use mathlib.Core.List.{List, [], ◌++◌, append-nil}
use Prim.Native.Nat.{ℕ, suc, ◌+◌, ◌*◌, ◌≤◌, ◌<◌}
use native.Mathlib.Numerals.{add-one}
use native.Mathlib.Omega.{arith}
use lib.ListN.{length, set, take, drop, drop_of_length-le}
use lib.Seq.{sets, sets-eq, drop-cons, length-take-le, get_or-take}
use Rattle.limits.specs.Limits.{row_width}
use Rattle.lists.specs.Blocks.{cat, sets_append}
use Rattle.slot_records.specs.declared.Slot.{Slot}
use Rattle.slot_records.specs.Records.{none, slot_at, slot_nums, nums_of, slot_in, slots_of, loaded, stored}
use Rattle.slot_records.specs.SameNumbers.{length_nums, length_slots, slot_next}

-- ---- from records to numbers

abbrev pub Loading : List Slot → List ℕ → ℕ → List ℕ → Type 0
Loading rs s i ns = sets ns (i * row_width) (nums_of (drop i rs)) ≡ loaded rs s

pub load_start : (rs : List Slot) (s : List ℕ) → length rs * row_width ≤ length s → Loading rs s 0 s
unfolding loaded
load_start rs s h =
    let k : length (nums_of rs) ≡ length rs * row_width = length_nums rs in
    let z : 0 + length (nums_of rs) ≡ length rs * row_width = omega arith in
    sets-eq (nums_of rs) s 0 (omega arith) ∙ ap (λ (x : ℕ). nums_of rs ++ drop x s) z

pub load_turn : (rs : List Slot) (s : List ℕ) (i : ℕ) (ns m : List ℕ) (r : Slot) → i < length rs → r ≡ slot_at rs i → m ≡ sets ns (i * row_width) (slot_nums r) → Loading rs s i ns → Loading rs s (i + 1) m
unfolding nums_of cat slot_nums
load_turn rs s i ns m r l f e h =
    let k : (i + 1) * row_width ≡ i * row_width + row_width = omega arith in
    rw (e, f, k, add-one i) (sets_append (slot_nums (slot_at rs i)) (nums_of (drop (suc i) rs)) ns (i * row_width) ∙ ap (λ (x : List Slot). sets ns (i * row_width) (nums_of x)) (sym (drop-cons rs i none l)) ∙ h)

pub load_end : (rs : List Slot) (s : List ℕ) (i : ℕ) (ns : List ℕ) → length rs ≤ i → Loading rs s i ns → ns ≡ loaded rs s
unfolding nums_of cat
load_end rs s i ns l h = ap (λ (x : List Slot). sets ns (i * row_width) (nums_of x)) (sym (drop_of_length-le rs l)) ∙ h

-- ---- from numbers to records

-- the numbers that are read
abbrev front : List ℕ → List Slot → List ℕ
front s rs = take (length rs * row_width) s

abbrev pub Storing : List ℕ → List Slot → ℕ → List Slot → Type 0
Storing s rs i l = sets l i (slots_of (drop (i * row_width) (front s rs))) ≡ stored s rs

pub store_start : (s : List ℕ) (rs : List Slot) → length rs * row_width ≤ length s → Storing s rs 0 rs
unfolding stored
store_start s rs h =
    let k : length (slots_of (front s rs)) ≡ length rs = length_slots (length rs) (front s rs) (length-take-le (length rs * row_width) s h) in
    let z : 0 + length (slots_of (front s rs)) ≡ length rs = omega arith in
    let d : drop (0 + length (slots_of (front s rs))) rs ≡ [] = drop_of_length-le rs {i = 0 + length (slots_of (front s rs))} (omega arith) in
    sets-eq (slots_of (front s rs)) rs 0 (omega arith) ∙ rw d (append-nil (slots_of (front s rs)))

slot_front : (s : List ℕ) (k i : ℕ) → i * row_width + row_width ≤ k → slot_in (take k s) i ≡ slot_in s i
unfolding slot_in
slot_front s k i h = rw (get_or-take k s (i * row_width) 0 (omega arith), get_or-take k s (i * row_width + 1) 0 (omega arith), get_or-take k s (i * row_width + 2) 0 (omega arith), get_or-take k s (i * row_width + 3) 0 (omega arith))

pub store_turn : (s : List ℕ) (rs : List Slot) (i : ℕ) (l m : List Slot) (r : Slot) → length rs * row_width ≤ length s → i < length rs → r ≡ slot_in s i → m ≡ set l i r → Storing s rs i l → Storing s rs (i + 1) m
store_turn s rs i l m r h n f e w =
    let k : (i + 1) * row_width ≡ i * row_width + row_width = omega arith in
    let y : length (front s rs) ≡ length rs * row_width = length-take-le (length rs * row_width) s h in
    let z : slot_in s i ≡ slot_in (front s rs) i = sym (slot_front s (length rs * row_width) i (omega arith)) in
    rw (e, f, z, k, add-one i) (ap (λ (x : List Slot). sets l i x) (sym (slot_next (front s rs) i (omega arith))) ∙ w)

pub store_end : (s : List ℕ) (rs : List Slot) (i : ℕ) (l : List Slot) → length rs * row_width ≤ length s → length rs ≤ i → Storing s rs i l → l ≡ stored s rs
unfolding slots_of
store_end s rs i l h n w =
    let y : length (front s rs) ≡ length rs * row_width = length-take-le (length rs * row_width) s h in
    let d : drop (i * row_width) (front s rs) ≡ [] = drop_of_length-le (front s rs) {i = i * row_width} (omega arith) in
    ap (λ (x : List ℕ). sets l i (slots_of x)) (sym d) ∙ w
