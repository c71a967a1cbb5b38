-- The loops of the order: a half of what is left is set aside at each look, and each element goes to its place among those behind it.
use Rattle.std.specs.declared.cmp.Ordering.{Ordering}
use Rattle.std.specs.declared.cmp.Ordering.TheVariants.{Equal, Greater, Less}
use Rattle.std.specs.Ordering.{is_lt}
use Prim.Native.Nat.{ℕ, suc, ◌+◌, ◌-◌, ◌/◌, ◌%◌, ◌<◌, ◌≤◌}
use native.Mathlib.Omega.{arith}
use native.Mathlib.Nat.{add-sub_cancel_left}
use mathlib.Core.Path.{◌≡◌, refl, sym, ap, ◌∙◌}
use mathlib.Core.Bool.{Bool, true, false}
use mathlib.Core.List.{List, [], ◌∷◌, ◌++◌, append_assoc, append-nil}
use lib.ListN.{drop_of_length-le, length, get_or, take, drop, length-append, length-take, length-drop}
use lib.Seq.{take_all, take-length, drop-length, take_at, drop_at, drop-cons, take-suc, get_or-drop, length-take-le}
use Rattle.std.proofs.lemmas.List.Edits.{sets, sets-eq}
use Rattle.lists.specs.Sort.{sort, is_less}
use Rattle.path.specs.Path.{path_order}
use Rattle.row_order.specs.Spans.{spelled, AllInside, span_before}
use Rattle.row_order.specs.Risen.{Risen, Levels, place, place_is, place_few, risen_up, risen_sort, insert_place}
use Rattle.row_order.specs.InOrder.{before_levels, length_sorted, inside_get, inside_drop, inside_more, inside_sort}

-- ---- one comparison

pub way_told : (b : List ℕ) (x y : ℕ) (w : Ordering) (r : Bool)
    → w ≡ path_order (take (x / 512 + x % 512 - x / 512) (drop (x / 512) b)) (take (y / 512 + y % 512 - y / 512) (drop (y / 512) b))
    → r ≡ is_lt w → r ≡ span_before b x y
unfolding span_before spelled
way_told b x y w r e h =
    h ∙ less w ∙ (rw (add-sub_cancel_left (x / 512) (x % 512), add-sub_cancel_left (y / 512) (y % 512)) at (ap is_less e))
  where
    less : (v : Ordering) → is_lt v ≡ is_less v
    less Less = refl
    less Equal = refl
    less Greater = refl

-- ---- the place of x in s

-- x comes before none of the elements below low, and before all from high on.
pub record Narrow (less : ℕ → ℕ → Bool) (x : ℕ) (s : List ℕ) (low high : ℕ) : Type 0 where
  pub wide : low ≤ high
  pub fits : high ≤ length s
  pub below : (j : ℕ) → j < low → less x (get_or s j 0) ≡ false
  pub above : (j : ℕ) → high ≤ j → j < length s → less x (get_or s j 0) ≡ true

module _ (less : ℕ → ℕ → Bool) (x : ℕ) (s : List ℕ) where
  pub narrow_end : (low high : ℕ) → Narrow less x s low high → high ≤ low → low ≡ place less x s
  narrow_end low high n h = place_is less x s low (omega (arith, n.wide, n.fits)) n.below (λ k. n.above low h k)

  module _ (L : Levels less) (r : Risen less s) (low high mid : ℕ) (n : Narrow less x s low high) (a : low ≤ mid) (b : mid < high) where
    pub narrow_down : less x (get_or s mid 0) ≡ true → Narrow less x s low mid
    narrow_down e = record { wide = a; fits = omega (arith, n.fits); below = n.below; above = λ j h k. risen_up less L x s 0 mid j r h k e }

    pub narrow_up : less x (get_or s mid 0) ≡ false → Narrow less x s (mid + 1) high
    narrow_up e = record { wide = omega arith; fits = n.fits; below = λ j h. go j h (less x (get_or s j 0)) refl; above = n.above }
      where
        go : (j : ℕ) → j < mid + 1 → (t : Bool) → less x (get_or s j 0) ≡ t → t ≡ false
        go j h true f = sym (risen_up less L x s 0 j mid r (omega arith) (omega (arith, n.fits)) f) ∙ e
        go j h false f = refl

-- An element of what stands behind the first.
pub behind : (b l : List ℕ) (mid : ℕ) {t : Bool} → span_before b (get_or l 0 0) (get_or l (mid + 1) 0) ≡ t → span_before b (get_or l 0 0) (get_or (drop 1 l) mid 0) ≡ t
behind b l mid e = let z : mid + 1 ≡ 1 + mid = omega arith in rw (get_or-drop 1 l mid 0, ← z) e

-- ---- each to its place

pub sort_start : (b d : List ℕ) → d ≡ take (length d) d ++ sort (span_before b) (drop (length d) d)
unfolding sort
sort_start b d = rw (drop-length, take-length) (sym (append-nil d))

pub sorted_long : (b d₀ d : List ℕ) (i : ℕ) → d ≡ take i d₀ ++ sort (span_before b) (drop i d₀) → length d ≡ length d₀
sorted_long b d₀ d i e =
    let s = length_sorted (span_before b) (drop i d₀) in
    ap length e ∙ simp (length-append, length-take) (omega (arith, s, length-drop i d₀))

-- What is lent to find the place, behind turn i: element i of the list, and the sort of those behind it.
module _ (b d₀ d : List ℕ) (i p : ℕ) (z : i ≡ suc p) (h : p < length d₀) (e : d ≡ take i d₀ ++ sort (span_before b) (drop i d₀)) where
  abbrev rest : List ℕ
  rest = sort (span_before b) (drop (suc p) d₀)

  whole : d ≡ take p d₀ ++ (get_or d₀ p 0 ∷ rest)
  whole = e ∙ rw (z, take-suc d₀ p 0 h) (append_assoc (take p d₀) (get_or d₀ p 0 ∷ []) rest)

  front : length (take p d₀) ≡ p
  front = length-take-le p d₀ (omega arith)

  behind_front : drop p d ≡ get_or d₀ p 0 ∷ rest
  behind_front = ap (drop p) whole ∙ drop_at (take p d₀) (get_or d₀ p 0 ∷ rest) p front

  part_is : take (length d - p) (drop p d) ≡ get_or d₀ p 0 ∷ rest
  part_is = take_all (length d - p) (drop p d) (rw length-drop (omega arith)) ∙ behind_front

  part_long : length (take (length d - p) (drop p d)) ≡ suc (length rest)
  part_long = ap length part_is

  part_inside : AllInside b d₀ → AllInside b (take (length d - p) (drop p d))
  part_inside a = rw part_is (inside_more b (get_or d₀ p 0) rest (inside_get b d₀ p a h) (inside_sort b (drop (suc p) d₀) (inside_drop b d₀ (suc p) a)))

  part_risen : Risen (span_before b) (drop 1 (take (length d - p) (drop p d)))
  part_risen = rw part_is (risen_sort (span_before b) (before_levels b) (drop (suc p) d₀))

  -- so the element's place can be looked for
  pub part_ready : AllInside b d₀
      → AllInside b (take (length d - p) (drop p d)) × (0 < length (take (length d - p) (drop p d))) × Risen (span_before b) (drop 1 (take (length d - p) (drop p d)))
  part_ready a = (part_inside a, omega (arith, part_long), part_risen)

  module _ (k : ℕ) (g : k ≡ place (span_before b) (get_or (take (length d - p) (drop p d)) 0 0) (drop 1 (take (length d - p) (drop p d)))) where
    placed : k ≡ place (span_before b) (get_or d₀ p 0) rest
    placed = rw part_is at g

    pub place_fits : p + k + 1 ≤ length d
    place_fits = omega (arith, ap length behind_front, length-drop p d, placed, place_few (span_before b) (get_or d₀ p 0) rest)

    -- and with the element behind those that come before it one more is sorted
    pub sort_turn : (ys l : List ℕ) → ys ≡ drop 1 (take (p + k + 1 - p) (drop p d)) ++ take 1 (take (p + k + 1 - p) (drop p d))
        → l ≡ take p d ++ (ys ++ drop (p + k + 1 - p) (drop p d)) → l ≡ take p d₀ ++ sort (span_before b) (drop p d₀)
    unfolding sort
    sort_turn ys l f w =
        let x = get_or d₀ p 0 in
        let n : p + k + 1 - p ≡ suc k = omega arith in
        let y : ys ≡ take k rest ++ x ∷ [] = rw (n, behind_front) at f in
        let t : take p d ≡ take p d₀ = ap (take p) whole ∙ take_at (take p d₀) (x ∷ rest) p front in
        w ∙ rw (t, y, n, behind_front, append_assoc, placed, drop-cons d₀ p 0 h) (ap (λ (r : List ℕ). take p d₀ ++ r) (sym (insert_place (span_before b) x rest)))

-- ---- a part that is written over

-- What is written over the first m elements is written over the front of the list.
pub sets_part : (d vs : List ℕ) (m : ℕ) → length vs ≡ m → m ≤ length d → sets (take m d) 0 vs ++ drop m d ≡ sets d 0 vs
sets_part d vs m e h =
    let n : length (take m d) ≡ m = length-take-le m d h in
    let z : drop (0 + length vs) (take m d) ≡ [] = drop_of_length-le (take m d) (omega arith) in
    let k : 0 + length vs ≡ m = omega arith in
    ap (λ (x : List ℕ). x ++ drop m d) (sets-eq vs (take m d) 0 (omega arith) ∙ ap (λ (x : List ℕ). vs ++ x) z ∙ append-nil vs)
    ∙ sym (sets-eq vs d 0 (omega arith) ∙ ap (λ (n : ℕ). vs ++ drop n d) k)
