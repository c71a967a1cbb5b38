-- Parts of rows, picked by number: the loops that pick them, and what the parts that were picked spell.
use Prim.Native.Nat.{ℕ, zero, suc, ◌+◌, ◌-◌, ◌*◌, ◌/◌, ◌%◌, ◌<◌, ◌≤◌}
use native.Mathlib.Omega.{arith}
use Rattle.std.proofs.Common.{add-one, sym, ◌∙◌, length-set}
use Rattle.std.specs.Prelude.{◌≡◌, Bool, cond, set, drop}
use Rattle.std.proofs.Math.Path.{refl, ap, ap₂}
use Rattle.std.proofs.Math.Bool.{true, false}
use mathlib.Core.List.{List, [], ◌∷◌, map}
use Rattle.std.proofs.Math.ListN.{length, get_or, take, get_or-eq_default}
use Rattle.std.proofs.Math.Dec.{ltb}
use Rattle.std.proofs.lemmas.List.Edits.{sets}
use borrow.Author.Tests.{ltb-true, ltb-false}
use Rattle.limits.specs.Limits.{max_path, dir_width}
use Rattle.lists.specs.Runs.{range, range_more, range_end, get_or_tab}
use Rattle.lists.specs.Sort.{All, keep, keep_yes, keep_no, keep_all, all_keep, all_range}
use Rattle.slot_rows.specs.Rows.{Row, none, at, is_bound, path_of, rows_of, Flat}
use Rattle.slot_rows.proofs.InBuffers.{length_rows, name_part}
use Rattle.dir_rows.specs.Rows.{dir_at, dirs_of}
use Rattle.dir_rows.proofs.InBuffer.{length_dirs, dir_short, dir_part}
use Rattle.row_order.specs.Spans.{span, spelled, SpanInside, AllInside, file_span, dir_span, slot_of, file_spans, dir_spans}

-- ---- a loop that picks

-- What a closure answers below n, by its `post`, is g.
abbrev pub Answers : {F A : Type 0} → (F → ℕ → A → Type 0) → F → ℕ → (ℕ → A) → Type 0
Answers {F} {A} post c n g = (i : ℕ) (x : A) → i < n → post c i x → x ≡ g i

-- Behind row i, of n: count cells of l are written, and what is still to be picked makes the whole of it.
pub record Picking (f : ℕ → ℕ) (p : ℕ → Bool) (n : ℕ) (l₀ : List ℕ) (i count : ℕ) (l : List ℕ) : Type 0 where
  pub few : count ≤ i
  pub fits : i ≤ n
  pub long : length l ≡ length l₀
  pub counted : count + length (map f (keep p (range i (n - i)))) ≡ length (map f (keep p (range 0 n)))
  pub cells : sets l count (map f (keep p (range i (n - i)))) ≡ sets l₀ 0 (map f (keep p (range 0 n)))

module _ (f : ℕ → ℕ) (p : ℕ → Bool) (n : ℕ) (l₀ : List ℕ) where
  abbrev left : ℕ → List ℕ
  left i = map f (keep p (range i (n - i)))

  pub picking_start : Picking f p n l₀ 0 0 l₀
  picking_start =
      let z : n - 0 ≡ n = omega arith in
      record { few = omega arith; fits = omega arith; long = refl; counted = rw z (omega arith); cells = rw z }

  module _ (i count : ℕ) (l : List ℕ) (P : Picking f p n l₀ i count l) where
    pub picking_end : (whole : List ℕ) → n ≤ i → whole ≡ map f (keep p (range 0 n)) → (count ≡ length whole) × (l ≡ sets l₀ 0 whole)
    unfolding keep
    picking_end whole h w =
        let e : left i ≡ [] = ap (λ (r : List ℕ). map f (keep p r)) (range_end n i h) in
        (omega (arith, P.counted, ap length e, ap length w), (rw e at P.cells) ∙ ap (sets l₀ 0) (sym w))

    module _ (h : i < n) where
      yes : p i ≡ true → left i ≡ f i ∷ left (i + 1)
      yes e = ap (λ (r : List ℕ). map f (keep p r)) (range_more n i h) ∙ ap (map f) (keep_yes p i (range (i + 1) (n - (i + 1))) e)

      pub picking_yes : (v : ℕ) → p i ≡ true → v ≡ f i → Picking f p n l₀ (i + 1) (count + 1) (set l count v)
      picking_yes v e w = record {
        few = omega (arith, P.few);
        fits = omega arith;
        long = simp length-set P.long;
        counted = omega (arith, P.counted, ap length (yes e));
        cells = rw (w, add-one) ((rw (yes e) at P.cells));
      }

      pub picking_no : p i ≡ false → Picking f p n l₀ (i + 1) count l
      picking_no e =
          let s : left i ≡ left (i + 1) = ap (λ (r : List ℕ). map f (keep p r)) (range_more n i h) ∙ ap (map f) (keep_no p i (range (i + 1) (n - (i + 1))) e) in
          record { few = omega (arith, P.few); fits = omega arith; long = P.long; counted = (rw s at P.counted); cells = (rw s at P.cells) }

-- what is picked is no more than there are, and all of it passes what all rows do
pub picks_few : (f : ℕ → ℕ) (p : ℕ → Bool) (i k : ℕ) → length (map f (keep p (range i k))) ≤ k
unfolding keep range
picks_few f p i zero = omega arith
picks_few f p i (suc k) = go (p i) (picks_few f p (suc i) k)
  where
    go : (t : Bool) → length (map f (keep p (range (suc i) k))) ≤ k → length (map f (cond t (i ∷ keep p (range (suc i) k)) (keep p (range (suc i) k)))) ≤ suc k
    go true h = omega arith
    go false h = omega arith

pub picks_inside : (b : List ℕ) (f : ℕ → ℕ) (p : ℕ → Bool) (n : ℕ) → ((i : ℕ) → i < n → SpanInside b (f i)) → AllInside b (map f (keep p (range 0 n)))
unfolding AllInside
picks_inside b f p n h = mapped (keep p (range 0 n)) (all_keep p (λ (i : ℕ). SpanInside b (f i)) (range 0 n) (all_range (λ (i : ℕ). SpanInside b (f i)) 0 n (λ i a k. h i (omega arith))))
  where
    mapped : (l : List ℕ) → All (λ (i : ℕ). SpanInside b (f i)) l → All (SpanInside b) (map f l)
    mapped [] a = tt
    mapped (x ∷ l) a = (a.0, mapped l a.1)

-- picked by number, rows are what is kept of the rows
module _ {A B : Type 0} (q : A → Bool) (g : A → B) (d : A) where
  from_row : (f : ℕ → A) (i : ℕ) (rs : List A) → ((j : ℕ) → j < length rs → f (i + j) ≡ get_or rs j d)
      → map (λ (j : ℕ). g (f j)) (keep (λ (j : ℕ). q (f j)) (range i (length rs))) ≡ map g (keep q rs)
  unfolding keep range
  from_row f i [] h = refl
  from_row f i (r ∷ rs) h =
      let z : i + 0 ≡ i = omega arith in
      let e : f i ≡ r = ap f (sym z) ∙ h 0 (omega arith) in
      rw e (go (q r) e (from_row f (suc i) rs (λ j k. let s : suc i + j ≡ i + suc j = omega arith in ap f s ∙ h (suc j) (omega arith))))
    where
      go : (t : Bool) → f i ≡ r → map (λ (j : ℕ). g (f j)) (keep (λ (j : ℕ). q (f j)) (range (suc i) (length rs))) ≡ map g (keep q rs)
          → map (λ (j : ℕ). g (f j)) (cond t (i ∷ keep (λ (j : ℕ). q (f j)) (range (suc i) (length rs))) (keep (λ (j : ℕ). q (f j)) (range (suc i) (length rs)))) ≡ map g (cond t (r ∷ keep q rs) (keep q rs))
      go true e ih = ap₂ {C = List B} (λ x xs. x ∷ xs) (ap g e) ih
      go false e ih = ih

  pub picked_rows : (rs : List A) → map (λ (j : ℕ). g (get_or rs j d)) (keep (λ (j : ℕ). q (get_or rs j d)) (range 0 (length rs))) ≡ map g (keep q rs)
  picked_rows rs = from_row (λ (j : ℕ). get_or rs j d) 0 rs (λ j k. let z : 0 + j ≡ j = omega arith in ap (λ (x : ℕ). get_or rs x d) z)

-- the parts of the buffers' rows
pub file_spans_lem : (l s : List ℕ) (n : ℕ)
    → file_spans (rows_of l s n) ≡ map (file_span (rows_of l s n)) (keep (λ (i : ℕ). is_bound (at (rows_of l s n) i)) (range 0 n))
unfolding file_spans
file_spans_lem l s n = rw (length_rows l s n)

pub dir_spans_lem : (b : List ℕ) (m : ℕ) → dir_spans (dirs_of b m) ≡ map (dir_span (dirs_of b m)) (keep (λ (j : ℕ). true) (range 0 m))
unfolding dir_spans
dir_spans_lem b m =
    rw (length_dirs b m, keep_all (λ (j : ℕ). true) (range 0 m) (all_range (λ (j : ℕ). ◌≡◌ {A = Bool} true true) 0 m (λ j g h. refl)))

-- ---- what the parts of rows spell

part_spelled : (b : List ℕ) (start len : ℕ) → len < 512 → spelled b (span start len) ≡ take len (drop start b)
unfolding spelled
part_spelled b start len h =
    let q : (start * 512 + len) / 512 ≡ start = omega arith in
    let r : (start * 512 + len) % 512 ≡ len = omega arith in
    rw (q, r)

part_inside : (b : List ℕ) (start len : ℕ) → len < 512 → start + len ≤ length b → SpanInside b (span start len)
part_inside b start len h k = omega arith

-- what parts spell, one by one
pub spell_each : (b : List ℕ) (f : ℕ → ℕ) (g : ℕ → List ℕ) → ((i : ℕ) → spelled b (f i) ≡ g i) → (l : List ℕ) → map (spelled b) (map f l) ≡ map g l
spell_each b f g h [] = refl
spell_each b f g h (x ∷ l) = ap₂ {C = List (List ℕ)} (λ y ys. y ∷ ys) (h x) (spell_each b f g h l)

module _ (cap n : ℕ) (l s : List ℕ) (F : Flat cap n l s) where
  abbrev rs : List Row
  rs = rows_of l s n

  -- the part of a slot row lies in the names,
  pub file_inside : (i : ℕ) → i < n → SpanInside s (file_span rs i)
  unfolding file_span
  file_inside i h = part_inside s (i * max_path) (length (path_of (at rs i))) (omega (arith, F.short i)) (name_part cap n l s F i h _ refl).0

  -- and spells its path
  pub file_spelled : (i : ℕ) → spelled s (file_span rs i) ≡ path_of (at rs i)
  unfolding file_span path_of
  file_spelled i = part_spelled s (i * max_path) (length (path_of (at rs i))) (omega (arith, F.short i)) ∙ go (ltb i n) refl
    where
      go : (t : Bool) → ltb i n ≡ t → take (length (path_of (at rs i))) (drop (i * max_path) s) ≡ path_of (at rs i)
      go true e =
          let h : i < n = ltb-true i n e in
          let z : i * max_path + length (path_of (at rs i)) - i * max_path ≡ length (path_of (at rs i)) = omega arith in
          rw z at (name_part cap n l s F i h _ refl).1
      go false e = let g : at rs i ≡ none = get_or-eq_default rs none (omega (arith, ltb-false i n e, length_rows l s n)) in rw g

  -- and says which row it is
  pub file_slot_lem : (i : ℕ) → slot_of (file_span rs i) ≡ i
  unfolding file_span
  file_slot_lem i = omega (arith, F.short i)

module _ (m : ℕ) (b : List ℕ) (h : m * dir_width ≤ length b) where
  abbrev ds : List (List ℕ)
  ds = dirs_of b m

  pub row_spells : (j : ℕ) → j < m → get_or ds j [] ≡ dir_at b j
  unfolding dirs_of
  row_spells j k = let z : 0 + j ≡ j = omega arith in get_or_tab (dir_at b) 0 m j [] k ∙ ap (dir_at b) z

  pub row_short : (j : ℕ) → length (get_or ds j []) ≤ max_path
  row_short j = go (ltb j m) refl
    where
      go : (t : Bool) → ltb j m ≡ t → length (get_or ds j []) ≤ max_path
      go true e = rw (row_spells j (ltb-true j m e)) (dir_short b j)
      go false e = rw (get_or-eq_default ds [] {n = j} (omega (arith, ltb-false j m e, length_dirs b m))) (omega arith)

  pub dir_inside : (j : ℕ) → j < m → SpanInside b (dir_span ds j)
  unfolding dir_span
  dir_inside j k = part_inside b (j * dir_width + 2) (length (get_or ds j [])) (omega (arith, row_short j)) (omega (arith, row_short j))

  pub dir_spelled : (j : ℕ) → spelled b (dir_span ds j) ≡ get_or ds j []
  unfolding dir_span
  dir_spelled j = part_spelled b (j * dir_width + 2) (length (get_or ds j [])) (omega (arith, row_short j)) ∙ go (ltb j m) refl
    where
      go : (t : Bool) → ltb j m ≡ t → take (length (get_or ds j [])) (drop (j * dir_width + 2) b) ≡ get_or ds j []
      go true e =
          let r : get_or ds j [] ≡ dir_at b j = row_spells j (ltb-true j m e) in
          let z : j * dir_width + 2 + length (dir_at b j) - (j * dir_width + 2) ≡ length (dir_at b j) = omega arith in
          rw r (rw z at (dir_part b j _ refl))
      go false e = rw (get_or-eq_default ds [] {n = j} (omega (arith, ltb-false j m e, length_dirs b m)))
