-- What holds of runs, operations and setups that were read.
use Rattle.std.specs.Prelude.{ℕ, zero, suc, ◌+◌, ◌-◌, ◌*◌, ◌^◌, ◌<◌, ◌≤◌, ◌≡◌, Bool, cond, not, ◌&&◌, List, [], ◌∷◌, Option, Some, None, IfSome, eqb, ltb, length, get_or, take, drop}
use Rattle.std.specs.Option.{option_map, option_and_then}
use Rattle.std.proofs.Math.Path.{refl}
use Rattle.std.proofs.Common.{sym, ap, subst, ◌∙◌, arith, lt_of_lt_of_le, length-take}
use Rattle.std.proofs.Math.Bool.{true, false}
use Rattle.std.proofs.lemmas.Bool.{false≢true}
use Rattle.std.proofs.Math.Nat.{pow-le-pow_right}
use borrow.Author.Tests.{leb-true, leb-false, ltb-true, ltb-false}
use Rattle.std.proofs.Math.Dec.{leb}
use Rattle.std.proofs.Math.ListN.{get_or-eq_default}
use Rattle.std.proofs.lemmas.List.Edits.{sets}
use Rattle.std.specs.Bool.{⊤}
use Rattle.std.proofs.lemmas.Option.{MatchOption-at_some}
use Rattle.lists.specs.Bools.{both}
use Rattle.le.specs.Le.{field, Bytes}
use Rattle.le.proofs.Fields.{unle_lt, bytes_take, bytes_drop}
use Rattle.script_format.specs.declared.Span.{Span}
use Rattle.script_format.specs.declared.Form.{Form}
use Rattle.script_format.specs.declared.Op.{Op}
use Rattle.script_format.specs.declared.Setup.{Setup}
use Rattle.script_format.specs.Format.{span, span_at, span_if, forms, last_code, form_of, no_form, op_of, runs_at}
use Rattle.script_format.specs.Format.{behind_first, args_of, op_at, is_code, generation_at, run_in, Patching, patching, placed, patch_at, limits_ok, behind_plan, setup_at}

-- A run lies inside of the script, behind the place i where it was looked for.
pub record Inside (s : List ℕ) (i : ℕ) (r : Span) : Type 0 where
  pub order : r.from ≤ r.to
  pub end : r.to ≤ length s
  pub behind : i ≤ r.from

pub span_inside : (s : List ℕ) (i : ℕ) → IfSome (span_at s i) (Inside s i)
unfolding span_at
span_inside s i = go (leb (i + 2) (length s)) (leb (i + 2 + field s i 2) (length s)) refl
  where
    go : (a b : Bool) → leb (i + 2 + field s i 2) (length s) ≡ b
        → IfSome (cond a (cond b (Some (span (i + 2) (i + 2 + field s i 2))) None) None) (Inside s i)
    go true true e = record { order = omega arith; end = leb-true _ _ e; behind = omega arith }
    go true false e = tt
    go false b e = tt

pub span_if_inside : (w : Bool) (s : List ℕ) (i : ℕ) → i ≤ length s → IfSome (span_if w s i) (Inside s i)
unfolding span_if
span_if_inside true s i l = span_inside s i
span_if_inside false s i l = record { order = omega arith; end = l; behind = omega arith }

-- The same of a run that was read.
pub run_inside : (s : List ℕ) (i : ℕ) (r : Span) → Some r ≡ span_at s i → Inside s i r
run_inside s i r e = MatchOption-at_some ⊤ (Inside s i) r (sym e) (span_inside s i)

pub run_if_inside : (w : Bool) (s : List ℕ) (i : ℕ) (r : Span) → i ≤ length s → Some r ≡ span_if w s i → Inside s i r
run_if_inside w s i r l e = MatchOption-at_some ⊤ (Inside s i) r (sym e) (span_if_inside w s i l)

-- ---- widths

-- Each row's number in a column is at most k.
abbrev all_le : (Form → ℕ) → ℕ → List Form → Bool
all_le f k [] = true
all_le f k (r ∷ l) = leb (f r) k && all_le f k l

below : (f : Form → ℕ) (k : ℕ) (l : List Form) → f no_form ≤ k → all_le f k l ≡ true → (i : ℕ) → f (get_or l i no_form) ≤ k
below f k [] z h i = z
below f k (r ∷ l) z h zero = leb-true _ _ (both (leb (f r) k) (all_le f k l) h).0
below f k (r ∷ l) z h (suc i) = below f k l z (both (leb (f r) k) (all_le f k l) h).1 i

-- The widths of an operation's numbers.
pub record Small (f : Form) : Type 0 where
  pub slot : f.slot ≤ 8
  pub flag : f.flag ≤ 1
  pub len : f.len ≤ 8
  pub generation : f.generation ≤ 8
  pub at : f.at ≤ 8
  pub n : f.n ≤ 2
  pub gives_slot : f.gives_slot ≤ 8
  pub gives_generation : f.gives_generation ≤ 8
  pub gives_len : f.gives_len ≤ 8
  pub gives_count : f.gives_count ≤ 8
  pub gives_yes : f.gives_yes ≤ 8

form_small : (code : ℕ) → Small (form_of code)
unfolding form_of
form_small code = record {
  slot = below (λ f. f.slot) 8 forms (omega arith) refl code;
  flag = below (λ f. f.flag) 1 forms (omega arith) refl code;
  len = below (λ f. f.len) 8 forms (omega arith) refl code;
  generation = below (λ f. f.generation) 8 forms (omega arith) refl code;
  at = below (λ f. f.at) 8 forms (omega arith) refl code;
  n = below (λ f. f.n) 2 forms (omega arith) refl code;
  gives_slot = below (λ f. f.gives_slot) 8 forms (omega arith) refl code;
  gives_generation = below (λ f. f.gives_generation) 8 forms (omega arith) refl code;
  gives_len = below (λ f. f.gives_len) 8 forms (omega arith) refl code;
  gives_count = below (λ f. f.gives_count) 8 forms (omega arith) refl code;
  gives_yes = below (λ f. f.gives_yes) 8 forms (omega arith) refl code;
}

pub small : (code : ℕ) (f : Form) → f ≡ form_of code → Small f
small code f e = subst Small (sym e) (form_small code)

-- A number behind the last code has no row.
pub behind_last : (code : ℕ) → last_code < code → form_of code ≡ no_form
unfolding form_of
behind_last code l = get_or-eq_default forms no_form l

code_last : (code : ℕ) → is_code code ≡ true → code ≤ last_code
unfolding is_code
code_last code e = go (ltb last_code code) refl
  where
    go : (t : Bool) → ltb last_code code ≡ t → code ≤ last_code
    go false q = ltb-false last_code code q
    go true q = absurd (false≢true (ap (λ (f : Form). not (eqb f.used 0)) (sym (behind_last code (ltb-true last_code code q))) ∙ e))

-- A number of w bytes.
pub field_lt : (s : List ℕ) (i w k : ℕ) → Bytes s → w ≤ k → field s i w < 256 ^ k
field_lt s i w k b l =
    lt_of_lt_of_le (unle_lt (take w (drop i s)) (bytes_take w (drop i s) (bytes_drop i s b)))
    (pow-le-pow_right {n = 256} (omega arith) {j = k} (rw length-take (omega arith)))

-- ---- operations

-- The runs of an operation lie inside of the script.
pub record Held (s : List ℕ) (o : Op) : Type 0 where
  pub first_order : o.first.from ≤ o.first.to
  pub first_end : o.first.to ≤ length s
  pub second_order : o.second.from ≤ o.second.to
  pub second_end : o.second.to ≤ length s

-- What an operation that there is can rely on.
pub record Sound (s : List ℕ) (i : ℕ) (o : Op) : Type 0 where
  pub held : Held s o
  pub further : i < o.second.to
  pub code : o.code ≤ last_code
  pub small : o.n < 65536

-- ---- the same for the operation that was read

module _ (s : List ℕ) (b : Bytes s) where
  abbrev Read : ℕ → Option Op → Type 0
  Read i o = IfSome o (Sound s i)

  module _ (i code : ℕ) (c : code ≤ last_code) where
    abbrev f : Form
    f = form_of code

    op_of_sound : (a e : Span) → Inside s (runs_at (i + 1) f) a → Inside s a.to e → Sound s i (op_of s (i + 1) code f a e)
    unfolding op_of
    op_of_sound a e x y = record {
      held = record { first_order = x.order; first_end = x.end; second_order = y.order; second_end = y.end };
      further = omega (arith, x.behind, x.order, y.behind, y.order);
      code = c;
      small = field_lt s (generation_at (i + 1) f + f.generation + f.at) f.n 2 b (form_small code).n;
    }

    first_sound : (a : Span) → Inside s (runs_at (i + 1) f) a → Read i (behind_first s (i + 1) code f a)
    first_sound a x = go (span_if (leb 2 f.runs) s a.to) (span_if_inside (leb 2 f.runs) s a.to x.end)
      where
        go : (r : Option Span) → IfSome r (Inside s a.to) → Read i (option_map (op_of s (i + 1) code f a) r)
        go None y = tt
        go (Some e) y = op_of_sound a e x y

    args_sound : Read i (args_of s (i + 1) code)
    unfolding args_of
    args_sound =
        go (leb (runs_at (i + 1) f) (length s)) (span_if (leb 1 f.runs) s (runs_at (i + 1) f))
        (λ t. span_if_inside (leb 1 f.runs) s (runs_at (i + 1) f) (leb-true _ _ t))
      where
        go : (t : Bool) (r : Option Span) → (t ≡ true → IfSome r (Inside s (runs_at (i + 1) f)))
            → Read i (cond t (option_and_then (behind_first s (i + 1) code f) r) None)
        go true (Some a) x = first_sound a (x refl)
        go true None x = tt
        go false r x = tt

  pub op_sound : (i : ℕ) → Read i (op_at s i)
  unfolding op_at
  op_sound i = go (leb (length s) i) (is_code (get_or s i 0)) refl
    where
      go : (x y : Bool) → is_code (get_or s i 0) ≡ y → Read i (cond x None (cond y (args_of s (i + 1) (get_or s i 0)) None))
      go true y v = tt
      go false false v = tt
      go false true v = args_sound i (get_or s i 0) (code_last (get_or s i 0) v)

-- ---- patches

-- A patch ends inside of the script.
pub patch_end : (s : List ℕ) (i : ℕ) (d : List ℕ) → IfSome (patch_at s i d).behind (λ j. j ≤ length s)
unfolding patch_at
patch_end s i d = go (leb (i + 4) (length s)) (span_at s (i + 4)) (span_inside s (i + 4))
  where
    laid_end : (a : Bool) (r : Span) → r.to ≤ length s
        → IfSome (cond a (patching (Some r.to) (sets d (field s i 4) (run_in s r))) (patching None d)).behind (λ j. j ≤ length s)
    laid_end true r h = h
    laid_end false r h = tt

    go : (a : Bool) (r : Option Span) → IfSome r (Inside s (i + 4))
        → IfSome (cond a (placed s (field s i 4) r d) (patching None d)).behind (λ j. j ≤ length s)
    go true (Some r) x = laid_end (leb (field s i 4 + (r.to - r.from)) (length d)) r x.end
    go true None x = tt
    go false r x = tt

-- The same of a patch that was laid.
pub place_behind : (s : List ℕ) (i : ℕ) (d : List ℕ) (j : ℕ) (d' : List ℕ) → patching (Some j) d' ≡ patch_at s i d → j ≤ length s
place_behind s i d j d' e = MatchOption-at_some ⊤ (λ (k : ℕ). k ≤ length s) j (ap (λ (p : Patching). p.behind) (sym e)) (patch_end s i d)

-- ---- the setup

-- What a setup keeps: the limits, and its places lie inside of the script.
pub record Fine (s : List ℕ) (u : Setup) : Type 0 where
  pub short : length s < 2 ^ 40
  pub slots : u.slots ≤ 64
  pub rows : u.rows ≤ 66
  pub dir_rows_lem : u.dir_rows ≤ 258
  pub bytes : u.slots * u.size ≤ 65536
  pub plan_order : u.plan.from ≤ u.plan.to
  pub plan_end : u.plan.to ≤ length s
  pub phys : u.phys + u.slots * 4 ≤ length s
  pub patches : u.patches ≤ length s

module _ (s : List ℕ) where
  module _ (h : length s < 2 ^ 40) (slots rows dir_rows size : ℕ) (k : limits_ok slots rows dir_rows size ≡ true) where
    behind_fine : (p : Option Span) → IfSome p (Inside s 9) → IfSome (behind_plan s slots rows dir_rows size p) (Fine s)
    unfolding behind_plan limits_ok
    behind_fine None i = tt
    behind_fine (Some p) i = go (leb (p.to + slots * 4 + 2) (length s)) refl
      where
        go : (b : Bool) → leb (p.to + slots * 4 + 2) (length s) ≡ b
            → IfSome (cond b (Some (record { slots = slots; rows = rows; dir_rows = dir_rows; size = size; plan = p; phys = p.to; count = field s (p.to + slots * 4) 2; patches = p.to + slots * 4 + 2 })) None) (Fine s)
        go true e =
            let x = both (leb slots 64) (leb rows 66 && (leb dir_rows 258 && leb (slots * size) 65536)) k in
            let y = both (leb rows 66) (leb dir_rows 258 && leb (slots * size) 65536) x.1 in
            let z = both (leb dir_rows 258) (leb (slots * size) 65536) y.1 in
            record {
              short = h;
              slots = leb-true _ _ x.0;
              rows = leb-true _ _ y.0;
              dir_rows_lem = leb-true _ _ z.0;
              bytes = leb-true _ _ z.1;
              plan_order = i.order;
              plan_end = i.end;
              phys = omega (arith, leb-true (p.to + slots * 4 + 2) (length s) e);
              patches = leb-true _ _ e;
            }
        go false e = tt

  pub setup_fine : IfSome (setup_at s) (Fine s)
  unfolding setup_at
  setup_fine = go (leb (2 ^ 40) (length s)) (ltb (length s) 9) (eqb (get_or s 0 0) 1) (limits_ok (get_or s 1 0) (get_or s 2 0) (field s 3 2) (field s 5 4)) refl refl
    where
      go : (a b c d : Bool) → leb (2 ^ 40) (length s) ≡ a → limits_ok (get_or s 1 0) (get_or s 2 0) (field s 3 2) (field s 5 4) ≡ d
          → IfSome (cond a None (cond b None (cond c (cond d (behind_plan s (get_or s 1 0) (get_or s 2 0) (field s 3 2) (field s 5 4) (span_at s 9)) None) None))) (Fine s)
      go true b c d e f = tt
      go false true c d e f = tt
      go false false false d e f = tt
      go false false true false e f = tt
      go false false true true e f = behind_fine (leb-false _ _ e) (get_or s 1 0) (get_or s 2 0) (field s 3 2) (field s 5 4) f (span_at s 9) (span_inside s 9)

-- The same of a setup that was read.
pub setup_read : (s : List ℕ) (u : Setup) → Some u ≡ setup_at s → Fine s u
setup_read s u e = MatchOption-at_some ⊤ (Fine s) u (sym e) (setup_fine s)
