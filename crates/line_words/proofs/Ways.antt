-- The ways out of the parser, over plain values: which command stands for what, and what a line asks for by its first words.
use Prim.Native.Nat.{ℕ, suc, ◌+◌, ◌-◌, ◌≤◌, ◌<◌}
use native.Mathlib.Omega.{arith}
use native.Mathlib.Nat.{zero-add}
use native.Mathlib.Numerals.{add-one}
use mathlib.Core.Path.{◌≡◌, refl, sym, ap, subst, ◌∙◌}
use mathlib.Core.Bool.{Bool, true, false, cond}
use mathlib.Core.List.{List, [], ◌∷◌}
use lib.Dec.{eqb, ltb}
use lib.ListN.{length, take, drop, length-drop}
use lib.Seq.{drop-drop, length-take-le, take_all}
use borrow.Author.Tests.{eq-eqb, ne_eqb, lt-ltb, le-ltb, ltb-false}
use Rattle.std.specs.Prelude.{Some, None}
use Rattle.std.specs.List.{position, position_or_len}
use Rattle.std.proofs.lemmas.List.Recursion.{is_position_or_len}
use Rattle.lists.specs.Same.{same_bytes}
use Rattle.path.specs.Path.{cut, grow}
use Rattle.line_words.specs.Words.{words_of, run_len}
use Rattle.line_words.proofs.WordByWord.{run_fits, words_last, words_more}
use Rattle.line_words.specs.Commands.{Request, what, create_word, sync_word, rm_word, mv_word, dump_word, one_word, two_words, three_words, request_by, request_of, read_as, InLine, Means}
use Rattle.line_words.specs.declared.Command.{Command}
use Rattle.line_words.specs.declared.Command.TheVariants.{Create, Sync, Remove, Move, Dump, What}

-- ---- the end of a run

-- `&s[a..]` is all from a on
pub from_on : (a : ℕ) (s : List ℕ) → take (length s - a) (drop a s) ≡ drop a s
from_on a s = take_all (length s - a) (drop a s) (rw length-drop (omega arith))

run_is : (stop : ℕ) (s : List ℕ) → run_len stop s ≡ position_or_len (λ b. eqb b stop) s
unfolding run_len
run_is stop s = is_position_or_len (run_len stop) (λ b. eqb b stop) refl (λ b t. ap (cond (eqb b stop) 0) (omega arith)) s

module _ (stop i : ℕ) (s : List ℕ) where
  abbrev pub part : List ℕ
  part = take (length s - i) (drop i s)

  pub run_at : {k : ℕ} → Some k ≡ position (λ b. eqb b stop) part → i + k ≡ i + run_len stop (drop i s)
  run_at {k} e = ap (λ (j : ℕ). i + j) (rw (← from_on i s) (go (ltb (position_or_len (λ b. eqb b stop) part) (length part)) e))
    where
      go : (t : Bool) → Some k ≡ cond t (Some (position_or_len (λ b. eqb b stop) part)) None → k ≡ run_len stop part
      go true f = cc (run_is stop part)
      go false f = cc

  pub run_none : i ≤ length s → None ≡ position (λ b. eqb b stop) part → length s ≡ i + run_len stop (drop i s)
  run_none h e =
      let z : run_len stop part ≡ length part = go (ltb (position_or_len (λ b. eqb b stop) part) (length part)) refl e in
      omega (arith, rw from_on at z, length-drop i s)
    where
      go : (t : Bool) → ltb (position_or_len (λ b. eqb b stop) part) (length part) ≡ t
          → None ≡ cond t (Some (position_or_len (λ b. eqb b stop) part)) None → run_len stop part ≡ length part
      go true f g = cc
      go false f g = omega (arith, run_is stop part, run_fits stop part, ltb-false _ _ f)

-- ---- forms

pub stands : {line : List ℕ} {c : Command} {p q : Request} → p ≡ q → Means line c p → Means line c q
stands e m = record { same = m.same ∙ e; inside = m.inside }

module _ (line : List ℕ) where
  pub is_dump : same_bytes line dump_word ≡ true → Means line Dump (one_word line)
  unfolding one_word read_as InLine
  is_dump e = record { same = rw e; inside = tt }

  pub no_dump : same_bytes line dump_word ≡ false → Means line What (one_word line)
  unfolding one_word read_as InLine
  no_dump e = record { same = rw e; inside = tt }

module _ (line : List ℕ) (a : ℕ) (h : a < length line) where
  pub two_empty : a + 1 ≡ length line → Means line What (two_words (take a line) (drop (a + 1) line))
  unfolding two_words read_as InLine
  two_empty e =
      let z : eqb (length (drop (a + 1) line)) 0 ≡ true = eq-eqb (length (drop (a + 1) line)) 0 (length-drop (a + 1) line ∙ omega arith) in
      record { same = rw z; inside = tt }

  module _ (n : a + 1 ≡ length line → ⊥) where
    some : eqb (length (drop (a + 1) line)) 0 ≡ false
    some = ne_eqb (length (drop (a + 1) line)) 0 (λ e. n (omega (arith, length-drop (a + 1) line)))

    pub two_create : same_bytes (take a line) create_word ≡ true → Means line (Create (a + 1)) (two_words (take a line) (drop (a + 1) line))
    unfolding two_words read_as InLine
    two_create e = record { same = rw (some, e); inside = omega arith }

    module _ (c : same_bytes (take a line) create_word ≡ false) where
      pub two_sync : same_bytes (take a line) sync_word ≡ true → Means line (Sync (a + 1)) (two_words (take a line) (drop (a + 1) line))
      unfolding two_words read_as InLine
      two_sync e = record { same = rw (some, c, e); inside = omega arith }

      module _ (d : same_bytes (take a line) sync_word ≡ false) where
        pub two_remove : same_bytes (take a line) rm_word ≡ true → Means line (Remove (a + 1)) (two_words (take a line) (drop (a + 1) line))
        unfolding two_words read_as InLine
        two_remove e = record { same = rw (some, c, d, e); inside = omega arith }

        pub two_other : same_bytes (take a line) rm_word ≡ false → Means line What (two_words (take a line) (drop (a + 1) line))
        unfolding two_words read_as InLine
        two_other e = record { same = rw (some, c, d, e); inside = tt }

module _ (line : List ℕ) (a b : ℕ) (h : a < b) (k : b < length line) where
  abbrev second : List ℕ
  second = take (b - (a + 1)) (drop (a + 1) line)

  abbrev third : List ℕ
  third = drop (b + 1) line

  length_second : length second ≡ b - (a + 1)
  length_second = length-take-le (b - (a + 1)) (drop (a + 1) line) (rw length-drop (omega arith))

  pub three_empty : a + 1 ≡ b → Means line What (three_words (take a line) second third)
  unfolding three_words read_as InLine
  three_empty e =
      let z : eqb (length second) 0 ≡ true = eq-eqb (length second) 0 (omega (arith, length_second)) in
      record { same = rw z; inside = tt }

  module _ (n : a + 1 ≡ b → ⊥) where
    some_second : eqb (length second) 0 ≡ false
    some_second = ne_eqb (length second) 0 (λ e. n (omega (arith, length_second)))

    pub three_end : b + 1 ≡ length line → Means line What (three_words (take a line) second third)
    unfolding three_words read_as InLine
    three_end e =
        let z : eqb (length third) 0 ≡ true = eq-eqb (length third) 0 (omega (arith, length-drop (b + 1) line)) in
        record { same = rw (some_second, z); inside = tt }

    module _ (m : b + 1 ≡ length line → ⊥) where
      some_third : eqb (length third) 0 ≡ false
      some_third = ne_eqb (length third) 0 (λ e. m (omega (arith, length-drop (b + 1) line)))

      pub three_move : same_bytes (take a line) mv_word ≡ true → Means line (Move (a + 1) b) (three_words (take a line) second third)
      unfolding three_words read_as InLine
      three_move e = record { same = rw (some_second, some_third, e); inside = (omega arith, k) }

      pub three_other : same_bytes (take a line) mv_word ≡ false → Means line What (three_words (take a line) second third)
      unfolding three_words read_as InLine
      three_other e = record { same = rw (some_second, some_third, e); inside = tt }

-- ---- the words of a line

-- a fourth word
too_many_lem : (v a b s : List ℕ) → request_by (v ∷ a ∷ b ∷ words_of s) ≡ what
unfolding request_by words_of cut grow
too_many_lem v a b [] = refl
too_many_lem v a b (x ∷ s) = go (eqb x 32) (words_of s)
  where
    go : (t : Bool) (ws : List (List ℕ)) → request_by (v ∷ a ∷ b ∷ cut t x ws) ≡ what
    go true ws = refl
    go false [] = refl
    go false (w ∷ ws) = refl

pub too_long_lem : (line : List ℕ) → 1024 < length line → Means line What (request_of line)
unfolding request_of read_as InLine
too_long_lem line h = let z : ltb 1024 (length line) ≡ true = lt-ltb 1024 (length line) h in record { same = rw z; inside = tt }

module _ (line : List ℕ) (short : length line ≤ 1024) (a : ℕ) (ea : a ≡ 0 + run_len 32 (drop 0 line)) where
  fits : ltb 1024 (length line) ≡ false
  fits = le-ltb 1024 (length line) short

  first : run_len 32 line ≡ a
  first = sym (ea ∙ zero-add (run_len 32 line))

  pub request_one : a ≡ length line → one_word line ≡ request_of line
  unfolding request_of request_by
  request_one h = rw (fits, words_last line (first ∙ h))

  module _ (ha : a ≡ length line → ⊥) where
    pub first_ends : a < length line
    first_ends = omega (arith, run_fits 32 line, first)

    words_first : words_of line ≡ take a line ∷ words_of (drop (a + 1) line)
    words_first = subst (λ (n : ℕ). words_of line ≡ take n line ∷ words_of (drop (n + 1) line)) first (rw (words_more line (rw first first_ends), add-one))

    module _ (b : ℕ) (eb : b ≡ a + 1 + run_len 32 (drop (a + 1) line)) where
      second_fits : b ≤ length line
      second_fits = omega (arith, run_fits 32 (drop (a + 1) line), length-drop (a + 1) line, first_ends)

      pub request_two : b ≡ length line → two_words (take a line) (drop (a + 1) line) ≡ request_of line
      unfolding request_of request_by
      request_two h = rw (fits, words_first, words_last (drop (a + 1) line) (omega (arith, length-drop (a + 1) line)))

      module _ (hb : b ≡ length line → ⊥) where
        pub second_ends : (a < b) × (b < length line)
        second_ends = (omega arith, omega (arith, second_fits))

        words_second : words_of (drop (a + 1) line) ≡ take (b - (a + 1)) (drop (a + 1) line) ∷ words_of (drop (b + 1) line)
        words_second =
            let k : run_len 32 (drop (a + 1) line) ≡ b - (a + 1) = omega arith in
            let m : a + 1 + suc (b - (a + 1)) ≡ b + 1 = omega arith in
            rw (words_more (drop (a + 1) line) (omega (arith, length-drop (a + 1) line, second_ends.1)), k, drop-drop, m)

        module _ (e : ℕ) (ee : e ≡ b + 1 + run_len 32 (drop (b + 1) line)) where
          pub request_three : e ≡ length line → three_words (take a line) (take (b - (a + 1)) (drop (a + 1) line)) (drop (b + 1) line) ≡ request_of line
          unfolding request_of request_by
          request_three h = rw (fits, words_first, words_second, words_last (drop (b + 1) line) (omega (arith, length-drop (b + 1) line)))

          pub request_more : (e ≡ length line → ⊥) → Means line What (request_of line)
          unfolding request_of read_as InLine
          request_more h =
              let k : run_len 32 (drop (b + 1) line) < length (drop (b + 1) line) = omega (arith, length-drop (b + 1) line, run_fits 32 (drop (b + 1) line), second_ends.1) in
              record {
                same = rw (fits, words_first, words_second, words_more (drop (b + 1) line) k, too_many_lem);
                inside = tt;
              }
