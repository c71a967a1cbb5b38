-- An answer that has room lies whole in the buffer.
use Prim.Native.Nat.{ℕ, ◌+◌, ◌-◌, ◌≤◌, min}
use native.Mathlib.Omega.{arith}
use mathlib.Core.Path.{◌≡◌, refl, ap, ◌∙◌}
use mathlib.Core.List.{List, ◌++◌, append_assoc}
use lib.ListN.{length, take, drop, length-append, length-take, length-drop}
use lib.Seq.{take_all, take_at, drop_at, length-take-le}
use Rattle.output.specs.Writer.{Shown, shown, poured}
use Rattle.slots.specs.Slots.{Waits}

module _ (out text : List ℕ) (start : ℕ) {last : List ℕ} {len : ℕ} (h : start ≤ length out) (l : length text ≤ length out - start)
    (e : shown last len ≡ poured text (take (length out - start) (drop start out))) where
  abbrev left : List ℕ
  left = take start out ++ (last ++ drop (length out - start) (drop start out))

  part_long : length (take (length out - start) (drop start out)) ≡ length out - start
  part_long = simp (length-take, length-drop) (omega arith)

  behind : List ℕ
  behind = drop (length text) (take (length out - start) (drop start out))

  abbrev rest : List ℕ
  rest = drop (length out - start) (drop start out)

  -- the whole text, and what was behind it
  last_is : last ≡ text ++ behind
  unfolding poured behind
  last_is =
      ap (λ (s : Shown). s.out) e
      ∙ ap (λ (t : List ℕ). t ++ drop (length text) (take (length out - start) (drop start out)))
      (take_all (length (take (length out - start) (drop start out))) text (omega (arith, part_long)))

  len_is : len ≡ length text
  unfolding poured
  len_is = ap (λ (s : Shown). s.at) e

  last_long : length last ≡ length out - start
  unfolding behind
  last_long = ap length last_is ∙ simp (length-append, length-drop) (omega (arith, part_long))

  left_long : length left ≡ length out
  left_long = simp (length-append, length-take, length-drop) (omega (arith, last_long))

  pub uncut : {used : ℕ} → used ≡ start + min len (length left - start) → Waits text left used
  uncut u = record {
    start = start;
    ends = omega (arith, u, len_is, left_long, l);
    there =
        ap (take (length text)) (drop_at (take start out) _ start (length-take-le start out h) ∙ ap (λ (t : List ℕ). t ++ rest) last_is
        ∙ append_assoc text behind rest)
        ∙ take_at text (behind ++ rest) (length text) refl;
  }
