-- The turns of the reader's and the writer's loop.
use Prim.Native.Nat.{ℕ, suc, ◌+◌, ◌-◌, ◌*◌, ◌/◌, ◌%◌, ◌^◌, ◌<◌, ◌≤◌}
use mathlib.Core.Path.{◌≡◌, refl, sym, ap, ◌∙◌, subst}
use mathlib.Core.List.{List, [], ◌∷◌, ◌++◌, append-nil}
use native.Mathlib.Nat.{pow-le-pow_right, lt_of_lt_of_le}
use native.Mathlib.Numerals.{add-one}
use native.Mathlib.Omega.{arith}
use lib.ListN.{length, take, drop, set, length-append}
use lib.Seq.{take-suc-set, append_snoc, drop_at}
use Rattle.le.specs.Le.{le, unle, Bytes}
use Rattle.le.proofs.Fields.{unle_lt, bytes_drop}

-- The reader goes down: r is the number of the bytes that it has passed, and rest is in front of them.
pub record Read (s rest : List ℕ) (r : ℕ) : Type 0 where
  pub passed : List ℕ
  pub whole : rest ++ passed ≡ s
  pub told : r ≡ unle passed

pub read_none : (s rest : List ℕ) → rest ≡ s → Read s rest 0
read_none s rest e = record { passed = []; whole = append-nil rest ∙ e; told = refl }

pub read_more : (s rest front : List ℕ) (r b : ℕ) → Read s rest r → rest ≡ front ++ b ∷ [] → Read s front (r * 256 + b)
read_more s rest front r b w e =
    record { passed = b ∷ w.passed; whole = sym (append_snoc front b w.passed) ∙ ap (λ (l : List ℕ). l ++ w.passed) (sym e) ∙ w.whole; told = ap (λ (n : ℕ). n * 256 + b) w.told }

pub read_all : (s rest : List ℕ) (r : ℕ) → Read s rest r → length rest ≡ 0 → r ≡ unle s
read_all s [] r w e = w.told ∙ ap unle w.whole
read_all s (b ∷ rest) r w e = absurd (omega arith)

-- At most eight bytes fit 64 bits, so the next one does not go over them.
read_fits : (s rest : List ℕ) (r : ℕ) → Bytes s → length s ≤ 8 → Read s rest r → r < 2 ^ 64
read_fits s rest r h l w =
    let e : drop (length rest) s ≡ w.passed = ap (drop (length rest)) (sym w.whole) ∙ drop_at rest w.passed (length rest) refl in
    let n : length w.passed ≤ 8 = omega (arith, ap length w.whole, length-append rest w.passed) in
    rw w.told (lt_of_lt_of_le (unle_lt w.passed (subst Bytes e (bytes_drop (length rest) s h))) (pow-le-pow_right {n = 256} (omega arith) {j = 8} n))

pub next_fits : (s rest front : List ℕ) (r b : ℕ) → Bytes s → length s ≤ 8 → Read s rest r → rest ≡ front ++ b ∷ [] → r * 256 + b < 2 ^ 64
next_fits s rest front r b h l w e = read_fits s front (r * 256 + b) h l (read_more s rest front r b w e)

-- The writer goes up: what is written, and what is still to be written behind it, stay the answer.
pub put_turn : (d : List ℕ) (i n v : ℕ) → i < length d → i < n
    → take (i + 1) (set d i (v % 256)) ++ le (n - (i + 1)) (v / 256) ≡ take i d ++ le (n - i) v
put_turn d i n v l m =
    let e : n - i ≡ suc (n - (i + 1)) = omega arith in
    rw (e, add-one, take-suc-set) (append_snoc (take i d) (v % 256) _)
