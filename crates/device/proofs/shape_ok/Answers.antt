-- One test of the definition after the other; the product is no more than the slice's length where the quotient is at least the count.
use borrow.Author.Tests.{lt-leb, le-leb, leb-true, eq-eqb, ne_eqb}
use native.Mathlib.Nat.{mul-le-mul_left, mul-div-le}
use native.Mathlib.Omega.{arith}
use lib.ListN.{length}
use Rattle.std.specs.Prelude.{IsTrue, ◌↔◌}
use Rattle.std.proofs.Common.{rules, ◌≡◌, refl, sym, ℕ, ◌<◌, ◌≤◌, Bool, true, false, List, get_or, leb}
use Rattle.lists.specs.Runs.{all_of, all_at, all_intro}
use Rattle.std.proofs.iter.runs.Made.{chains}
use Rattle.device.specs.Device.{shape_b}
use Rattle.device.proofs.Ways.{quotient_less}
use Rattle.device.proofs.shape_ok.Goals as goal

-- the lengths are tested one by one
all_within : (h : List ℕ) (size : ℕ) (b : Bool) → (IsTrue b ↔ ((k : ℕ) → k < length h → get_or h k 0 ≤ size))
    → b ≡ all_of (λ i. leb (get_or h i 0) size) 0 (length h)
all_within h size true w = sym (all_intro (λ i. leb (get_or h i 0) size) 0 (length h) (λ j p q. le-leb _ _ (w.0 refl j (omega arith))))
all_within h size false w = go (all_of (λ i. leb (get_or h i 0) size) 0 (length h)) refl
  where
    go : (t : Bool) → all_of (λ i. leb (get_or h i 0) size) 0 (length h) ≡ t → false ≡ t
    go true e = w.1 (λ k l. leb-true _ _ (all_at (λ i. leb (get_or h i 0) size) 0 (length h) k e (omega arith) (omega arith)))
    go false e = refl

pub returns-then-size-lt-HEADER : goal.returns-then-size-lt-HEADER
unfolding shape_b
returns-then-size-lt-HEADER c =
    simp (lt-leb _ _ c.if-size-lt-HEADER.true)

pub returns-then-size-gt-LARGEST : goal.returns-then-size-gt-LARGEST
unfolding shape_b
returns-then-size-gt-LARGEST c =
    simp (le-leb _ _ c.if-size-lt-HEADER.false, lt-leb _ _ c.if-size-gt-LARGEST.true)

pub returns-then-size-ne0 : goal.returns-then-size-ne0
unfolding shape_b
returns-then-size-ne0 c =
    simp (le-leb _ _ c.if-size-lt-HEADER.false, le-leb _ _ c.if-size-gt-LARGEST.false, ne_eqb _ _ c.if-size-ne0.true)

pub returns-then-bytes-size : goal.returns-then-bytes-size
unfolding shape_b
returns-then-bytes-size c =
    let a = c.args in
    let ne = quotient_less (length a.bytes.now) a.geometry.size (length a.phys.now) (omega arith) c.if-bytes-size.true in
    simp (le-leb _ _ c.if-size-lt-HEADER.false, le-leb _ _ c.if-size-gt-LARGEST.false, eq-eqb _ _ c.if-size-ne0.false, ne_eqb _ _ ne)

pub overflow_mul-size : goal.overflow_mul-size
overflow_mul-size c =
    let a = c.args in
    let size = a.geometry.size in
    let n = length a.bytes.now in
    omega (arith, mul-le-mul_left size c.if-bytes-size.false, mul-div-le n size)

pub returns-then-bytes-size-2 : goal.returns-then-bytes-size-2
unfolding shape_b
returns-then-bytes-size-2 c =
    simp (le-leb _ _ c.if-size-lt-HEADER.false, le-leb _ _ c.if-size-gt-LARGEST.false, eq-eqb _ _ c.if-size-ne0.false, ne_eqb _ _ c.if-bytes-size-2.true)

pub returns : goal.returns
unfolding shape_b
returns c =
    let a = c.args in
    simp (le-leb _ _ c.if-size-lt-HEADER.false, le-leb _ _ c.if-size-gt-LARGEST.false, eq-eqb _ _ c.if-size-ne0.false, eq-eqb _ _ c.if-bytes-size-2.false)
    (all_within a.phys.now a.geometry.size c.all.result (search (rules, chains)))
