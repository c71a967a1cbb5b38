-- A slot's part of the bytes, and its block, where bytes are laid into a slot.
use Prim.Native.Nat.{ℕ, suc, ◌+◌, ◌-◌, ◌*◌, ◌≤◌, min, max}
use Rattle.std.proofs.Math.Nat.{mul-le-mul_right}
use native.Mathlib.Omega.{arith}
use Rattle.std.proofs.Math.Decide.{ℕ_discrete}
use Rattle.std.specs.Prelude.{◌≡◌, refl, ◌≢◌, List, ◌++◌, drop, replicate, Bool, true, false, eqb}
use Rattle.std.proofs.Common.{sym, ◌∙◌, append-nil, length-take-le}
use Rattle.std.proofs.Math.Path.{ap}
use Rattle.std.proofs.Math.ListN.{length, take, length-drop}
use Rattle.std.proofs.Math.Seq.{take-append-add}
use Rattle.device.specs.Device.{share}
use Rattle.lists.specs.Fronts.{drop_take, zeros_take}
use Rattle.lists.specs.Blocks.{pad, pad_fits}
use Rattle.le.specs.Le.{laid}
use Rattle.le.proofs.Parts.{take_laid, drop_laid, laid_read_before, laid_front, drop_laid_in, take_laid_in}

-- ---- a slot's part

-- The slot's bytes: so many of them from its start on.
unfoldable pub part_of : ℕ → ℕ → List ℕ → List ℕ
part_of size i bytes = take size (drop (i * size) bytes)

module _ (size i k : ℕ) (bytes ys : List ℕ) (room : i * size + size ≤ length bytes) (fits : k + length ys ≤ size) where
  pub part_laid : part_of size i (laid bytes (i * size + k) ys) ≡ laid (part_of size i bytes) k ys
  unfolding part_of
  part_laid =
      let l : size ≤ length (drop (i * size) bytes) = rw length-drop (omega arith) in
      ap (take size) (drop_laid_in bytes ys (i * size) k (omega arith)) ∙ take_laid_in (drop (i * size) bytes) ys size k fits l

  pub part_other : (j : ℕ) → j ≢ i → part_of size j (laid bytes (i * size + k) ys) ≡ part_of size j bytes
  unfolding part_of
  part_other j ne = go (ℕ_discrete (suc j - i) 0)
    where
      go : Dec (suc j - i ≡ 0) → take size (drop (j * size) (laid bytes (i * size + k) ys)) ≡ take size (drop (j * size) bytes)
      go (yes e) =
          let h : suc j ≤ i = omega arith in
          laid_read_before bytes (i * size + k) ys (omega arith) (j * size) size (omega (arith, mul-le-mul_right size h))
      go (no n) =
          let h : suc i ≤ j = omega arith in
          ap (take size) (drop_laid bytes (i * size + k) ys (omega arith) (j * size) (omega (arith, mul-le-mul_right size h)))

-- ---- the front of a part

-- Zeros from the physical length on: the front of n bytes, filled up.
pub front_grown : (p : List ℕ) (n phys to : ℕ) → phys ≤ length p → n ≤ to → to ≤ length p → take n (laid p phys (replicate (to - phys) 0)) ≡ pad n (take (min n phys) p)
unfolding laid
front_grown p n phys to h l m = go (ℕ_discrete (n - phys) 0)
  where
    go : Dec (n - phys ≡ 0) → take n (take phys p ++ (replicate (to - phys) 0 ++ drop (phys + length {A = ℕ} (replicate (to - phys) 0)) p)) ≡ pad n (take (min n phys) p)
    go (yes e) =
        let k : min n phys ≡ n = omega arith in
        let w : length (take n p) ≡ n = length-take-le n p (omega arith) in
        let z : n - length (take n p) ≡ 0 = omega arith in
        take_laid p phys (replicate (to - phys) 0) h n (omega arith)
        ∙ sym (append-nil (take n p))
        ∙ ap (λ (x : ℕ). take n p ++ replicate x 0) (sym z)
        ∙ sym (pad_fits n (take n p) (omega arith))
        ∙ ap (λ (x : ℕ). pad n (take x p)) (sym k)
    go (no ne) =
        let k : min n phys ≡ phys = omega arith in
        let w : length (take phys p) ≡ phys = length-take-le phys p h in
        zeros_take (take phys p) (drop (phys + length {A = ℕ} (replicate (to - phys) 0)) p) n (to - phys) (omega arith) (omega arith)
        ∙ sym (pad_fits n (take phys p) (omega arith))
        ∙ ap (λ (x : ℕ). pad n (take x p)) (sym k)

-- Bytes laid over the front, and the block of n bytes after it: ys, and what the old block had behind them.
pub front_laid : (p ys : List ℕ) (n phys : ℕ) → length ys ≤ n → n ≤ length p → phys ≤ length p
    → take (min n (max phys (length ys))) (laid p 0 ys) ≡ ys ++ drop (length ys) (take (min n phys) p)
front_laid p ys n phys h l m =
    let k = length ys in
    let e : min n (max phys k) ≡ k + (min n phys - k) = omega arith in
    rw (laid_front p ys, e) (take-append-add ys (drop k p) (min n phys - k) ∙ ap (λ (x : List ℕ). ys ++ x) (sym (drop_take k (min n phys) p)))

-- ---- numbers

pub share_le : (byte n : ℕ) → share byte n ≤ n
unfolding share
share_le byte n = go (eqb byte 2) refl
  where
    go : (t : Bool) → eqb byte 2 ≡ t → share byte n ≤ n
    go true e = rw e (omega arith)
    go false e = rw e (omega arith)
