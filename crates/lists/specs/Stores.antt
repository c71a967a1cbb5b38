-- A part of a list that was lent, `&mut l[a..b]`, and is back: a run of stores made the whole of it.
use Rattle.std.specs.Prelude.{◌≡◌, ℕ, ◌+◌, ◌-◌, ◌≤◌, List, ◌++◌, length, take, drop, replicate}
use Rattle.std.proofs.Common.{arith, append_assoc, length-take, length-drop}
use Rattle.std.proofs.lemmas.List.{length-replicate}
use Rattle.std.proofs.lemmas.List.Edits.{sets, sets-eq}
use Rattle.std.proofs.Math.Seq.{drop-drop}

-- it is back as vs
pub stored_back : {A : Type 0} (l vs : List A) (a b : ℕ) {ys : List A} → a + length vs ≡ b → b ≤ length l → ys ≡ vs
    → take a l ++ (ys ++ drop (b - a) (drop a l)) ≡ sets l a vs
stored_back l vs a b e h q =
    let n : a + (b - a) ≡ a + length vs = omega arith in
    rw (q, sets-eq vs l a (omega arith), drop-drop, append_assoc, n)

-- it is back as zeros, k of them
pub zeros_back : (l : List ℕ) (a b k : ℕ) {ys : List ℕ} → a + k ≡ b → b ≤ length l → ys ≡ replicate (length (take (b - a) (drop a l))) 0
    → take a l ++ (ys ++ drop (b - a) (drop a l)) ≡ sets l a (replicate k 0)
zeros_back l a b k e h q =
    let m : length (take (b - a) (drop a l)) ≡ k = simp (length-take, length-drop) (omega arith) in
    stored_back l (replicate k 0) a b (rw length-replicate e) h (rw m at q)
