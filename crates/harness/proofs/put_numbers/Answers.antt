-- `put_numbers` meets its contract by `next`, once for each number.
use mathlib.Core.Path.{refl, sym, ap, ◌∙◌}
use Prim.Native.Nat.{ℕ}
use mathlib.Core.List.{List, [], ◌++◌}
use lib.ListN.{drop}
use Rattle.le.specs.Le.{le}
use Rattle.le.proofs.Parts.{next, laid_front}
use Rattle.harness.specs.Calls.{numbers_of}
use Rattle.harness.proofs.put_numbers.Goals as goal

pub returns : goal.returns
unfolding numbers_of
returns c =
    let a = c.args in
    let d : List ℕ = a.out.now in
    let h = a.h in
    let flags : ℕ = c.flags_of.result in
    let p8 : List ℕ = le 8 flags in
    let p16 : List ℕ = p8 ++ le 8 h.path_len in
    let p24 : List ℕ = p16 ++ le 8 h.len in
    let e8 = next 0 8 d [] p8 refl refl refl c.put_at.ensures in
    let e16 = next 8 8 d p8 (le 8 h.path_len) refl refl e8 c.put_at-2.ensures in
    let e24 = next 16 8 d p16 (le 8 h.len) refl refl e16 c.put_at-3.ensures in
    let e32 = next 24 8 d p24 (le 8 h.generation) refl refl e24 c.put_at-4.ensures in
    e32
    ∙ ap (λ (f : ℕ). le 8 f ++ le 8 h.path_len ++ le 8 h.len ++ le 8 h.generation ++ drop 32 d) c.flags_of.ensures
    ∙ sym (laid_front d (numbers_of h))
