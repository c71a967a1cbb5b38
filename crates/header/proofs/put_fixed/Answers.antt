-- `put_fixed` meets its contract by `next`, once for each field.
use Prim.Native.Nat.{ℕ}
use mathlib.Core.Path.{refl, ap, ◌∙◌}
use mathlib.Core.List.{List, [], ◌++◌}
use lib.ListN.{drop}
use Rattle.le.specs.Le.{le}
use Rattle.le.proofs.Parts.{next}
use Rattle.header.specs.Block.{magic, fixed}
use Rattle.header.proofs.put_fixed.Goals as goal

pub returns : goal.returns
unfolding fixed
returns c =
    let a = c.args in
    let d : List ℕ = a.block.now in
    let h = a.h in
    let flags : ℕ = c.flags_of.result in
    let p4 : List ℕ = le 4 magic in
    let p8 : List ℕ = p4 ++ le 4 flags in
    let p12 : List ℕ = p8 ++ le 4 h.path_len in
    let p20 : List ℕ = p12 ++ le 8 h.len in
    let e4 = next 0 4 d [] p4 refl refl refl c.put_at.ensures in
    let e8 = next 4 4 d p4 (le 4 flags) refl refl e4 c.put_at-2.ensures in
    let e12 = next 8 4 d p8 (le 4 h.path_len) refl refl e8 c.put_at-3.ensures in
    let e20 = next 12 8 d p12 (le 8 h.len) refl refl e12 c.put_at-4.ensures in
    let e28 = next 20 8 d p20 (le 8 h.generation) refl refl e20 c.put_at-5.ensures in
    e28
    ∙ ap (λ (f : ℕ). p4 ++ le 4 f ++ le 4 h.path_len ++ le 8 h.len ++ le 8 h.generation ++ drop 28 d) c.flags_of.ensures
