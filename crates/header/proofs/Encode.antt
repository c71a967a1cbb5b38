-- What the encoder's steps give, one behind the other.
use Prim.Native.Nat.{ℕ, zero, suc, ◌+◌, ◌-◌}
use mathlib.Core.Path.{◌≡◌, refl, sym, ◌∙◌}
use mathlib.Core.List.{List, ◌++◌}
use native.Mathlib.Nat.{zero-sub, sub-zero, suc-sub-suc}
use native.Mathlib.Omega.{arith}
use lib.ListN.{length, take, drop, replicate, length-append}
use lib.Seq.{take_at}
use Rattle.fnv.specs.Fnv.{start32, prime32, fnv_from, fnv1a32}
use Rattle.fnv.proofs.AnyWidth.{fnv1a_append}
use Rattle.le.specs.Le.{le, laid}
use Rattle.le.proofs.Parts.{next}
use Rattle.header.specs.Block.{fixed, encoded}
use Rattle.header.proofs.BlockLaws.{length_fixed}
use Rattle.header.specs.declared.Header.{Header}

drop_replicate : (k n x : ℕ) → drop k (replicate n x) ≡ replicate (n - k) x
drop_replicate zero n x = rw sub-zero
drop_replicate (suc k) zero x = rw zero-sub
drop_replicate (suc k) (suc n) x = rw suc-sub-suc (drop_replicate k n x)

-- The fields over the zeros z, then the check k₂ of both parts, then the path.
pub steps : (h : Header) (path z : List ℕ) {b₁ b₂ b₃ : List ℕ} {k₁ k₂ : ℕ} → z ≡ replicate 512 0
    → b₁ ≡ fixed h ++ drop 28 z → k₁ ≡ fnv_from start32 (take 28 b₁) → k₂ ≡ fnv_from k₁ path
    → b₂ ≡ laid b₁ 28 (le 4 k₂) → b₃ ≡ laid b₂ 32 path → b₃ ≡ encoded h path
unfolding encoded
steps h path z {b₁} {b₂} {b₃} {k₁} {k₂} ez e₁ f₁ f₂ e₂ e₃ =
    let t : take 28 b₁ ≡ fixed h = rw e₁ (take_at (fixed h) (drop 28 z) 28 (length_fixed h)) in
    let f : k₂ ≡ fnv1a32 (fixed h ++ path) = f₂ ∙ rw (f₁, t) (sym (fnv1a_append prime32 32 start32 (fixed h) path)) in
    let g = next 28 4 z (fixed h) (le 4 k₂) (length_fixed h) refl e₁ e₂ in
    let l : length (fixed h ++ le 4 k₂) ≡ 32 = rw (length-append, length_fixed) in
    let r = next 32 (length path) z (fixed h ++ le 4 k₂) path l refl g e₃ in
    let m : 512 - (32 + length path) ≡ 480 - length path = omega arith in
    r ∙ rw (ez, drop_replicate, m, f)
