-- Of a block that claims: its path lies in it.
use Rattle.std.specs.Prelude.{None, Option, Some}
use Prim.Native.Nat.{ℕ, ◌≤◌}
use mathlib.Core.Path.{◌≡◌, sym, ap, ◌∙◌}
use mathlib.Core.Bool.{Bool, true, false, cond, not}
use mathlib.Core.List.{List}
use native.Mathlib.Omega.{arith}
use lib.Dec.{eqb}
use Rattle.header.specs.Block.{block_len, max_path, decoded}
use Rattle.header.proofs.BlockLaws.{found}
use Rattle.header.specs.declared.Header.{Header}
use Rattle.demo.specs.Story.{read_as, says_of}
use Rattle.demo.specs.declared.Says.{Says}
use Rattle.demo.specs.declared.Says.TheVariants.{Nothing, Free, Claim}

no_claim : {h : Header} → Nothing ≡ Claim h → ⊥
no_claim e = let z : ◌≡◌ {A = ℕ} 0 1 = cc in omega arith

free_no_claim : {g : ℕ} {h : Header} → Free g ≡ Claim h → ⊥
free_no_claim e = let z : ◌≡◌ {A = ℕ} 0 1 = cc in omega arith

-- a claim is the header that was decoded
claimed : (d : Option Header) (h : Header) → read_as d ≡ Claim h → d ≡ Some h
claimed None h e = absurd (no_claim e)
claimed (Some k) h e = go (not k.in_use) (eqb k.path_len 0) e
  where
    go : (t u : Bool) → cond t (Free k.generation) (cond u (Free k.generation) (Claim k)) ≡ Claim h → Some k ≡ Some h
    go true u f = absurd (free_no_claim f)
    go false true f = absurd (free_no_claim f)
    go false false f = let q : k ≡ h = cc in ap Some q

pub claim_fits : (b : List ℕ) (h : Header) {s : Says} → s ≡ says_of b → s ≡ Claim h → h.path_len ≤ max_path
unfolding says_of
claim_fits b h e f =
    let p = (found b block_len h).0 (claimed (decoded b block_len) h (sym e ∙ f)) in
    let q : h.path_len ≡ _ = ap (λ (k : Header). k.path_len) p.fields in
    omega (arith, p.path_fits, q)
