-- Laws of the header block that the layers above cite.
use Rattle.std.specs.Prelude.{None, Option, Some}
use Prim.Native.Nat.{ℕ, ◌<◌, ◌≤◌}
use mathlib.Core.Path.{◌≡◌, refl, sym, ap}
use mathlib.Core.Logic.{◌↔◌}
use mathlib.Core.Bool.{Bool, true, false, cond, not}
use mathlib.Core.List.{List}
use native.Mathlib.Omega.{arith}
use borrow.Author.Tests.{lt-ltb, le-ltb, eq-eqb, ltb-false, eqb-true, not-false}
use lib.Dec.{eqb, ltb}
use lib.ListN.{length, length-append, length-replicate}
use Rattle.le.specs.Le.{field}
use Rattle.text.specs.Text.{is_text}
use Rattle.header.specs.Block.{block_len, magic, max_path, fixed, encoded, path_of, check_of, fields_of, decoded}
use Rattle.header.specs.declared.Header.{Header}

pub length_fixed : (h : Header) → length (fixed h) ≡ 28
unfolding fixed
length_fixed h = refl

-- A block has 512 bytes.
pub length_encoded : (h : Header) (path : List ℕ) → length path ≤ max_path → length (encoded h path) ≡ block_len
unfolding encoded
length_encoded h path l = simp (length-append, length-replicate, length_fixed) (omega arith)

-- Fewer than 512 bytes say nothing.
pub short_absent : (b : List ℕ) (n : ℕ) → n < block_len → decoded b n ≡ None
unfolding decoded
short_absent b n h = rw (lt-ltb n block_len h)

-- The tests that a block has passed which says h.
pub record Passed (b : List ℕ) (n : ℕ) (h : Header) : Type 0 where
  pub whole : block_len ≤ n
  pub magic_same : field b 0 4 ≡ magic
  pub path_fits : field b 8 4 ≤ max_path
  pub check_same : field b 28 4 ≡ check_of b
  pub path_text : is_text (path_of b) ≡ true
  pub fields : h ≡ fields_of b

never : {h : Header} → None ≡ Some h → ⊥
never e = let z : ◌≡◌ {A = ℕ} 0 1 = cc in omega arith

past : (t : Bool) (x : Option Header) {h : Header} → cond t None x ≡ Some h → (t ≡ false) × (x ≡ Some h)
past true x e = absurd (never e)
past false x e = (refl, e)

-- A block says h exactly if it passes the tests and h is its fields.
pub found : (b : List ℕ) (n : ℕ) (h : Header) → decoded b n ≡ Some h ↔ Passed b n h
unfolding decoded
found b n h = (
  λ e.
      let e₁ = past (ltb n block_len) _ e in
      let e₂ = past (not (eqb (field b 0 4) magic)) _ e₁.1 in
      let e₃ = past (ltb max_path (field b 8 4)) _ e₂.1 in
      let e₄ = past (not (eqb (field b 28 4) (check_of b))) _ e₃.1 in
      let e₅ = past (not (is_text (path_of b))) _ e₄.1 in
      let q = e₅.1 in
      record {
        whole = ltb-false _ _ e₁.0;
        magic_same = eqb-true _ _ (not-false _ e₂.0);
        path_fits = ltb-false _ _ e₃.0;
        check_same = eqb-true _ _ (not-false _ e₄.0);
        path_text = not-false _ e₅.0;
        fields = cc;
      },
  λ p.
      rw (
        le-ltb n block_len p.whole,
        eq-eqb (field b 0 4) magic p.magic_same,
        le-ltb max_path (field b 8 4) p.path_fits,
        eq-eqb (field b 28 4) (check_of b) p.check_same,
        p.path_text,
      )
      (ap Some (sym p.fields)),
)
