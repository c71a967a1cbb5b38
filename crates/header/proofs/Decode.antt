-- What the decoder answers, one law a way out, each under the tests that were passed before it.
use Rattle.std.specs.Prelude.{None}
use Prim.Native.Nat.{ℕ, ◌+◌, ◌-◌, ◌<◌, ◌≤◌}
use mathlib.Core.Path.{◌≡◌, sym, ap, ◌∙◌}
use mathlib.Core.Bool.{false}
use mathlib.Core.List.{List}
use native.Mathlib.Nat.{add-sub_cancel_left}
use borrow.Author.Tests.{lt-ltb, le-ltb, eq-eqb, ne_eqb}
use lib.ListN.{take, drop}
use Rattle.fnv.specs.Fnv.{start32, prime32, fnv_from}
use Rattle.fnv.proofs.AnyWidth.{fnv1a_append}
use Rattle.le.specs.Le.{field}
use Rattle.text.specs.Text.{is_text}
use Rattle.header.specs.Block.{block_len, magic, max_path, header_of, in_use, path_of, check_of, fields_of, decoded}

module _ (b : List ℕ) (n : ℕ) (whole : block_len ≤ n) where
  pub other_magic : (field b 0 4 ≡ magic → ⊥) → None ≡ decoded b n
  unfolding decoded
  other_magic a = rw (le-ltb n block_len whole, ne_eqb (field b 0 4) magic a)

  module _ (m : field b 0 4 ≡ magic) where
    pub long_path : max_path < field b 8 4 → None ≡ decoded b n
    unfolding decoded
    long_path a = rw (le-ltb n block_len whole, eq-eqb (field b 0 4) magic m, lt-ltb max_path (field b 8 4) a)

    module _ (p : field b 8 4 ≤ max_path) where
      pub other_check : (field b 28 4 ≡ check_of b → ⊥) → None ≡ decoded b n
      unfolding decoded
      other_check a =
          rw (
            le-ltb n block_len whole,
            eq-eqb (field b 0 4) magic m,
            le-ltb max_path (field b 8 4) p,
            ne_eqb (field b 28 4) (check_of b) a,
          )

      pub no_text_lem : field b 28 4 ≡ check_of b → is_text (path_of b) ≡ false → None ≡ decoded b n
      unfolding decoded
      no_text_lem k a =
          rw (
            le-ltb n block_len whole,
            eq-eqb (field b 0 4) magic m,
            le-ltb max_path (field b 8 4) p,
            eq-eqb (field b 28 4) (check_of b) k,
            a,
          )

-- The part of the block from byte 32 to the path's end.
pub path_part : (b : List ℕ) {p : ℕ} → p ≡ field b 8 4 → take (32 + p - 32) (drop 32 b) ≡ path_of b
path_part b {p} e = ap (λ (k : ℕ). take k (drop 32 b)) (add-sub_cancel_left 32 p ∙ e)

-- The check over bytes 0 to 27, taken on over the path.
pub check_is : (b s : List ℕ) {k₁ k₂ : ℕ} → s ≡ path_of b → k₁ ≡ fnv_from start32 (take 28 b) → k₂ ≡ fnv_from k₁ s → k₂ ≡ check_of b
check_is b s e f g = g ∙ rw (f, e) (sym (fnv1a_append prime32 32 start32 (take 28 b) (path_of b)))

-- The fields, each as it was read.
pub fields_are : (b : List ℕ) {f p l g : ℕ} → f ≡ field b 4 4 → p ≡ field b 8 4 → l ≡ field b 12 8 → g ≡ field b 20 8
    → header_of (in_use f) p l g ≡ fields_of b
fields_are b ef ep el eg = cc
