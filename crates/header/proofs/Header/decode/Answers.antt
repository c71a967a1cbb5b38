-- `decode` meets its contract by one law of Decode.antt for each way out. `found` is the last.
use Prim.Native.Nat.{ℕ, ◌≤◌}
use mathlib.Core.Path.{◌≡◌, sym, ap, ◌∙◌}
use mathlib.Core.List.{List}
use native.Mathlib.Omega.{arith}
use lib.Seq.{length-take-le}
use Rattle.le.specs.Le.{field}
use Rattle.text.specs.Text.{is_text}
use Rattle.header.specs.Block.{magic, max_path, path_of, check_of}
use Rattle.header.proofs.BlockLaws.{short_absent, found}
use Rattle.header.proofs.Decode.{other_magic, long_path, other_check, no_text_lem, path_part, check_is, fields_are}
use Rattle.header.proofs.Header.decode.Goals as goal

-- ---- what is known where a field was read, of what the read gave and of the test behind it

magic_same : (b : List ℕ) {k : ℕ} → k ≡ field b 0 4 → k ≡ magic → field b 0 4 ≡ magic
magic_same b e t = sym e ∙ t

path_fits : (b : List ℕ) {k : ℕ} → k ≡ field b 8 4 → k ≤ max_path → field b 8 4 ≤ max_path
path_fits b e t = omega (arith, e, t)

-- ---- the ways out

pub returns-then-n-lt-LEN : goal.returns-then-n-lt-LEN
returns-then-n-lt-LEN c = sym (short_absent _ _ c.if-n-lt-LEN.true)

pub returns-then-get_at-ne-MAGIC : goal.returns-then-get_at-ne-MAGIC
returns-then-get_at-ne-MAGIC c =
    other_magic _ _ c.if-n-lt-LEN.false (λ e. c.if-get_at-ne-MAGIC.true (c.get_at.ensures ∙ e))

pub returns-then-path_len-gt-MAX_PATH : goal.returns-then-path_len-gt-MAX_PATH
returns-then-path_len-gt-MAX_PATH c =
    long_path _ _ c.if-n-lt-LEN.false (magic_same _ c.get_at.ensures c.if-get_at-ne-MAGIC.false)
    (omega (arith, c.if-path_len-gt-MAX_PATH.true, c.get_at-path_len.ensures))

pub slice_bounds-fnv1a32-end : goal.slice_bounds-fnv1a32-end
slice_bounds-fnv1a32-end c =
    sym (length-take-le 28 c.args.block (omega arith))

pub returns-then-get_at-check : goal.returns-then-get_at-check
returns-then-get_at-check c =
    let made : c.fnv1a32-check.result ≡ check_of c.args.block =
    check_is c.args.block _ (path_part c.args.block c.get_at-path_len.ensures) c.fnv1a32-part.ensures c.fnv1a32-check.ensures in
    other_check c.args.block _ c.if-n-lt-LEN.false (magic_same c.args.block c.get_at.ensures c.if-get_at-ne-MAGIC.false)
    (path_fits c.args.block c.get_at-path_len.ensures c.if-path_len-gt-MAX_PATH.false)
    (λ e. c.if-get_at-check.true (c.get_at-2.ensures ∙ e ∙ sym made))

pub returns-then-is_text : goal.returns-then-is_text
returns-then-is_text c =
    let b = c.args.block in
    let made : c.fnv1a32-check.result ≡ check_of b =
    check_is b _ (path_part b c.get_at-path_len.ensures) c.fnv1a32-part.ensures c.fnv1a32-check.ensures in
    let text : c.is_text.result ≡ is_text (path_of b) = c.is_text.ensures ∙ ap is_text (path_part b c.get_at-path_len.ensures) in
    sym
    ((found b _ _).1
    (record {
      whole = c.if-n-lt-LEN.false;
      magic_same = magic_same b c.get_at.ensures c.if-get_at-ne-MAGIC.false;
      path_fits = path_fits b c.get_at-path_len.ensures c.if-path_len-gt-MAX_PATH.false;
      check_same = sym c.get_at-2.ensures ∙ c.if-get_at-check.false ∙ made;
      path_text = sym text ∙ c.if-is_text.true;
      fields =
          fields_are b c.get_at-flags.ensures c.get_at-path_len.ensures c.get_at-len.ensures
          c.get_at-generation.ensures;
    }))

pub returns-else-is_text : goal.returns-else-is_text
returns-else-is_text c =
    let b = c.args.block in
    let made : c.fnv1a32-check.result ≡ check_of b =
    check_is b _ (path_part b c.get_at-path_len.ensures) c.fnv1a32-part.ensures c.fnv1a32-check.ensures in
    let text : c.is_text.result ≡ is_text (path_of b) = c.is_text.ensures ∙ ap is_text (path_part b c.get_at-path_len.ensures) in
    no_text_lem _ _ c.if-n-lt-LEN.false (magic_same b c.get_at.ensures c.if-get_at-ne-MAGIC.false)
    (path_fits b c.get_at-path_len.ensures c.if-path_len-gt-MAX_PATH.false)
    (sym c.get_at-2.ensures ∙ c.if-get_at-check.false ∙ made) (sym text ∙ c.if-is_text.false)
