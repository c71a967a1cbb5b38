-- The block is laid over the front of the buffer: `copied`, `encode_done`.
use mathlib.Core.Path.{◌≡◌, sym, ap, ◌∙◌}
use Rattle.le.specs.Le.{laid}
use Rattle.harness.proofs.Ways.{told, copied, encode_done}
use Rattle.header.proofs.BlockLaws.{length_encoded}
use Prim.Native.Nat.{ℕ}
use mathlib.Core.List.{List, ◌++◌}
use lib.ListN.{length, drop}
use lib.Seq.{length-take-le}
use Rattle.harness.proofs.header_encode.Goals as goal

pub copy_from_slice-requires : goal.copy_from_slice-requires
copy_from_slice-requires c =
    let n : length c.encode-block.result ≡ 512 = ap length c.encode-block.ensures ∙ length_encoded _ c.args.path.now c.if-path_len-gt-MAX_PATH.false in
    length-take-le 512 c.args.out.now c.if-out-lt-LEN.false ∙ sym n

pub returns : goal.returns
returns c =
    let a = c.args in
    encode_done a.in_use a.len a.generation a.path.now a.out.now (told c.is_text.ensures c.if-not-is_text.false) c.if-path_len-gt-MAX_PATH.false c.if-out-lt-LEN.false
    (copied c.encode-block.result a.out.now _ 512
    (ap length c.encode-block.ensures ∙ length_encoded _ a.path.now c.if-path_len-gt-MAX_PATH.false)
    (ap (λ (s : List ℕ). s ++ drop 512 a.out.now) c.copy_from_slice.ensures.after) ∙ ap (laid a.out.now 0) c.encode-block.ensures)
