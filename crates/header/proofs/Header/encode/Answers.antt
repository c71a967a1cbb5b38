-- `encode` meets its contract by `steps`; the block's middle, lent to the copier, is back by `copy_back`.
use mathlib.Core.Path.{refl, sym}
use native.Mathlib.Omega.{arith}
use lib.ListN.{length}
use lib.Seq.{length-take-le}
use Rattle.le.proofs.Parts.{mid_back}
use Rattle.header.proofs.Encode.{steps}
use Rattle.header.proofs.Header.encode.Goals as goal

pub slice_bounds-fnv1a32-end : goal.slice_bounds-fnv1a32-end
slice_bounds-fnv1a32-end c =
    sym (length-take-le 28 c.put_fixed.new.block (omega arith))

pub returns : goal.returns
returns c =
    let a = c.args in
    let path = a.path.now in
    let block = c.put_at.new.dst in
    steps a.self path c.zeros-block.result c.zeros-block.ensures c.put_fixed.ensures c.fnv1a32-part.ensures
    c.fnv1a32-check.ensures c.put_at.ensures (rw c.copy_from_slice.ensures.after (mid_back 32 (length path) block path refl))
