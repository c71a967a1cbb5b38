-- Carried by `sets_padded`: the bytes and the zeros behind them are one run.
use Rattle.std.proofs.Common.{rules, arith, refl, ap, ◌+◌, ◌-◌, length}
use Rattle.std.proofs.Math.Seq.{length-sets}
use Rattle.lists.specs.Blocks.{sets_padded}
use Rattle.lists.specs.Stores.{stored_back, zeros_back}
use Rattle.slot_rows.proofs.put_padded.Goals as goal

pub returns : goal.returns
returns c =
    let a = c.args in
    let n = length a.src.now in
    let m = stored_back a.dst.now a.src.now a.at (a.at + n) refl (omega arith) c.copy_from_slice.ensures.after in
    sets_padded a.dst.now _ _ a.src.now a.width a.at c.requires.1 m
    (zeros_back _ (a.at + n) (a.at + a.width) (a.width - n) (omega arith) (omega (arith, ap length m, length-sets a.dst.now a.at a.src.now)) (c.fill.ensures.after (search rules)))
