-- A turn of the loop is `pours_byte`: the bytes still to be put out make the whole run.
use Rattle.std.proofs.Common.{◌≡◌, ◌+◌, ◌∷◌, get_or, drop, drop-cons, drop_of_length-le, add-one, arith}
use Rattle.output.specs.Writer.{shown}
use Rattle.output.proofs.InParts.{pours_none, pours_byte, after_pours}
use Rattle.output.proofs.put_bytes.Goals as goal

pub loop-x-preserved : goal.loop-x-preserved
loop-x-preserved c =
    let a = c.loop-x in
    let s = c.args.src.now in
    let k : drop a.x-index s ≡ get_or s a.x-index 0 ∷ drop (a.x-index + 1) s = rw add-one (drop-cons s a.x-index 0 (omega arith)) in
    let t = pours_byte (get_or s a.x-index 0) (drop (a.x-index + 1) s) (shown a.out a.a) c.put_byte-a.ensures in
    (omega (arith, after_pours _ _ c.put_byte-a.ensures), cc)

pub returns : goal.returns
returns c =
    let a = c.loop-x in
    let z = drop_of_length-le c.args.src.now {i = a.x-index} (omega arith) in
    let n = pours_none (shown a.out a.a) in
    cc
