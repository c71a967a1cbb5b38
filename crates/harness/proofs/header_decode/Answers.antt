-- A block that is too short says nothing: `decode_short`.
use Rattle.harness.proofs.Ways.{decode_short}
use Rattle.harness.proofs.header_decode.Goals as goal

pub returns-then-n-lt-LEN : goal.returns-then-n-lt-LEN
returns-then-n-lt-LEN c =
    decode_short c.args.block.now c.args.out.now c.if-out-lt32.false c.if-n-lt-LEN.true
