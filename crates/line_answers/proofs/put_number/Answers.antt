-- The fewest digits are the decimal: `number_put`.
use Rattle.line_answers.proofs.Digits.{fewest_few}
use native.Mathlib.Omega.{arith}
use Rattle.output.proofs.InParts.{after_pours}
use Rattle.line_answers.proofs.Ways.{number_put}
use Rattle.line_answers.proofs.put_number.Goals as goal

pub put_bytes-requires : goal.put_bytes-requires
put_bytes-requires c =
    omega (arith, after_pours _ _ c.put_byte-a.ensures, fewest_few c.decimal-k.result c.args.n (omega (arith, c.ranges.n)) c.decimal-k.ensures.len)

pub returns : goal.returns
returns c =
    number_put c.args.n _ _ _ (omega (arith, c.ranges.n)) c.decimal-k.ensures.len c.decimal-k.ensures.digits c.put_byte-a.ensures c.put_bytes.ensures
