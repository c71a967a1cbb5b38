-- Three parts in a row: `no_said`.
use Rattle.output.proofs.InParts.{after_pours}
use Rattle.line_answers.proofs.Digits.{spaced_few}
use Rattle.line_answers.proofs.Ways.{no_said}
use native.Mathlib.Omega.{arith}
use Rattle.line_answers.proofs.say_no.Goals as goal

pub put_number-b-requires : goal.put_number-b-requires
put_number-b-requires c =
    omega (arith, after_pours _ _ c.put_bytes-a.ensures)

pub put_byte-requires : goal.put_byte-requires
put_byte-requires c =
    omega (arith, after_pours _ _ c.put_bytes-a.ensures, after_pours _ _ c.put_number-b.ensures, spaced_few c.args.number)

pub returns : goal.returns
returns c =
    no_said _ _ c.put_bytes-a.ensures c.put_number-b.ensures c.put_byte.ensures
