-- One law for each way out: `open_no`, `open_ok` with `made_said`.
use Rattle.output.proofs.InParts.{after_pours}
use Rattle.line_answers.proofs.Digits.{spaced_few}
use Rattle.line_answers.proofs.Ways.{made_said, open_no, open_ok}
use native.Mathlib.Omega.{arith}
use Rattle.line_answers.proofs.say_open.Goals as goal

pub returns-then-number-ne0 : goal.returns-then-number-ne0
returns-then-number-ne0 c =
    open_no _ _ _ _ _ c.if-number-ne0.true c.say_no.ensures

pub put_number-b-requires : goal.put_number-b-requires
put_number-b-requires c =
    omega (arith, after_pours _ _ c.put_bytes-a.ensures)

pub put_number-c-requires : goal.put_number-c-requires
put_number-c-requires c =
    omega (arith, after_pours _ _ c.put_bytes-a.ensures, after_pours _ _ c.put_number-b.ensures, spaced_few c.args.slot)

pub put_number-d-requires : goal.put_number-d-requires
put_number-d-requires c =
    omega (arith, after_pours _ _ c.put_bytes-a.ensures, after_pours _ _ c.put_number-b.ensures, after_pours _ _ c.put_number-c.ensures, spaced_few c.args.slot, spaced_few c.args.generation)

pub put_byte-requires : goal.put_byte-requires
put_byte-requires c =
    omega (arith, after_pours _ _ c.put_bytes-a.ensures, after_pours _ _ c.put_number-b.ensures, after_pours _ _ c.put_number-c.ensures, after_pours _ _ c.put_number-d.ensures, spaced_few c.args.slot, spaced_few c.args.generation, spaced_few c.args.len)

pub returns : goal.returns
returns c =
    open_ok _ _ _ _ _ c.if-number-ne0.false (made_said _ _ _ _ c.put_bytes-a.ensures c.put_number-b.ensures c.put_number-c.ensures c.put_number-d.ensures c.put_byte.ensures)
