-- Five parts in a row: `numbers_put`.
use Rattle.output.proofs.InParts.{after_pours}
use Rattle.line_answers.proofs.Digits.{spaced_few}
use Rattle.line_dump.proofs.Ways.{numbers_put}
use native.Mathlib.Omega.{arith}
use Rattle.line_dump.proofs.put_numbers.Goals as goal

pub put_number-b-requires : goal.put_number-b-requires
put_number-b-requires c =
    omega (arith, c.requires, after_pours _ _ c.put_byte-a.ensures)

pub put_number-c-requires : goal.put_number-c-requires
put_number-c-requires c =
    omega (arith, c.requires, after_pours _ _ c.put_byte-a.ensures, after_pours _ _ c.put_number-b.ensures, spaced_few c.args.slot)

pub put_number-d-requires : goal.put_number-d-requires
put_number-d-requires c =
    omega (arith, c.requires, after_pours _ _ c.put_byte-a.ensures, after_pours _ _ c.put_number-b.ensures, spaced_few c.args.slot, after_pours _ _ c.put_number-c.ensures, spaced_few c.args.generation)

pub put_number-requires : goal.put_number-requires
put_number-requires c =
    omega (arith, c.requires, after_pours _ _ c.put_byte-a.ensures, after_pours _ _ c.put_number-b.ensures, spaced_few c.args.slot, after_pours _ _ c.put_number-c.ensures, spaced_few c.args.generation, after_pours _ _ c.put_number-d.ensures, spaced_few c.args.len)

pub returns : goal.returns
returns c =
    numbers_put _ _ _ _ _ c.put_byte-a.ensures c.put_number-b.ensures c.put_number-c.ensures c.put_number-d.ensures c.put_number.ensures
