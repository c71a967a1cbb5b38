-- Put out from the start on.
use Rattle.line_answers.proofs.Digits.{whole}
use Rattle.line_answers.proofs.say_what.Goals as goal

pub returns : goal.returns
returns c =
    whole _ _ c.put_bytes.ensures
