-- One law for each way out: `end_no`, `end_ok`.
use Rattle.line_answers.proofs.Ways.{end_no, end_ok}
use Rattle.line_answers.proofs.say_end.Goals as goal

pub returns-then-number-ne0 : goal.returns-then-number-ne0
returns-then-number-ne0 c =
    end_no _ _ c.if-number-ne0.true c.say_no.ensures

pub returns : goal.returns
returns c =
    end_ok _ _ c.if-number-ne0.false c.put_bytes.ensures
