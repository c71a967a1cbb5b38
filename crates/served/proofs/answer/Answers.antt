-- Where there is room for a length it is `framed_done`.
use native.Mathlib.Omega.{arith}
use Rattle.served.proofs.Ways.{answer_small, framed_done}
use Rattle.served.proofs.answer.Goals as goal

pub overflow_add-result : goal.overflow_add-result
overflow_add-result c =
    let a = c.args in
    omega (arith, answer_small a.request.now _ c.bare_answer-n.ensures)

pub returns : goal.returns
returns c =
    let a = c.args in
    framed_done a.request.now a.out.now c.if-out-lt4.false c.bare_answer-n.ensures
    c.put_at.ensures
