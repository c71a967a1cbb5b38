-- The ways out are `nothing_asked`, `not_whole`, `no_room` and `whole_answer`.
use native.Mathlib.Omega.{arith}
use Rattle.served.proofs.Ways.{nothing_asked, not_whole, end_fits, no_room, lent_part, whole_answer}
use Rattle.served.proofs.bare_answer.Goals as goal

pub returns-then-request-eq0 : goal.returns-then-request-eq0
returns-then-request-eq0 c =
    let a = c.args in
    nothing_asked a.request.now a.out.now c.if-request-eq0.true

pub returns-in_default : goal.returns-in_default
returns-in_default c =
    let a = c.args in
    not_whole a.request.now a.out.now c.if-request-eq0.false c.lends.ensures c.in_default.is

pub overflow_add-end : goal.overflow_add-end
overflow_add-end c =
    let a = c.args in
    omega (
      arith,
      end_fits a.request.now a.out.now c.if-request-eq0.false c.lends.ensures c.in-Some.is c.width_of-width.ensures,
    )

pub returns-then-out-end : goal.returns-then-out-end
returns-then-out-end c =
    let a = c.args in
    no_room a.request.now a.out.now c.if-request-eq0.false c.lends.ensures c.in-Some.is
    c.width_of-width.ensures c.if-out-end.true

pub ask-r-requires : goal.ask-r-requires
ask-r-requires c =
    let a = c.args in
    lent_part a.request.now a.out.now c.if-request-eq0.false c.lends.ensures c.in-Some.is
    c.width_of-width.ensures c.if-out-end.false

pub returns : goal.returns
returns c =
    let a = c.args in
    whole_answer a.request.now a.out.now c.if-request-eq0.false c.lends.ensures c.in-Some.is
    c.width_of-width.ensures c.if-out-end.false c.ask-r.ensures c.put_at.ensures
