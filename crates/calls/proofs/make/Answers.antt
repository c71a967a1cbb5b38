-- Refused by the table, `refuses`, or else made, `makes`.
use Rattle.std.proofs.Common.{◌∙◌, ap, refl}
use Rattle.calls_gate.specs.declared.Answer.{Answer}
use Rattle.calls_gate.specs.Replies.{silently}
use Rattle.calls_gate.proofs.Tests.{as_some, as_none}
use Rattle.calls.proofs.Ways.{refuses, makes}
use Rattle.calls.proofs.make.Goals as goal

pub returns-in-Some : goal.returns-in-Some
returns-in-Some c =
    let s = as_some _ _ _ c.refusal-refused.ensures c.in-Some.is in
    refuses _ _ _ _ _ _ _ _ refl s.0 _ _ _ _ (c.refuse.ensures.told ∙ ap (λ (a : Answer). silently a c.args.place c.refuse.result.pool) s.1) c.refuse.ensures.left

pub inner-done-requires : goal.inner-done-requires
inner-done-requires c =
    as_none _ _ c.refusal-refused.ensures c.in_default.is

pub returns : goal.returns
returns c =
    makes _ _ _ _ _ _ _ _ refl (as_none _ _ c.refusal-refused.ensures c.in_default.is) _ _ _ _ _ c.answer_of-answer.ensures
    c.inner-done.ensures
