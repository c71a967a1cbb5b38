-- Carried by `marks_are`: three bits, one for each test. The queue is sought as `any` seeks (`in_any`).
use Rattle.std.proofs.Common.{◌≡◌, ◌∙◌, ◌==◌, arith, rules}
use borrow.Author.Tests.{tests}
use Rattle.std.proofs.lemmas.Iterator.{YieldsList-from_slice}
use Rattle.std.proofs.lemmas.Iterator.Search.{any_from_yields_List}
use Rattle.script_tables.specs.Tables.{is_in}
use Rattle.script_tables.proofs.Turns.{in_any, weight_le, marks_are}
use Rattle.script_tables.proofs.marks.Goals as goal

pub overflow_add-result : goal.overflow_add-result
overflow_add-result c =
    omega (arith, weight_le _ 1 _ c.weigh-bound.ensures, weight_le _ 2 _ c.weigh-queued.ensures, weight_le _ 4 _ c.weigh-dirty.ensures)

pub overflow_add-result-2 : goal.overflow_add-result-2
overflow_add-result-2 c =
    omega (arith, weight_le _ 1 _ c.weigh-bound.ensures, weight_le _ 2 _ c.weigh-queued.ensures, weight_le _ 4 _ c.weigh-dirty.ensures)

pub returns : goal.returns
returns c =
    let queue = c.args.queue.now in
    let i = c.args.i in
    let queued : c.any.result ≡ is_in i queue =
    any_from_yields_List (λ y. y == i) _ _ _ c.any.ensures.ran (YieldsList-from_slice queue cc) (λ x b q k. search (rules, tests))
    ∙ in_any i queue in
    marks_are _ _ _ _ _ _ _ _ _ c.weigh-bound.ensures c.weigh-queued.ensures c.weigh-dirty.ensures c.is_bound.ensures queued c.is_dirty.ensures
