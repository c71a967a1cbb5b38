-- The invariant: what is to be compared is what is left of both names. `b_over` and `a_over` tell the order where one of them ends.
use Rattle.std.proofs.Common.{◌≡◌, ◌+◌, [], ◌∷◌, ◌++◌, length, get_or, sym, ◌∙◌, arith, length-append, le-ltb, lt-ltb}
use Rattle.std.proofs.lemmas.Slice.Zip.{zip_turn, zip_end}
use Rattle.lists.specs.Order.{nat_same}
use Rattle.path.proofs.Orders.{names_both, b_over, a_over, both_over, numbers_apart}
use Rattle.path.proofs.compare_names.Goals as goal
use Rattle.path.proofs.compare_names.Goals.{else-more_b-via-then-more_b+else-a-b-lt47, else-more_b-via-else-more_b, else-more_a-via-then-more_a+else-low, else-more_a-via-else-more_a}

pub returns-then-x-y : goal.returns-then-x-y
returns-then-x-y c =
    let args = c.args in
    let l = c.loop-x in
    let t = zip_turn args.a.now args.b.now l.yielded c.into_iter-x-iterator.result l.x-iterator c.next.new.self c.next.result (cc) (cc) l.yielded_by _ c.in-Some.is c.next.ensures.steps in
    c.cmp.ensures ∙ sym (l.invariant ∙ names_both args.more_a args.more_b args.a.now args.b.now (length l.yielded) t.0 t.1 ∙ rw (← t.2 0, ← t.3 0) (numbers_apart _ _ c.if-x-y.true _))

pub loop-x-preserved : goal.loop-x-preserved
loop-x-preserved c =
    let args = c.args in
    let l = c.loop-x in
    let t = zip_turn args.a.now args.b.now l.yielded c.into_iter-x-iterator.result l.x-iterator c.next.new.self c.next.result (cc) (cc) l.yielded_by _ c.in-Some.is c.next.ensures.steps in
    let n : length (l.yielded ++ (c.in-Some.x, c.in-Some.y) ∷ []) ≡ length l.yielded + 1 = simp length-append in
    let e : get_or args.a.now (length l.yielded) 0 ≡ get_or args.b.now (length l.yielded) 0 = sym (t.2 0) ∙ c.if-x-y.false ∙ t.3 0 in
    rw n (l.invariant ∙ names_both args.more_a args.more_b args.a.now args.b.now (length l.yielded) t.0 t.1 ∙ rw (nat_same (get_or args.a.now (length l.yielded) 0) (get_or args.b.now (length l.yielded) 0) (omega arith) (omega arith)))

pub returns-then-a-b-lt47 : goal.returns-then-a-b-lt47
returns-then-a-b-lt47 c =
    let args = c.args in
    let l = c.loop-x in
    let k = zip_end args.a.now args.b.now l.yielded c.into_iter-x-iterator.result l.x-iterator c.next.new.self c.next.result (cc) (cc) l.yielded_by c.in-None.is c.next.ensures.steps in
    sym (b_over args.more_a args.more_b args.a.now args.b.now _ k l.invariant c.if-b-a.true ∙ rw (c.if-more_b.true, lt-ltb _ _ c.if-a-b-lt47.true))

pub returns-then-b-a : goal.returns-then-b-a
returns-then-b-a c =
    let args = c.args in
    let l = c.loop-x in
    let k = zip_end args.a.now args.b.now l.yielded c.into_iter-x-iterator.result l.x-iterator c.next.new.self c.next.result (cc) (cc) l.yielded_by c.in-None.is c.next.ensures.steps in
    let o = b_over args.more_a args.more_b args.a.now args.b.now _ k l.invariant c.if-b-a.true in
    elim c.else-more_b.branch [
      | else-more_b-via-then-more_b+else-a-b-lt47 w ↦ sym (o ∙ rw (w.if-more_b.true, le-ltb _ _ w.if-a-b-lt47.false))
      | else-more_b-via-else-more_b w ↦ sym (o ∙ rw w.if-more_b.false)
    ]

pub returns-then-low : goal.returns-then-low
returns-then-low c =
    let args = c.args in
    let l = c.loop-x in
    let k = zip_end args.a.now args.b.now l.yielded c.into_iter-x-iterator.result l.x-iterator c.next.new.self c.next.result (cc) (cc) l.yielded_by c.in-None.is c.next.ensures.steps in
    sym (a_over args.more_a args.more_b args.a.now args.b.now _ k l.invariant c.if-a-b.true ∙ rw (c.if-more_a.true, le-ltb _ _ c.if-low.true))

pub returns-then-a-b : goal.returns-then-a-b
returns-then-a-b c =
    let args = c.args in
    let l = c.loop-x in
    let k = zip_end args.a.now args.b.now l.yielded c.into_iter-x-iterator.result l.x-iterator c.next.new.self c.next.result (cc) (cc) l.yielded_by c.in-None.is c.next.ensures.steps in
    let o = a_over args.more_a args.more_b args.a.now args.b.now _ k l.invariant c.if-a-b.true in
    elim c.else-more_a.branch [
      | else-more_a-via-then-more_a+else-low w ↦ sym (o ∙ rw (w.if-more_a.true, lt-ltb 47 (get_or args.b.now (length args.a.now) 0) w.if-low.false))
      | else-more_a-via-else-more_a w ↦ sym (o ∙ rw w.if-more_a.false)
    ]

pub returns : goal.returns
returns c =
    let args = c.args in
    let l = c.loop-x in
    let k = zip_end args.a.now args.b.now l.yielded c.into_iter-x-iterator.result l.x-iterator c.next.new.self c.next.result (cc) (cc) l.yielded_by c.in-None.is c.next.ensures.steps in
    sym (both_over args.more_a args.more_b args.a.now args.b.now _ k l.invariant (omega arith))
