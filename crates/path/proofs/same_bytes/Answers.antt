-- The invariant: the answer is that for what stands before `i` in both. `words_next` passes eight bytes.
use Rattle.std.proofs.Common.{◌-◌, eqb, sym, ◌∙◌, arith}
use Rattle.le.specs.Le.{Bytes}
use Rattle.lists.specs.Same.{same_length}
use Rattle.path.proofs.Bytes.{bytes_pointwise, words_next, words_differ}
use Rattle.path.proofs.same_bytes.Goals as goal

pub returns-then-n-b : goal.returns-then-n-b
returns-then-n-b c =
    let args = c.args in
    sym (same_length eqb args.a.now args.b.now c.if-n-b.true)

pub returns-then-get_at : goal.returns-then-get_at
returns-then-get_at c =
    let args = c.args in
    words_differ args.a.now args.b.now (c.loop-i.i - 8)
    (λ e. c.if-get_at.true (c.get_at.ensures ∙ (e ∙ sym c.get_at-in-loop-i.ensures)))

pub loop-i-preserved : goal.loop-i-preserved
loop-i-preserved c =
    let args = c.args in
    let loop = c.loop-i in
    let a = args.a.now in
    let b = args.b.now in
    let ba : Bytes a = λ j. omega (arith, c.type_inv.a j) in
    let bb : Bytes b = λ j. omega (arith, c.type_inv.b j) in (
      omega arith,
      words_next a b (loop.i - 8) loop.i ba bb (omega arith) (omega arith)
          c.if-n-b.false
          (sym c.get_at.ensures ∙ (c.if-get_at.false ∙ c.get_at-in-loop-i.ensures)) loop.invariant.1,
    )

pub returns : goal.returns
returns c =
    c.eq.ensures ∙ bytes_pointwise _ _ ∙ sym c.loop-i.invariant.1
