-- One law for each way out: `two_empty`, `two_create`, `two_sync`, `two_remove`, `two_other`.
use Rattle.line_words.proofs.Ways.{two_empty, two_create, two_sync, two_remove, two_other}
use mathlib.Core.Path.{sym, ◌∙◌}
use lib.Seq.{length-take-le}
use native.Mathlib.Omega.{arith}
use Rattle.line_words.proofs.two_words.Goals as goal

pub returns-then-i-line : goal.returns-then-i-line
returns-then-i-line c =
    two_empty c.args.line.now c.args.a c.requires c.if-i-line.true

pub slice_bounds-same_bytes-end : goal.slice_bounds-same_bytes-end
slice_bounds-same_bytes-end c =
    sym (length-take-le c.args.a c.args.line.now (omega arith))

pub returns-then-same_bytes : goal.returns-then-same_bytes
returns-then-same_bytes c =
    two_create c.args.line.now c.args.a c.requires c.if-i-line.false (sym c.same_bytes.ensures ∙ c.if-same_bytes.true)

pub slice_bounds-same_bytes-end-5 : goal.slice_bounds-same_bytes-end-5
slice_bounds-same_bytes-end-5 c =
    sym (length-take-le c.args.a c.args.line.now (omega arith))

pub returns-then-same_bytes-2 : goal.returns-then-same_bytes-2
returns-then-same_bytes-2 c =
    two_sync c.args.line.now c.args.a c.requires c.if-i-line.false (sym c.same_bytes.ensures ∙ c.if-same_bytes.false) (sym c.same_bytes-2.ensures ∙ c.if-same_bytes-2.true)

pub returns-then-same_bytes-3 : goal.returns-then-same_bytes-3
returns-then-same_bytes-3 c =
    two_remove c.args.line.now c.args.a c.requires c.if-i-line.false (sym c.same_bytes.ensures ∙ c.if-same_bytes.false) (sym c.same_bytes-2.ensures ∙ c.if-same_bytes-2.false) (sym c.same_bytes-3.ensures ∙ c.if-same_bytes-3.true)

pub returns : goal.returns
returns c =
    two_other c.args.line.now c.args.a c.requires c.if-i-line.false (sym c.same_bytes.ensures ∙ c.if-same_bytes.false) (sym c.same_bytes-2.ensures ∙ c.if-same_bytes-2.false) (sym c.same_bytes-3.ensures ∙ c.if-same_bytes-3.false)
