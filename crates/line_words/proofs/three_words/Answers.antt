-- One law for each way out: `three_empty`, `three_end`, `three_move`, `three_other`.
use Rattle.line_words.proofs.Ways.{three_empty, three_end, three_move, three_other}
use mathlib.Core.Path.{sym, ◌∙◌}
use lib.Seq.{length-take-le}
use native.Mathlib.Omega.{arith}
use Rattle.line_words.proofs.three_words.Goals as goal

pub returns-then-i-b : goal.returns-then-i-b
returns-then-i-b c =
    three_empty c.args.line.now c.args.a c.args.b c.requires.0 c.requires.1 c.if-i-b.true

pub returns-then-b-line : goal.returns-then-b-line
returns-then-b-line c =
    three_end c.args.line.now c.args.a c.args.b c.requires.0 c.requires.1 c.if-i-b.false c.if-b-line.true

pub slice_bounds-same_bytes-end : goal.slice_bounds-same_bytes-end
slice_bounds-same_bytes-end c =
    sym (length-take-le c.args.a c.args.line.now (omega arith))

pub returns-then-same_bytes : goal.returns-then-same_bytes
returns-then-same_bytes c =
    three_move c.args.line.now c.args.a c.args.b c.requires.0 c.requires.1 c.if-i-b.false c.if-b-line.false (sym c.same_bytes.ensures ∙ c.if-same_bytes.true)

pub returns : goal.returns
returns c =
    three_other c.args.line.now c.args.a c.args.b c.requires.0 c.requires.1 c.if-i-b.false c.if-b-line.false (sym c.same_bytes.ensures ∙ c.if-same_bytes.false)
