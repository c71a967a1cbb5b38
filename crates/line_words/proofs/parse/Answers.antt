-- The line's words one by one: `request_one`, `request_two`, `request_three`, `request_more`.
use Rattle.line_words.proofs.Ways.{stands, too_long_lem, request_one, first_ends, request_two, second_ends, request_three, request_more}
use native.Mathlib.Omega.{arith}
use Rattle.line_words.proofs.parse.Goals as goal

pub returns-then-n-gt-MAX_LINE : goal.returns-then-n-gt-MAX_LINE
returns-then-n-gt-MAX_LINE c =
    too_long_lem c.args.line.now c.if-n-gt-MAX_LINE.true

pub returns-then-a-n : goal.returns-then-a-n
returns-then-a-n c =
    stands (request_one _ c.if-n-gt-MAX_LINE.false _ c.run_end-a.ensures c.if-a-n.true) c.one_word.ensures

pub overflow_add-a : goal.overflow_add-a
overflow_add-a c =
    omega (arith, first_ends _ c.if-n-gt-MAX_LINE.false _ c.run_end-a.ensures c.if-a-n.false)

pub run_end-b-requires : goal.run_end-b-requires
run_end-b-requires c =
    omega (arith, first_ends _ c.if-n-gt-MAX_LINE.false _ c.run_end-a.ensures c.if-a-n.false)

pub two_words-requires : goal.two_words-requires
two_words-requires c =
    first_ends _ c.if-n-gt-MAX_LINE.false _ c.run_end-a.ensures c.if-a-n.false

pub returns-then-b-n : goal.returns-then-b-n
returns-then-b-n c =
    stands (request_two _ c.if-n-gt-MAX_LINE.false _ c.run_end-a.ensures c.if-a-n.false _ c.run_end-b.ensures c.if-b-n.true) c.two_words.ensures

pub overflow_add-b : goal.overflow_add-b
overflow_add-b c =
    omega (arith, second_ends _ c.if-n-gt-MAX_LINE.false _ c.run_end-a.ensures c.if-a-n.false _ c.run_end-b.ensures c.if-b-n.false)

pub run_end-e-requires : goal.run_end-e-requires
run_end-e-requires c =
    omega (arith, second_ends _ c.if-n-gt-MAX_LINE.false _ c.run_end-a.ensures c.if-a-n.false _ c.run_end-b.ensures c.if-b-n.false)

pub three_words-requires : goal.three_words-requires
three_words-requires c =
    second_ends _ c.if-n-gt-MAX_LINE.false _ c.run_end-a.ensures c.if-a-n.false _ c.run_end-b.ensures c.if-b-n.false

pub returns-then-e-n : goal.returns-then-e-n
returns-then-e-n c =
    stands (request_three _ c.if-n-gt-MAX_LINE.false _ c.run_end-a.ensures c.if-a-n.false _ c.run_end-b.ensures c.if-b-n.false _ c.run_end-e.ensures c.if-e-n.true) c.three_words.ensures

pub returns : goal.returns
returns c =
    request_more _ c.if-n-gt-MAX_LINE.false _ c.run_end-a.ensures c.if-a-n.false _ c.run_end-b.ensures c.if-b-n.false _ c.run_end-e.ensures c.if-e-n.false
