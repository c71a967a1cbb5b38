-- The line's end lies in the block, behind its start: `run_fits`.
use native.Mathlib.Omega.{arith}
use lib.ListN.{drop, length-drop}
use Rattle.line_words.proofs.WordByWord.{run_fits}
use Rattle.slots.proofs.next_line.Goals as goal

pub slice_bounds-append-end : goal.slice_bounds-append-end
slice_bounds-append-end c =
    let a = c.args in
    omega (arith, c.run_end-end.ensures, run_fits 10 (drop a.run.at a.input.now), length-drop a.run.at a.input.now, c.requires.1)

pub overflow_add-whole : goal.overflow_add-whole
overflow_add-whole c =
    let a = c.args in
    omega (arith, c.if-end-input.false, c.run_end-end.ensures, run_fits 10 (drop a.run.at a.input.now), length-drop a.run.at a.input.now, c.requires.1)
