-- What is found from row i on, counted from i, is what is found.
use mathlib.Core.Path.{sym, ◌∙◌}
use native.Mathlib.Omega.{arith}
use Rattle.slot_rows.proofs.InBuffers.{length_rows}
use Rattle.slot_rows.proofs.Search.{found_here, found_later, found_none}
use Rattle.slot_rows.proofs.Rows.find_row.Goals as goal

pub returns-then-row_is-clause-row : goal.returns-then-row_is-clause-row
returns-then-row_is-clause-row c =
    found_here _ _ _ _ c.loop-i.invariant (length_rows _ _ _) (omega arith) (sym c.if-row_is.true ∙ c.row_is.ensures)

pub loop-i-preserved : goal.loop-i-preserved
loop-i-preserved c =
    found_later _ _ _ _ c.loop-i.invariant (length_rows _ _ _) (omega arith) (sym c.if-row_is.false ∙ c.row_is.ensures)

pub returns-clause-row : goal.returns-clause-row
returns-clause-row c =
    found_none _ _ _ _ c.loop-i.invariant (length_rows _ _ _) (omega arith) (omega arith)
