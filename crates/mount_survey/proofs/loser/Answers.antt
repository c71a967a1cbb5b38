-- One law a way out: no claim, no holder, a holder that is equal or higher, a holder that is lower.
use mathlib.Core.Path.{sym, ◌∙◌}
use Rattle.slot_rows.proofs.InBuffers.{length_rows}
use Rattle.mount_survey.proofs.Finding.{loser_free, loser_alone, loser_newcomer, loser_holder}
use Rattle.mount_survey.proofs.loser.Goals as goal

pub returns-then-not-is_bound : goal.returns-then-not-is_bound
returns-then-not-is_bound c =
    loser_free _ _ _ _ (length_rows _ _ _) c.requires.1 _ (sym c.if-not-is_bound.true ∙ c.is_bound.ensures)

pub returns-then-i-j : goal.returns-then-i-j
returns-then-i-j c =
    loser_alone _ _ _ _ (length_rows _ _ _) c.requires.1 _
    (sym c.if-not-is_bound.false ∙ c.is_bound.ensures) _ _ c.holder-j.ensures c.path.ensures
    c.if-i-j.true

pub returns-then-row_generation : goal.returns-then-row_generation
returns-then-row_generation c =
    loser_newcomer _ _ _ _ (length_rows _ _ _) c.requires.1 _
    (sym c.if-not-is_bound.false ∙ c.is_bound.ensures) _ _ c.holder-j.ensures c.path.ensures
    c.if-i-j.false _ _ c.row_generation-2.ensures c.row_generation.ensures c.if-row_generation.true

pub returns : goal.returns
returns c =
    loser_holder _ _ _ _ (length_rows _ _ _) c.requires.1 _
    (sym c.if-not-is_bound.false ∙ c.is_bound.ensures) _ _ c.holder-j.ensures c.path.ensures
    c.if-i-j.false _ _ c.row_generation-2.ensures c.row_generation.ensures c.if-row_generation.false
