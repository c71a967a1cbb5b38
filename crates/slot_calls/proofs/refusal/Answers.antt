-- One law for each way out: `wrong_shape`, `no_text_lem`, `too_long_lem`, `out_of_range`, `not_refused`.
use Rattle.std.proofs.Common.{sym, ◌∙◌, arith}
use Rattle.slot_calls.proofs.Ways.{wrong_shape, no_text_lem, too_long_lem, out_of_range, not_refused}
use Rattle.slot_calls.proofs.refusal.Goals as goal

pub returns-then-not-shape_ok : goal.returns-then-not-shape_ok
returns-then-not-shape_ok c =
    wrong_shape _ _ _ _ _ (sym c.shape_ok.ensures ∙ c.if-not-shape_ok.true)

pub returns-then-not-is_text : goal.returns-then-not-is_text
returns-then-not-is_text c =
    no_text_lem _ _ _ _ _ (sym c.shape_ok.ensures ∙ c.if-not-shape_ok.false) (sym
    c.is_text.ensures ∙ c.if-not-is_text.true)

pub returns-then-path-gt-MAX_PATH : goal.returns-then-path-gt-MAX_PATH
returns-then-path-gt-MAX_PATH c =
    too_long_lem _ _ _ _ _ (sym c.shape_ok.ensures ∙ c.if-not-shape_ok.false) (sym
    c.is_text.ensures ∙ c.if-not-is_text.false) c.if-path-gt-MAX_PATH.true

pub returns-then-phys-slot : goal.returns-then-phys-slot
returns-then-phys-slot c =
    out_of_range _ _ _ _ _ (sym c.shape_ok.ensures ∙ c.if-not-shape_ok.false) (sym
    c.is_text.ensures ∙ c.if-not-is_text.false) (omega arith) (omega arith)

pub returns : goal.returns
returns c =
    not_refused _ _ _ _ _ (sym c.shape_ok.ensures ∙ c.if-not-shape_ok.false) (sym
    c.is_text.ensures ∙ c.if-not-is_text.false) c.if-path-gt-MAX_PATH.false c.if-phys-slot.false
