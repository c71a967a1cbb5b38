-- One law for each way out, from `front_long` to `front_goes`.
use mathlib.Core.Path.{sym, ◌∙◌}
use Rattle.pool_state.specs.InBuffers.{pool_rows, pool_dirs}
use Rattle.inner_rename.proofs.Ways.{need_small, front_long, front_same, front_same_none, front_none, front_refused, front_goes}
use Rattle.inner_rename.proofs.front.Goals as goal

pub returns-then-to-gt-MAX_PATH : goal.returns-then-to-gt-MAX_PATH
returns-then-to-gt-MAX_PATH c =
    c.stop.ensures ∙ front_long _ _ _ c.if-to-gt-MAX_PATH.true

pub find_row-i-requires : goal.find_row-i-requires
find_row-i-requires c =
    pool_rows _ c.requires

pub returns-then-i-n : goal.returns-then-i-n
returns-then-i-n c =
    c.stop-then-i-n.ensures ∙ front_same _ _ _ c.if-to-gt-MAX_PATH.false _ c.find_row-i.ensures.row (sym c.same_path.ensures ∙ c.if-same_path.true) c.if-i-n.true

pub returns-then-same_path : goal.returns-then-same_path
returns-then-same_path c =
    c.stop-then-same_path.ensures ∙ front_same_none _ _ _ c.if-to-gt-MAX_PATH.false _ c.find_row-i.ensures.row (sym c.same_path.ensures ∙ c.if-same_path.true) c.if-i-n.false

pub returns-then-n-i : goal.returns-then-n-i
returns-then-n-i c =
    c.stop-then-n-i.ensures ∙ front_none _ _ _ c.if-to-gt-MAX_PATH.false _ c.find_row-i.ensures.row (sym c.same_path.ensures ∙ c.if-same_path.false) c.if-n-i.true

pub find_row-j-requires : goal.find_row-j-requires
find_row-j-requires c =
    pool_rows _ c.requires

pub room-no-requires : goal.room-no-requires
room-no-requires c =
    (pool_dirs _ c.requires, need_small c.find_row-j.result c.args.pool.held _ c.needed-need.ensures)

pub returns-then-no-ne0 : goal.returns-then-no-ne0
returns-then-no-ne0 c =
    c.stop-then-no-ne0.ensures ∙ front_refused _ _ _ c.if-to-gt-MAX_PATH.false _ c.find_row-i.ensures.row
    (sym c.same_path.ensures ∙ c.if-same_path.false)
    c.if-n-i.false _ c.find_row-j.ensures.row _
    c.needed-need.ensures _ c.room-no.ensures c.if-no-ne0.true

pub returns : goal.returns
returns c =
    front_goes _ _ _ c.if-to-gt-MAX_PATH.false _ c.find_row-i.ensures.row
    (sym c.same_path.ensures
    ∙ c.if-same_path.false) c.if-n-i.false _
    c.find_row-j.ensures.row _ c.needed-need.ensures _ c.room-no.ensures
    c.if-no-ne0.false
