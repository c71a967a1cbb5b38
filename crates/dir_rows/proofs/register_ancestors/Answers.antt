-- `register_ancestors` meets its contract by the record `Going`: the rows so far and what is missing of the ancestors ahead are the whole.
use mathlib.Core.Path.{sym, ◌∙◌}
use native.Mathlib.Omega.{arith}
use Rattle.dir_rows.proofs.Walks.{going_start, going_same, going_more, going_room, going_short, going_done}
use Rattle.dir_rows.proofs.register_ancestors.Goals as goal

pub loop-end-init : goal.loop-end-init
loop-end-init c =
    going_start _ _ _ _ _ c.requires.0 c.above-end.ensures

pub put_dir-requires : goal.put_dir-requires
put_dir-requires c =
    let g = c.loop-end.invariant in
    let s = c.requires in
    let h = sym c.dir_find-held.ensures ∙ c.if-not-held.true in (
      g.flat,
      going_room _ _ _ _ _ _ _ _ g c.loop-end-test.true c.above-up.ensures h s.1,
      going_short _ _ _ _ _ _ _ _ g c.loop-end-test.true c.above-up.ensures s.2,
    )

pub loop-end-preserved-then-not-held : goal.loop-end-preserved-then-not-held
loop-end-preserved-then-not-held c =
    let g = c.loop-end.invariant in
    let h = sym c.dir_find-held.ensures ∙ c.if-not-held.true in
    going_more _ _ _ _ _ _ _ _ g c.loop-end-test.true c.above-up.ensures h _ (c.put_dir.ensures.rows, c.put_dir.ensures.flat)

pub loop-end-preserved : goal.loop-end-preserved
loop-end-preserved c =
    going_same _ _ _ _ _ _ _ _ c.loop-end.invariant c.loop-end-test.true c.above-up.ensures (sym c.dir_find-held.ensures ∙ c.if-not-held.false)

pub returns : goal.returns
returns c =
    let all = going_done _ _ _ _ _ _ _ c.loop-end.invariant (omega arith) in
    record { rows = all.0; flat = all.1 }
