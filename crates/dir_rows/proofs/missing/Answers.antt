-- `missing` meets its contract by `absent_more` and `absent_same`: the ancestors still ahead, and the count so far.
use mathlib.Core.Path.{sym, ◌∙◌, ap}
use native.Mathlib.Omega.{arith}
use lib.ListN.{length}
use Rattle.dir_rows.specs.Rows.{dirs_of}
use Rattle.path.proofs.Ancestors.{up_falls}
use Rattle.dir_rows.proofs.Walks.{absent_none, absent_more, absent_same}
use Rattle.dir_rows.proofs.missing.Goals as goal

pub loop-e-preserved-then-not-dir_find : goal.loop-e-preserved-then-not-dir_find
loop-e-preserved-then-not-dir_find c =
    let t = c.loop-e-test.true in
    let u = c.above-up.ensures in
    let f = up_falls _ _ _ (omega arith) t u in
    let q = absent_more _ _ _ (omega arith) t u _ (sym c.dir_find.ensures ∙ c.if-not-dir_find.true) in
    (omega arith, omega (arith, ap length q))

pub loop-e-preserved : goal.loop-e-preserved
loop-e-preserved c =
    let t = c.loop-e-test.true in
    let u = c.above-up.ensures in
    let f = up_falls _ _ _ (omega arith) t u in
    let q = absent_same _ _ _ (omega arith) t u _ (sym c.dir_find.ensures ∙ c.if-not-dir_find.false) in
    (omega arith, omega (arith, ap length q))

pub returns : goal.returns
returns c =
    let a = c.args in
    let q = absent_none (dirs_of a.dirs.now a.m) a.p.now c.loop-e.e (omega arith) in
    omega (arith, ap length q)
