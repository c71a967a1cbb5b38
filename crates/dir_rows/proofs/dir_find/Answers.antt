-- `dir_find` meets its contract by `has_hit`, `has_on` and `has_end`: what is left of the rows answers for all of them.
use mathlib.Core.Path.{sym, ◌∙◌, ap}
use native.Mathlib.Omega.{arith}
use Rattle.path.specs.Path.{same_path}
use Rattle.dir_rows.specs.Rows.{dir_at}
use Rattle.dir_rows.proofs.Walks.{has_start, has_hit, has_on, has_end}
use Rattle.dir_rows.proofs.dir_find.Goals as goal

pub loop-j-init : goal.loop-j-init
loop-j-init c =
    let a = c.args in
    has_start a.dirs.now a.m a.p.now

pub returns-then-same_path : goal.returns-then-same_path
returns-then-same_path c =
    let l = c.loop-j in
    let a = c.args in
    sym
    (l.invariant
    ∙ has_hit (dir_at a.dirs.now) l.j a.m a.p.now (omega arith)
    (ap (λ (x : _). same_path x a.p.now) (sym c.dir_path.ensures)
    ∙ sym c.same_path.ensures ∙ c.if-same_path.true))

pub loop-j-preserved : goal.loop-j-preserved
loop-j-preserved c =
    let l = c.loop-j in
    let a = c.args in
    l.invariant
    ∙ has_on (dir_at a.dirs.now) l.j a.m a.p.now (omega arith)
    (ap (λ (x : _). same_path x a.p.now) (sym c.dir_path.ensures)
    ∙ sym c.same_path.ensures ∙ c.if-same_path.false)

pub returns : goal.returns
returns c =
    sym (c.loop-j.invariant ∙ has_end _ _ _ _ (omega arith))
