-- By `row_spells`: the row's length is that of the directory.
use Prim.Native.Nat.{ℕ, ◌+◌, ◌*◌}
use mathlib.Core.List.{List}
use mathlib.Core.Path.{sym, ap, ◌∙◌}
use lib.ListN.{length}
use Rattle.limits.specs.Limits.{dir_width}
use Rattle.dir_rows.proofs.InBuffer.{dir_short}
use Rattle.row_order.specs.Spans.{span, dir_span}
use Rattle.row_order.specs.Picks.{row_spells}
use native.Mathlib.Omega.{arith}
use Rattle.row_order.proofs.dir_span.Goals as goal

pub span-requires : goal.span-requires
span-requires c =
    omega (arith, ap length c.dir_path.ensures, dir_short c.args.dirs.now c.args.j)

pub returns : goal.returns
unfolding dir_span
returns c =
    let a = c.args in
    c.span.ensures ∙ ap (λ (x : List ℕ). span (a.j * dir_width + 2) (length x)) (c.dir_path.ensures ∙ sym (row_spells a.m a.dirs.now c.requires.0 a.j c.requires.1))
