-- The row's part is its spelling.
use Rattle.std.proofs.Common.{◌∙◌, sym, ap}
use Rattle.path.specs.Path.{is_parent}
use Rattle.row_order.specs.Picks.{row_spells}
use Rattle.inner_list.proofs.is_child_dir.Goals as goal

pub returns : goal.returns
returns c =
    let a = c.args in
    c.is_parent.ensures ∙ ap (is_parent a.dir.now) (c.dir_path.ensures ∙ sym (row_spells a.m a.dirs.now c.requires.0 a.j c.requires.1))
