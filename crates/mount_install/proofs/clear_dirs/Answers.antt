-- Carried by `dirs_cut`: zeros over the last rows leave the first ones.
use Rattle.std.proofs.Common.{rules, arith, ◌-◌, ◌*◌}
use Rattle.limits.specs.Limits.{dir_width}
use Rattle.lists.specs.Stores.{zeros_back}
use Rattle.dir_rows.proofs.InBuffer.{dirs_long}
use Rattle.mount_install.proofs.Walks.{dirs_cut}
use Rattle.mount_install.proofs.clear_dirs.Goals as goal

pub returns : goal.returns
returns c =
    let a = c.args in let pre = c.requires in
    dirs_cut _ _ _ _ _ pre.0 pre.1
    (zeros_back a.dirs.now (a.d * dir_width) (a.e * dir_width) ((a.e - a.d) * dir_width) (omega arith) (omega (arith, dirs_long _ _ _ pre.0, pre.0.few)) (c.fill.ensures.after (search rules)))
