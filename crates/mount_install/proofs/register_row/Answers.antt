-- One law for each way out: `row_full`, `row_done`.
use Rattle.dir_rows.proofs.InBuffer.{dirs_long}
use Rattle.mount_install.proofs.Walks.{row_full, row_room, row_done}
use native.Mathlib.Omega.{arith}
use Rattle.mount_install.proofs.register_row.Goals as goal

pub missing-requires : goal.missing-requires
missing-requires c =
    omega (arith, dirs_long _ _ _ c.requires.1, c.requires.1.few)

pub returns-then-dir_cap-d : goal.returns-then-dir_cap-d
returns-then-dir_cap-d c =
    let all = row_full _ _ _ _ c.requires.1 _ c.path-path.ensures _ c.missing.ensures c.if-dir_cap-d.true in
    record { told = all.0; dirs = all.1 }

pub register_ancestors-requires : goal.register_ancestors-requires
register_ancestors-requires c =
    let r = row_room _ _ _ _ c.requires.1 _ c.path-path.ensures (c.requires.0.short _) _ c.missing.ensures (omega arith) in
    (c.requires.1, r.0, r.1)

pub returns : goal.returns
returns c =
    let all = row_done _ _ _ _ c.requires.1 _ c.path-path.ensures _ _ c.register_ancestors.ensures.rows c.register_ancestors.ensures.flat in
    record { told = all.0; dirs = all.1 }
