-- Carried by the record `Going`: registering what is left gives the whole.
use mathlib.Core.Path.{sym, ◌∙◌}
use Rattle.dir_rows.proofs.InBuffer.{dirs_long}
use Rattle.mount_install.proofs.Walks.{going_start, going_more, going_flat, going_full, going_done}
use native.Mathlib.Omega.{arith}
use Rattle.mount_install.proofs.register_claims.Goals as goal

pub loop-i-init : goal.loop-i-init
loop-i-init c =
    going_start _ _ _ _ _ _ _ _ c.requires.2 c.requires.1

pub register_row-requires : goal.register_row-requires
register_row-requires c =
    (c.requires.0, c.loop-i.invariant.flat, omega arith)

pub clear_dirs-requires : goal.clear_dirs-requires
clear_dirs-requires c =
    (going_flat _ _ _ _ _ _ _ _ _ _ _ c.loop-i.invariant c.loop-i-test.true _ _ c.register_row.ensures.told c.register_row.ensures.dirs c.in_default.is, c.loop-i.invariant.onward)

pub shape_of-dirs-in_default : goal.shape_of-dirs-in_default
shape_of-dirs-in_default c =
    let f = going_flat _ _ _ _ _ _ _ _ _ _ _ c.loop-i.invariant c.loop-i-test.true _ _ c.register_row.ensures.told c.register_row.ensures.dirs c.in_default.is in
    omega (arith, c.clear_dirs.auto.dirs, dirs_long _ _ _ f, dirs_long _ _ _ c.requires.1)

pub returns-in_default : goal.returns-in_default
returns-in_default c =
    let all = going_full _ _ _ _ _ _ _ _ _ _ _ c.loop-i.invariant c.loop-i-test.true _ _ c.register_row.ensures.told c.register_row.ensures.dirs c.in_default.is c.requires.1 _ c.clear_dirs.ensures in
    record { told = all.0; dirs = all.1 }

pub loop-i-preserved : goal.loop-i-preserved
loop-i-preserved c =
    going_more _ _ _ _ _ _ _ _ _ _ _ c.loop-i.invariant c.requires.0 c.loop-i-test.true _ _ _ c.register_row.ensures.told c.register_row.ensures.dirs c.in-Some.is

pub shape_of-dirs : goal.shape_of-dirs
shape_of-dirs c =
    dirs_long _ _ _ c.loop-i.invariant.flat ∙ sym (dirs_long _ _ _ c.requires.1)

pub returns : goal.returns
returns c =
    let all = going_done _ _ _ _ _ _ _ _ _ _ _ c.loop-i.invariant (omega arith) in
    record { told = all.0; dirs = all.1 }
