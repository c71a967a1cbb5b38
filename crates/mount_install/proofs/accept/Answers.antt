-- One law for each way out: `refused_eight`, `refused_nine`, `accepted`.
use Rattle.mount_install.specs.Install.{three}
use Rattle.mount_install.proofs.Walks.{refused_eight, found_flat, found_more, refused_nine, accepted}
use native.Mathlib.Omega.{arith}
use Rattle.mount_install.proofs.accept.Goals as goal

pub returns-in_default : goal.returns-in_default
returns-in_default c =
    let all = refused_eight c.args.pool.chosen.rows c.args.pool.chosen.dir_rows c.args.pool.held c.args.m c.args.pool.dirs c.args.counter c.args.losers (three c.args.nums.now c.args.names.now c.args.dirs.now) c.requires.0 c.requires.1 _ _ c.register_claims.ensures.told c.register_claims.ensures.dirs c.in_default.is _ _ c.unstage.ensures.nums c.unstage.ensures.names in
    record { out = all.0; taken = all.1.0; back = all.1.1 }

pub clear_dirs-requires : goal.clear_dirs-requires
clear_dirs-requires c =
    ((found_flat c.args.pool.chosen.rows c.args.pool.chosen.dir_rows c.args.pool.held c.args.m c.args.pool.dirs c.args.counter c.args.losers (three c.args.nums.now c.args.names.now c.args.dirs.now) c.requires.0 c.requires.1 _ _ c.register_claims.ensures.told c.register_claims.ensures.dirs _ c.in-Some.is).1, found_more c.args.pool.chosen.rows c.args.pool.chosen.dir_rows c.args.pool.held c.args.m c.args.pool.dirs c.args.counter c.args.losers (three c.args.nums.now c.args.names.now c.args.dirs.now) c.requires.0 c.requires.1 _ _ c.register_claims.ensures.told c.register_claims.ensures.dirs _ c.in-Some.is)

pub returns-then-losers-counter : goal.returns-then-losers-counter
returns-then-losers-counter c =
    let all = refused_nine c.args.pool.chosen.rows c.args.pool.chosen.dir_rows c.args.pool.held c.args.m c.args.pool.dirs c.args.counter c.args.losers (three c.args.nums.now c.args.names.now c.args.dirs.now) c.requires.0 c.requires.1 _ _ c.register_claims.ensures.told c.register_claims.ensures.dirs _ c.in-Some.is _ _ _ (omega arith) c.unstage-then-losers-counter.ensures.nums c.unstage-then-losers-counter.ensures.names c.clear_dirs.ensures in
    record { out = all.0; taken = all.1.0; back = all.1.1 }

pub returns : goal.returns
returns c =
    let all = accepted c.args.pool.chosen.rows c.args.pool.chosen.dir_rows c.args.pool.held c.args.m c.args.pool.dirs c.args.counter c.args.losers (three c.args.nums.now c.args.names.now c.args.dirs.now) c.requires.0 c.requires.1 _ _ c.register_claims.ensures.told c.register_claims.ensures.dirs _ c.in-Some.is (omega arith) in
    record { out = all.0; taken = all.1.0; back = all.1.1 }
