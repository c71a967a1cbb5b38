-- At a mount all is made zero, else all stays.
use Rattle.std.proofs.Common.{rules, ◌≡◌, refl}
use Rattle.calls_gate.specs.Table.{zeroed}
use Rattle.pool_state.specs.State.{bufs}
use Rattle.calls_gate.proofs.Tests.{silent_is, refuses_mount, refuses_other}
use Rattle.calls_gate.proofs.refuse.Goals as goal

pub returns-then-takes : goal.returns-then-takes
returns-then-takes c =
    let z : c.fill.new.self ≡ zeroed c.args.dirs.now = c.fill.ensures.after (search rules) in record {
      told = silent_is _ _ _ _ _ c.silent.ensures refl;
      left = refuses_mount _ _ c.takes_of-takes.ensures
          (bufs c.args.pool c.args.nums.now c.args.names.now c.args.dirs.now) _ _ _ _
          c.silent.ensures _ _ _ c.if-takes.true c.zero-zero.ensures
          c.clear_rows.ensures.nums c.clear_rows.ensures.names z;
    }

pub returns-clause-told : goal.returns-clause-told
returns-clause-told c =
    silent_is _ _ _ _ _ c.silent-2.ensures refl

pub returns-clause-left : goal.returns-clause-left
returns-clause-left c =
    refuses_other _ _ c.takes_of-takes.ensures
    (bufs c.args.pool c.args.nums.now c.args.names.now c.args.dirs.now) _ _ _ _
    c.silent-2.ensures c.if-takes.false refl
