-- One law for each way out.
use mathlib.Core.Path.{ap}
use Rattle.calls_gate.specs.Answers.{answer_of, refused_as}
use Rattle.calls_gate.proofs.Tests.{mount_shape, mount_rows, mount_none, bars_record, bars_shape, bars_few, bars_first, bars_second, bars_none}
use Rattle.device.specs.Device.{dev}
use Rattle.pool_state.specs.State.{bufs}
use Rattle.pool_steps.specs.World.{lent}
use Rattle.calls_gate.proofs.refusal.Goals as goal

pub returns-then-not-shape_ok : goal.returns-then-not-shape_ok
unfolding answer_of
returns-then-not-shape_ok c =
    ap refused_as (mount_shape _ _ _ _ (lent (dev c.args.bytes.now c.args.phys.now c.args.place)
    (bufs c.args.pool c.args.nums.now c.args.names.now c.args.dirs.now)) _
    c.takes_of-takes.ensures c.if-takes.true _ c.shape_ok.ensures c.if-not-shape_ok.true)

pub returns-then-not-rows_ok : goal.returns-then-not-rows_ok
unfolding answer_of
returns-then-not-rows_ok c =
    ap refused_as (mount_rows _ _ _ _ (lent (dev c.args.bytes.now c.args.phys.now c.args.place)
    (bufs c.args.pool c.args.nums.now c.args.names.now c.args.dirs.now)) _
    c.takes_of-takes.ensures c.if-takes.true _
    c.shape_ok.ensures c.if-not-shape_ok.false _ c.rows_ok.ensures
    c.if-not-rows_ok.true)

pub returns-then-takes : goal.returns-then-takes
unfolding answer_of
returns-then-takes c =
    ap refused_as (mount_none _ _ _ _ (lent (dev c.args.bytes.now c.args.phys.now c.args.place)
    (bufs c.args.pool c.args.nums.now c.args.names.now c.args.dirs.now)) _
    c.takes_of-takes.ensures c.if-takes.true _
    c.shape_ok.ensures c.if-not-shape_ok.false _ c.rows_ok.ensures c.if-not-rows_ok.false)

pub returns-then-not-pool_ok : goal.returns-then-not-pool_ok
unfolding answer_of
returns-then-not-pool_ok c =
    ap refused_as (bars_record _ _ _ _ (lent (dev c.args.bytes.now c.args.phys.now c.args.place)
    (bufs c.args.pool c.args.nums.now c.args.names.now c.args.dirs.now)) _
    c.takes_of-takes.ensures c.if-takes.false _ c.pool_ok.ensures c.if-not-pool_ok.true)

pub returns-then-not-shape_ok-2 : goal.returns-then-not-shape_ok-2
unfolding answer_of
returns-then-not-shape_ok-2 c =
    ap refused_as (bars_shape _ _ _ _ (lent (dev c.args.bytes.now c.args.phys.now c.args.place)
    (bufs c.args.pool c.args.nums.now c.args.names.now c.args.dirs.now)) _
    c.takes_of-takes.ensures c.if-takes.false _
    c.pool_ok.ensures c.if-not-pool_ok.false _ c.shape_ok-2.ensures
    c.if-not-shape_ok-2.true)

pub returns-then-phys-pool : goal.returns-then-phys-pool
unfolding answer_of
returns-then-phys-pool c =
    ap refused_as (bars_few _ _ _ _ (lent (dev c.args.bytes.now c.args.phys.now c.args.place)
    (bufs c.args.pool c.args.nums.now c.args.names.now c.args.dirs.now)) _
    c.takes_of-takes.ensures c.if-takes.false _
    c.pool_ok.ensures c.if-not-pool_ok.false _
    c.shape_ok-2.ensures c.if-not-shape_ok-2.false c.if-phys-pool.true)

pub returns-then-not-path_ok : goal.returns-then-not-path_ok
unfolding answer_of
returns-then-not-path_ok c =
    ap refused_as (bars_first _ _ _ _ (lent (dev c.args.bytes.now c.args.phys.now c.args.place)
    (bufs c.args.pool c.args.nums.now c.args.names.now c.args.dirs.now)) _
    c.takes_of-takes.ensures c.if-takes.false _ c.pool_ok.ensures
    c.if-not-pool_ok.false _
    c.shape_ok-2.ensures c.if-not-shape_ok-2.false
    c.if-phys-pool.false _ c.path_ok.ensures c.if-not-path_ok.true)

pub returns-then-not-path_ok-2 : goal.returns-then-not-path_ok-2
unfolding answer_of
returns-then-not-path_ok-2 c =
    ap refused_as (bars_second _ _ _ _ (lent (dev c.args.bytes.now c.args.phys.now c.args.place)
    (bufs c.args.pool c.args.nums.now c.args.names.now c.args.dirs.now)) _
    c.takes_of-takes.ensures c.if-takes.false _ c.pool_ok.ensures
    c.if-not-pool_ok.false _ c.shape_ok-2.ensures c.if-not-shape_ok-2.false
    c.if-phys-pool.false _ c.path_ok.ensures
    c.if-not-path_ok.false _ c.path_ok-2.ensures c.if-not-path_ok-2.true)

pub returns : goal.returns
unfolding answer_of
returns c =
    ap refused_as (bars_none _ _ _ _ (lent (dev c.args.bytes.now c.args.phys.now c.args.place)
    (bufs c.args.pool c.args.nums.now c.args.names.now c.args.dirs.now)) _
    c.takes_of-takes.ensures c.if-takes.false _ c.pool_ok.ensures
    c.if-not-pool_ok.false _ c.shape_ok-2.ensures c.if-not-shape_ok-2.false
    c.if-phys-pool.false _ c.path_ok.ensures
    c.if-not-path_ok.false _ c.path_ok-2.ensures c.if-not-path_ok-2.false)
