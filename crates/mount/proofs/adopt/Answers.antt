-- One law for each way out: `twelve_rows`, `twelve_slots`, `ten`, `refused`, `adopted`.
use mathlib.Core.Path.{sym, ◌∙◌}
use Rattle.device.specs.Device.{dev}
use Rattle.pool_state.specs.State.{bufs}
use Rattle.pool_state.specs.InBuffers.{pool_rows}
use Rattle.pool_steps.specs.World.{lent}
use Rattle.mount.proofs.Adopting.{twelve_rows, twelve_slots, stage_fits, ten, find_fits, accept_fits, refused, install_fits, drain_fits, adopted}
use native.Mathlib.Omega.{arith}
use Rattle.mount.proofs.adopt.Goals as goal

pub overflow_sub-cap : goal.overflow_sub-cap
overflow_sub-cap c =
    omega (arith, (pool_rows _ c.requires.pool).few)

pub returns-then-cap-n : goal.returns-then-cap-n
returns-then-cap-n c =
    twelve_rows c.args.plan.now c.args.geometry c.args.k (lent (dev c.args.bytes.now c.args.phys.now c.args.place) (bufs c.args.pool c.args.nums.now c.args.names.now c.args.dirs.now)) c.requires c.if-cap-n.true

pub overflow_sub-phys : goal.overflow_sub-phys
overflow_sub-phys c =
    omega (arith, c.requires.slots)

pub returns-then-phys-n : goal.returns-then-phys-n
returns-then-phys-n c =
    twelve_slots c.args.plan.now c.args.geometry c.args.k
    (lent (dev c.args.bytes.now c.args.phys.now c.args.place)
    (bufs c.args.pool c.args.nums.now c.args.names.now c.args.dirs.now)) c.requires
    c.if-phys-n.true

pub stage-staged-requires : goal.stage-staged-requires
stage-staged-requires c =
    let all = stage_fits c.args.plan.now c.args.geometry c.args.k (lent (dev c.args.bytes.now c.args.phys.now c.args.place) (bufs c.args.pool c.args.nums.now c.args.names.now c.args.dirs.now)) c.requires (omega (arith, c.if-cap-n.false)) (omega (arith, c.if-phys-n.false)) in
    record { shape = all.0; k_bound = all.1 }

pub returns-then-failed : goal.returns-then-failed
returns-then-failed c =
    ten c.args.plan.now c.args.geometry c.args.k (lent (dev c.args.bytes.now c.args.phys.now c.args.place) (bufs c.args.pool c.args.nums.now c.args.names.now c.args.dirs.now)) c.requires (omega (arith, c.if-cap-n.false)) (omega (arith, c.if-phys-n.false)) _ c.stage-staged.ensures.place _ _ _ c.stage-staged.ensures.failed c.if-failed.true c.stage-staged.ensures.kept

pub find_losers-losers-requires : goal.find_losers-losers-requires
find_losers-losers-requires c =
    find_fits c.args.plan.now c.args.geometry c.args.k (lent (dev c.args.bytes.now c.args.phys.now c.args.place) (bufs c.args.pool c.args.nums.now c.args.names.now c.args.dirs.now)) c.requires (omega (arith, c.if-cap-n.false)) (omega (arith, c.if-phys-n.false)) _ c.stage-staged.ensures.place (sym c.stage-staged.ensures.failed ∙ c.if-failed.false) _ _ (c.stage-staged.ensures.rows c.if-failed.false) (c.stage-staged.ensures.flat c.if-failed.false)

pub accept-accepted-requires : goal.accept-accepted-requires
accept-accepted-requires c =
    accept_fits c.args.plan.now c.args.geometry c.args.k (lent (dev c.args.bytes.now c.args.phys.now c.args.place) (bufs c.args.pool c.args.nums.now c.args.names.now c.args.dirs.now)) c.requires (omega (arith, c.if-cap-n.false)) (omega (arith, c.if-phys-n.false)) _ c.stage-staged.ensures.place (sym c.stage-staged.ensures.failed ∙ c.if-failed.false) _ _ (c.stage-staged.ensures.rows c.if-failed.false) (c.stage-staged.ensures.flat c.if-failed.false) _ _ c.find_losers-losers.ensures.list c.find_losers-losers.ensures.count c.find_losers-losers.ensures.few

pub returns-then-out-ne0 : goal.returns-then-out-ne0
returns-then-out-ne0 c =
    refused c.args.plan.now c.args.geometry c.args.k (lent (dev c.args.bytes.now c.args.phys.now c.args.place) (bufs c.args.pool c.args.nums.now c.args.names.now c.args.dirs.now)) c.requires (omega (arith, c.if-cap-n.false)) (omega (arith, c.if-phys-n.false)) _ c.stage-staged.ensures.place (sym c.stage-staged.ensures.failed ∙ c.if-failed.false) _ _ (c.stage-staged.ensures.rows c.if-failed.false) (c.stage-staged.ensures.flat c.if-failed.false) _ _ c.find_losers-losers.ensures.list c.find_losers-losers.ensures.count c.find_losers-losers.ensures.few _ _ c.stage-staged.ensures.asked c.max-counter.ensures _ c.accept-accepted.ensures.out _ _ _ c.if-out-ne0.true c.accept-accepted.ensures.back

pub install-held-requires : goal.install-held-requires
install-held-requires c =
    let all = install_fits c.args.plan.now c.args.geometry c.args.k (lent (dev c.args.bytes.now c.args.phys.now c.args.place) (bufs c.args.pool c.args.nums.now c.args.names.now c.args.dirs.now)) c.requires (omega (arith, c.if-cap-n.false)) (omega (arith, c.if-phys-n.false)) _ c.stage-staged.ensures.place (sym c.stage-staged.ensures.failed ∙ c.if-failed.false) _ _ (c.stage-staged.ensures.rows c.if-failed.false) (c.stage-staged.ensures.flat c.if-failed.false) _ _ c.find_losers-losers.ensures.list c.find_losers-losers.ensures.count c.find_losers-losers.ensures.few _ _ c.stage-staged.ensures.asked c.max-counter.ensures _ c.accept-accepted.ensures.out c.if-out-ne0.false _ _ _ _ c.accept-accepted.ensures.taken in
    record { flat_2 = all.0; count_bound = all.1 }

pub drain-drained-requires : goal.drain-drained-requires
drain-drained-requires c =
    let all = drain_fits c.args.plan.now c.args.geometry c.args.k
    (lent (dev c.args.bytes.now c.args.phys.now c.args.place)
    (bufs c.args.pool c.args.nums.now c.args.names.now c.args.dirs.now)) c.requires
    (omega (arith, c.if-cap-n.false)) (omega (arith, c.if-phys-n.false)) _ c.stage-staged.ensures.place
    (sym c.stage-staged.ensures.failed ∙ c.if-failed.false) _ _
    (c.stage-staged.ensures.rows c.if-failed.false)
    (c.stage-staged.ensures.flat c.if-failed.false) _ _ c.find_losers-losers.ensures.list
    c.find_losers-losers.ensures.count c.find_losers-losers.ensures.few _ _
    c.stage-staged.ensures.asked c.max-counter.ensures _ c.accept-accepted.ensures.out
    c.if-out-ne0.false _ _ _ _ c.accept-accepted.ensures.taken _ _ _
    c.install-held.ensures.pool c.install-held.ensures.rows
    c.install-held.ensures.flat in
    record { ready = all.0; count_bound = all.1 }

pub shape_of-nums : goal.shape_of-nums
shape_of-nums c =
    c.drain-drained.auto.nums ∙ c.install-held.auto.nums ∙ c.accept-accepted.auto.nums
    ∙ c.stage-staged.auto.nums

pub shape_of-names : goal.shape_of-names
shape_of-names c =
    c.drain-drained.auto.names ∙ c.install-held.auto.names ∙ c.accept-accepted.auto.names
    ∙ c.stage-staged.auto.names

pub shape_of-dirs : goal.shape_of-dirs
shape_of-dirs c =
    c.accept-accepted.auto.dirs

pub returns : goal.returns
returns c =
    adopted c.args.plan.now c.args.geometry c.args.k
    (lent (dev c.args.bytes.now c.args.phys.now c.args.place)
    (bufs c.args.pool c.args.nums.now c.args.names.now c.args.dirs.now)) c.requires
    (omega (arith, c.if-cap-n.false)) (omega (arith, c.if-phys-n.false)) _ c.stage-staged.ensures.place
    (sym c.stage-staged.ensures.failed ∙ c.if-failed.false) _ _
    (c.stage-staged.ensures.rows c.if-failed.false)
    (c.stage-staged.ensures.flat c.if-failed.false) _ _ c.find_losers-losers.ensures.list
    c.find_losers-losers.ensures.count c.find_losers-losers.ensures.few _ _
    c.stage-staged.ensures.asked c.max-counter.ensures _ c.accept-accepted.ensures.out
    c.if-out-ne0.false _ _ _ _ c.accept-accepted.ensures.taken _ _ _
    c.install-held.ensures.pool c.install-held.ensures.rows
    c.install-held.ensures.flat _ c.drain-drained.ensures
