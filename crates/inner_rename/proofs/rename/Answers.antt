-- One law for each way out: `rename_stopped`, `rename_failed`, `rename_done`.
use mathlib.Core.Path.{◌∙◌}
use Rattle.pool_state.specs.InBuffers.{pool_rows}
use Rattle.inner_rename.proofs.Ways.{from_held, rebind_ready, settle_ready, rename_stopped, rename_failed, rename_done}
use Rattle.inner_rename.proofs.rename.Goals as goal

pub front-f-requires : goal.front-f-requires
front-f-requires c =
    c.requires.pool

pub returns-then-not-go : goal.returns-then-not-go
returns-then-not-go c =
    rename_stopped _ _ c.requires _ _ _ _ c.front-f.ensures (c.if-not-go.true)

pub row_len-len-requires : goal.row_len-len-requires
row_len-len-requires c = (
  pool_rows _ c.requires.pool,
  from_held _ _ c.requires c.args.plan.now _ _ _ c.front-f.ensures
      (c.if-not-go.false),
)

pub rebind-moved-requires : goal.rebind-moved-requires
rebind-moved-requires c =
    let all = rebind_ready _ _ c.requires c.args.plan.now _ _ _ c.front-f.ensures
    (c.if-not-go.false) in
    record { ready = all.0; i_lt_held = all.1 }

pub returns-then-last-ne0 : goal.returns-then-last-ne0
returns-then-last-ne0 c =
    rename_failed _ _ c.requires _ _ _ _ c.front-f.ensures
    (c.if-not-go.false) _ _ _ c.rebind-moved.ensures c.if-last-ne0.true

pub settle-requires : goal.settle-requires
settle-requires c =
    let all = settle_ready _ _ c.requires _ _ _ _ c.front-f.ensures
    (c.if-not-go.false) _ _ _ c.rebind-moved.ensures in
    record { ready = all.0; fact = all.1.0; i_lt_held = all.1.1 }

pub shape_of-bytes : goal.shape_of-bytes
shape_of-bytes c =
    c.settle.auto.bytes ∙ c.rebind-moved.auto.bytes

pub shape_of-phys : goal.shape_of-phys
shape_of-phys c =
    c.settle.auto.phys ∙ c.rebind-moved.auto.phys

pub shape_of-nums : goal.shape_of-nums
shape_of-nums c =
    c.settle.auto.nums ∙ c.rebind-moved.auto.nums

pub shape_of-names : goal.shape_of-names
shape_of-names c =
    c.settle.auto.names

pub shape_of-dirs : goal.shape_of-dirs
shape_of-dirs c =
    c.settle.auto.dirs

pub returns : goal.returns
returns c =
    rename_done _ _ c.requires _ _ _ _ c.front-f.ensures
    (c.if-not-go.false) _ _ _ c.rebind-moved.ensures
    c.if-last-ne0.false _ c.row_len-len.ensures _ c.settle.ensures
