-- One law for each way out: `create_long`, `create_full`, `create_done`.
use Rattle.pool_state.specs.InBuffers.{pool_dirs}
use Rattle.inner_open.proofs.Ways.{dirs_fit}
use Rattle.inner_dirs.proofs.Ways.{create_long, create_full, create_room, create_done}
use native.Mathlib.Omega.{arith}
use Rattle.inner_dirs.proofs.create_dir_all.Goals as goal

pub returns-then-normal_len-gt-MAX_PATH : goal.returns-then-normal_len-gt-MAX_PATH
returns-then-normal_len-gt-MAX_PATH c =
    create_long _ _ c.requires _ c.normal_len.ensures c.if-normal_len-gt-MAX_PATH.true

pub missing_path-missing-requires : goal.missing_path-missing-requires
missing_path-missing-requires c =
    dirs_fit _ _ _ (pool_dirs _ c.requires)

pub overflow_sub-cap : goal.overflow_sub-cap
overflow_sub-cap c =
    omega (
      arith,
      ((pool_dirs _ c.requires).few),
    )

pub returns-then-cap-m : goal.returns-then-cap-m
returns-then-cap-m c =
    let pre = c.requires in
    let normal-len = c.normal_len in
    let if1 = c.if-normal_len-gt-MAX_PATH in
    create_full _ _ pre _ normal-len.ensures if1.false _ c.missing_path-missing.ensures c.if-cap-m.true

pub register_path-requires : goal.register_path-requires
register_path-requires c =
    let pre = c.requires in
    let normal-len = c.normal_len in
    let if1 = c.if-normal_len-gt-MAX_PATH in
    let G = pool_dirs _ pre in
    let r = create_room _ _ pre _ normal-len.ensures if1.false _ c.missing_path-missing.ensures G.few
    c.if-cap-m.false in
    (G, r.0, r.1)

pub returns : goal.returns
returns c =
    let pre = c.requires in
    let normal-len = c.normal_len in
    let if1 = c.if-normal_len-gt-MAX_PATH in
    let missing-path = c.missing_path-missing in
    let if2 = c.if-cap-m in
    create_done _ _ pre _ normal-len.ensures if1.false _ missing-path.ensures (pool_dirs _ pre).few if2.false _ _ c.register_path.ensures.rows c.register_path.ensures.flat
