-- One law for each way out: `mount_refused`, `mount_done`.
use Rattle.std.proofs.Common.{rules}
use Prim.Native.Nat.{ℕ}
use mathlib.Core.Path.{ap, ◌∙◌}
use lib.ListN.{replicate}
use Rattle.device.specs.Device.{dev}
use Rattle.mount.proofs.Mounting.{mount_ready, mount_done, mount_refused}
use Rattle.mount.proofs.mount_rows.Goals as goal

pub adopt-adopted-requires : goal.adopt-adopted-requires
adopt-adopted-requires c =
    mount_ready c.args.plan.now c.args.geometry c.args.chosen c.args.k
    (dev c.args.bytes.now c.args.phys.now c.args.place) c.requires.shape.0 c.requires.shape.1
    c.requires.shape.2 _ _ _ _ c.empty-pool.ensures
    (c.clear_rows.ensures.nums ∙ ap (λ (n : ℕ). replicate n 0) c.requires.nums_len.0)
    (c.clear_rows.ensures.names ∙ ap (λ (n : ℕ). replicate n 0) c.requires.nums_len.1)
    (c.fill.ensures.after (search rules) ∙ ap (λ (n : ℕ). replicate n 0) c.requires.nums_len.2)

pub shape_of-nums-then-out-ne0 : goal.shape_of-nums-then-out-ne0
shape_of-nums-then-out-ne0 c =
    c.adopt-adopted.auto.nums ∙ c.clear_rows.auto.nums

pub shape_of-names-then-out-ne0 : goal.shape_of-names-then-out-ne0
shape_of-names-then-out-ne0 c =
    c.adopt-adopted.auto.names ∙ c.clear_rows.auto.names

pub returns-then-out-ne0 : goal.returns-then-out-ne0
returns-then-out-ne0 c =
    mount_refused c.args.plan.now c.args.geometry c.args.chosen c.args.k
    (dev c.args.bytes.now c.args.phys.now c.args.place) c.requires.shape.0 c.requires.shape.1
    c.requires.shape.2 _ _ _ _ c.empty-pool.ensures
    (c.clear_rows.ensures.nums ∙ ap (λ (n : ℕ). replicate n 0) c.requires.nums_len.0)
    (c.clear_rows.ensures.names ∙ ap (λ (n : ℕ). replicate n 0) c.requires.nums_len.1)
    (c.fill.ensures.after (search rules) ∙ ap (λ (n : ℕ). replicate n 0) c.requires.nums_len.2) _ _
    c.adopt-adopted.ensures c.if-out-ne0.true _ c.zero.ensures

pub shape_of-nums : goal.shape_of-nums
shape_of-nums c =
    c.adopt-adopted.auto.nums ∙ c.clear_rows.auto.nums

pub shape_of-names : goal.shape_of-names
shape_of-names c =
    c.adopt-adopted.auto.names ∙ c.clear_rows.auto.names

pub returns : goal.returns
returns c =
    mount_done c.args.plan.now c.args.geometry c.args.chosen c.args.k
    (dev c.args.bytes.now c.args.phys.now c.args.place) c.requires.shape.0 c.requires.shape.1
    c.requires.shape.2 _ _ _ _ c.empty-pool.ensures
    (c.clear_rows.ensures.nums ∙ ap (λ (n : ℕ). replicate n 0) c.requires.nums_len.0)
    (c.clear_rows.ensures.names ∙ ap (λ (n : ℕ). replicate n 0) c.requires.nums_len.1)
    (c.fill.ensures.after (search rules) ∙ ap (λ (n : ℕ). replicate n 0) c.requires.nums_len.2) _ _
    c.adopt-adopted.ensures c.if-out-ne0.false
