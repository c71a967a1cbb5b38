-- A mount of a device is the model's: adopt on the empty pool.
use Prim.Native.Nat.{ℕ, ◌≤◌, min}
use native.Mathlib.Omega.{arith}
use mathlib.Core.Path.{◌≡◌, sym, subst}
use mathlib.Core.List.Memᴰ
use mathlib.Core.List.{List, []}
use lib.ListN.{length}
use Rattle.lists.specs.Distinct.Distinct.{none}
use Rattle.device.specs.declared.Geometry.{Geometry}
use Rattle.device.specs.Device.{Dev, Shape}
use Rattle.dir_rows.specs.Dirs.{Dirs}
use Rattle.pool_state.specs.declared.Chosen.{Chosen}
use Rattle.pool_steps.specs.World.{World, world}
use Rattle.pool_steps.specs.Outcome.{only}
use Rattle.mount.specs.Mount.{empty_state, mount_m}
use Rattle.promises_model.specs.Model.{Kit}
use Rattle.promises_model.specs.Model as M
use Rattle.promises_model.specs.Best as B
use Rattle.promises_model.specs.Promise as P
use Rattle.promises_model.proofs.Pool.{mount_pool}
use Rattle.promises_model.proofs.Winner.{rule}
use Rattle.promises_mount.specs.Words.{header_at, Untouched, Rule, NoneFails}
use Rattle.promises_mount.proofs.Kit.{planned, real_kit}
use Rattle.promises_mount.proofs.Adopt.{Runs, done, accepted_is, accepted_runs, came_accepts}
use Rattle.promises_mount.proofs.Words.{rule_is, none_is}

-- no pool has no directories
pub empty_dirs : (h : Chosen) → Dirs (empty_state h).dirs
unfolding empty_state
empty_dirs h =
    record { normals = λ d m. absurd (Memᴰ.not-nil m); once = none; closed = λ d a m k. absurd (Memᴰ.not-nil m) }

pub from_first : (plan : List ℕ) (h : Chosen) (k : ℕ) (d : Dev) → Untouched plan 0 k d → Untouched plan (length (empty_state h).rows) k d
unfolding empty_state
from_first plan h k d u = u

module _ (g : Geometry) (plan : List ℕ) (h : Chosen) (k : ℕ) (d : Dev) (s : Shape g d.bytes d.phys)
    (u : Untouched plan 0 k d) where
  abbrev K : Kit
  K = real_kit g

  abbrev start : World
  start = world d (empty_state h)

  -- no pool has no rows: its first read is of slot 0
  abbrev all : Untouched plan (length start.state.rows) k d
  all = from_first plan h k d u

  pub mount_runs : (slots : ℕ) → slots ≤ h.rows → slots ≤ length d.phys
      → M.Accepts K slots h.dir_rows k (M.empty K (planned plan d))
      → Runs g plan start (mount_m plan g h k d) (M.mount K k (planned plan d))
  unfolding mount_m empty_state M.mount
  mount_runs slots a b A = accepted_runs g plan k start s (empty_dirs h) all slots [] a b A

  pub mount_accepts : (mount_m plan g h k d).out ≡ 0
      → M.Accepts K (min h.rows (length d.phys)) h.dir_rows k (M.empty K (planned plan d))
  unfolding mount_m empty_state
  mount_accepts z = came_accepts g plan k start s (empty_dirs h) all [] (omega arith) (omega arith) z

  pub mount_room : (mount_m plan g h k d).out ≡ 0 → k ≤ length d.phys
  mount_room z = omega (arith, (mount_accepts z).slots_fit)

  pub mount_none : k ≤ length d.phys → NoneFails plan g k start → P.NoneFails K k (M.empty K (planned plan d))
  unfolding empty_state
  mount_none l f = none_is g plan k start s (empty_dirs h) all (omega arith) [] f

  -- the device and the pool that a mount that came to 0 leaves
  pub mount_is : (mount_m plan g h k d).out ≡ 0
      → mount_m plan g h k d ≡ only 0 (done g plan k start s (empty_dirs h) all)
  unfolding mount_m empty_state
  mount_is z =
      accepted_is g plan k start s (empty_dirs h) all (min h.rows (length d.phys)) [] (omega arith) (omega arith) (mount_accepts z)

  pub mount_rule : (mount_m plan g h k d).out ≡ 0 → Rule (header_at g d) k (mount_m plan g h k d).left.state.rows
  mount_rule z =
      let w = planned plan d in
      let slots = min h.rows (length d.phys) in
      let A = mount_accepts z in
      let R = mount_runs slots (omega arith) (omega arith) A in
      let P = mount_pool K slots k w (s, omega arith) (omega (arith, A.slots_fit)) in
      rule_is g (header_at g d) k (mount_m plan g h k d).left.state.rows
      (subst (λ (x : M.State K). B.Rule K (K.head w) k x.rows) (sym R.shows) (rule K P.fit.holders k P.size))
