-- A call that nothing of the table refuses is the inner one (`goes_in`), one that gives 0 was not refused (`not_refused`), and on a pool
-- with its device, with paths that are text, nothing refuses a call (`on_pool`). A mount that is accepted leaves its pool (`mount_left`).
use Prim.Native.Nat.{ℕ, ◌≤◌}
use mathlib.Core.Path.{◌≡◌, refl, sym, ap, ◌∙◌}
use mathlib.Core.Bool.{Bool, true, false, cond}
use mathlib.Core.List.{List}
use lib.Dec.{eqb}
use lib.ListN.{length}
use borrow.Author.Tests.{eq-eqb, eqb-true, le-leb}
use Rattle.device.specs.declared.Geometry.{Geometry}
use Rattle.device.specs.Device.{Shape}
use Rattle.device.proofs.Shapes.{shape_means}
use Rattle.pool_state.specs.State.{view}
use Rattle.pool_test.proofs.Exactly.{pool_tested}
use Rattle.pool_steps.specs.World.{World, Lent, view_w, flat_w, Ready}
use Rattle.pool_steps.specs.Outcome.{Outcome, None}
use Rattle.pool_steps.proofs.Stays.{world_is}
use Rattle.mount.specs.Mount.{mount_m, mounted}
use Rattle.mount.proofs.Stays.{mount_valid}
use Rattle.calls_gate.specs.declared.Call.{Call}
use Rattle.calls_gate.specs.declared.Call.TheVariants.{Mount}
use Rattle.calls_gate.specs.Table.{takes_of, slot_rows, dir_rows, chosen_of, holds_pool, mountable, text_if, refusal_of}
use Rattle.calls_gate.specs.Replies.{Came}
use Rattle.calls_gate.specs.Calls.{quiet, inner_m, refused_m, call_p}
use Rattle.calls_gate.proofs.Passed.{mounts_on}

module _ (plan : List ℕ) (g : Geometry) (c : Call) (one two buf : List ℕ) (l : Lent) where
  abbrev no : ℕ
  no = refusal_of g c one two l

  -- What is so of the inner call where nothing refuses it, and of a refusal, is so of the call.
  pub by_table : (P : Came → Type 0) → (no ≡ 0 → P (inner_m plan g c one two buf l)) → P (refused_m c no buf l)
      → P (call_p plan g c one two buf l)
  unfolding call_p
  by_table P inner refused = go (eqb no 0) refl
    where
      go : (t : Bool) → eqb no 0 ≡ t → P (cond t (inner_m plan g c one two buf l) (refused_m c no buf l))
      go true e = inner (eqb-true no 0 e)
      go false e = refused

  -- What nothing of the table refuses is the inner call.
  pub goes_in : no ≡ 0 → call_p plan g c one two buf l ≡ inner_m plan g c one two buf l
  unfolding call_p
  goes_in z = rw (eq-eqb no 0 z)

  -- A call that gives 0 was not refused.
  pub not_refused : (call_p plan g c one two buf l).number ≡ 0 → no ≡ 0
  unfolding refused_m
  not_refused z = by_table (λ x. x.number ≡ 0 → no ≡ 0) (λ e q. e) (λ q. q) z

  -- On a pool with its device, where each path is text, nothing of the table refuses the call, and it is the inner one.
  pub lets_in : Ready g l → (takes_of c).mounts ≡ false → text_if (takes_of c).first one ≡ true → text_if (takes_of c).second two ≡ true → no ≡ 0
  unfolding refusal_of holds_pool
  lets_in R m t u =
      rw (
        m,
        pool_tested l.bufs R.pool,
        (shape_means g l.dev.bytes l.dev.phys).1 R.shape,
        le-leb l.bufs.pool.held (length l.dev.phys) R.slots,
        t,
        u,
      ) refl

  pub on_pool : Ready g l → (takes_of c).mounts ≡ false → text_if (takes_of c).first one ≡ true → text_if (takes_of c).second two ≡ true
      → call_p plan g c one two buf l ≡ inner_m plan g c one two buf l
  on_pool R m t u = goes_in (lets_in R m t u)

-- ---- a mount

module _ (plan : List ℕ) (g : Geometry) (k : ℕ) (one two buf : List ℕ) (l : Lent) where
  abbrev call : Came
  call = call_p plan g (Mount k) one two buf l

  abbrev inside : Outcome None World
  inside = mount_m plan g (chosen_of l.bufs) k l.dev

  pub mount_call : mountable g l ≡ true → call ≡ quiet buf (mounted inside)
  unfolding refusal_of takes_of inner_m
  mount_call h = goes_in plan g (Mount k) one two buf l (rw h refl)

  module _ (z : call.number ≡ 0) where
    passed : refusal_of g (Mount k) one two l ≡ 0
    passed = not_refused plan g (Mount k) one two buf l z

    pub mount_fits : Shape g l.dev.bytes l.dev.phys × (slot_rows l.bufs.nums ≤ 64) × (dir_rows l.bufs.dirs ≤ 256)
    unfolding takes_of
    mount_fits = (mounts_on g (Mount k) (Mount k) one two l passed refl refl).0

    call_is : call ≡ quiet buf (mounted inside)
    unfolding inner_m
    call_is = goes_in plan g (Mount k) one two buf l passed

    pub mount_accepted : inside.out ≡ 0
    unfolding mounted
    mount_accepted = sym (ap (λ (x : Came). x.number) call_is) ∙ z

    flat_left : call.left ≡ flat_w inside.left
    unfolding mounted
    flat_left = ap (λ (x : Came). x.left) call_is ∙ rw (eq-eqb inside.out 0 mount_accepted) refl

    left_is : (view_w call.left ≡ inside.left) × Ready g call.left
    left_is =
        world_is g inside.left call.left
        (mount_valid plan g (chosen_of l.bufs) k l.dev mount_fits.0 mount_fits.1 mount_fits.2) flat_left

    -- What it leaves in the buffers is its pool, with its device.
    pub mount_left : view_w call.left ≡ inside.left
    mount_left = left_is.0

    pub mount_ready : Ready g call.left
    mount_ready = left_is.1

    pub mount_held : view call.left.bufs ≡ inside.left.state
    unfolding view_w
    mount_held = ap (λ (w : World). w.state) mount_left
