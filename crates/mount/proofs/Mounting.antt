-- Mount is adopt on the pool of no slots: its buffers, and the two ways out.
use Prim.Native.Nat.{ℕ, ◌*◌, ◌≤◌}
use mathlib.Core.Path.{◌≡◌, refl, sym, ap, ap₂, ◌∙◌}
use mathlib.Core.List.{List, []}
use lib.ListN.{replicate}
use borrow.Author.Tests.{eq-eqb, ne_eqb}
use Rattle.limits.specs.Limits.{max_path, row_width, dir_width}
use Rattle.lists.specs.Blocks.{pad}
use Rattle.device.specs.declared.Geometry.{Geometry}
use Rattle.device.specs.Device.{Dev, Shape}
use Rattle.slot_rows.specs.Rows.{rows_of, flat_nums, flat_names}
use Rattle.slot_rows.proofs.InBuffers.{flat_zero}
use Rattle.dir_rows.proofs.InBuffer.{flat_none}
use Rattle.pool_state.specs.declared.Chosen.{Chosen}
use Rattle.pool_state.specs.declared.Pool.{Pool}
use Rattle.pool_state.specs.State.{State, Bufs, bufs, pool_of, flat}
use Rattle.pool_steps.specs.World.{World, world, Lent, lent, view_w, flat_w, Ready}
use Rattle.pool_steps.proofs.Stays.{world_is}
use Rattle.pool_steps.specs.Outcome.{Outcome, only, flat_o, None}
use Rattle.mount.specs.Mount.{adopt_m, empty_state, mount_m, zero_pool, zero_bufs, mounted}
use Rattle.mount.proofs.Stays.{adopt_refused, empty_fit}

mounted_zero : (c : Outcome None World) → c.out ≡ 0 → mounted c ≡ flat_o c
unfolding mounted flat_o
mounted_zero c h = rw (eq-eqb c.out 0 h)

mounted_not : (c : Outcome None World) → (c.out ≡ 0 → ⊥) → mounted c ≡ only c.out (lent c.left.dev (zero_bufs c.left.state.chosen))
unfolding mounted
mounted_not c h = rw (ne_eqb c.out 0 h)

nums_none : (cap : ℕ) → flat_nums cap [] ≡ replicate (cap * row_width) 0
unfolding rows_of
nums_none cap = (flat_zero cap).nums

names_none : (cap : ℕ) → flat_names cap [] ≡ replicate (cap * max_path) 0
unfolding rows_of
names_none cap = (flat_zero cap).names

-- The buffers with a zero record.
abbrev blank : Dev → Bufs → Lent
blank d b = lent d (bufs zero_pool b.nums b.names b.dirs)

pub empty_is : (h : Chosen) → record { chosen = h; held = 0; dirs = 0; counter = 1; free = 0; queue = replicate 64 0 } ≡ pool_of (empty_state h)
unfolding pool_of empty_state pad
empty_is h = refl

module _ (plan : List ℕ) (g : Geometry) (h : Chosen) (k : ℕ) (d : Dev) (s : Shape g d.bytes d.phys) (few : h.rows ≤ 64) (dirs_few : h.dir_rows ≤ 256)
    (q : Pool) (l n b : List ℕ) (qe : q ≡ pool_of (empty_state h))
    (le : l ≡ replicate (h.rows * row_width) 0) (ne : n ≡ replicate (h.rows * max_path) 0) (be : b ≡ replicate (h.dir_rows * dir_width) 0) where
  abbrev start : Lent
  start = lent d (bufs q l n b)

  blank_empty : (e : Dev) → blank e (flat (empty_state h)) ≡ lent e (zero_bufs h)
  unfolding flat empty_state
  blank_empty e = rw (nums_none h.rows, names_none h.rows, flat_none h.dir_rows)

  start_flat : start ≡ flat_w (world d (empty_state h))
  unfolding flat_w flat empty_state
  start_flat = rw (qe, le, ne, be, nums_none h.rows, names_none h.rows, flat_none h.dir_rows)

  start_is : (view_w start ≡ world d (empty_state h)) × Ready g start
  start_is = world_is g (world d (empty_state h)) start (empty_fit g d h s few dirs_few) start_flat

  pub mount_ready : Ready g start
  mount_ready = start_is.1

  module _ (o : ℕ) (z : Lent) (e : only o z ≡ flat_o (adopt_m plan g k (view_w start))) where
    abbrev c : Outcome None World
    c = mount_m plan g h k d

    came_is : only o z ≡ flat_o c
    unfolding mount_m
    came_is = e ∙ ap (λ (w : World). flat_o (adopt_m plan g k w)) start_is.0

    number : o ≡ c.out
    unfolding flat_o
    number = ap (λ (x : Outcome None Lent). x.out) came_is

    pub mount_done : o ≡ 0 → only o z ≡ mounted c
    mount_done t = came_is ∙ sym (mounted_zero c (sym number ∙ t))

    pub mount_refused : (o ≡ 0 → ⊥) → (q₀ : Pool) → q₀ ≡ zero_pool → only o (lent z.dev (bufs q₀ z.bufs.nums z.bufs.names z.bufs.dirs)) ≡ mounted c
    unfolding mount_m flat_o flat_w flat empty_state
    mount_refused t q₀ z₀ =
        let f : c.out ≡ 0 → ⊥ = λ y. t (number ∙ y) in
        let same : c.left.state ≡ empty_state h = adopt_refused plan g k (world d (empty_state h)) f in
        let y : z ≡ flat_w c.left = ap (λ (w : Outcome None Lent). w.left) came_is in
        ap (λ (p : Pool). only o (lent z.dev (bufs p z.bufs.nums z.bufs.names z.bufs.dirs))) z₀
        ∙ ap (λ (v : Lent). only o (blank v.dev v.bufs)) y
        ∙ ap (λ (v : State). only o (blank c.left.dev (flat v))) same
        ∙ ap (only o) (blank_empty c.left.dev)
        ∙ ap₂ (λ (m : ℕ) (v : State). only m (lent c.left.dev (zero_bufs v.chosen))) number (sym same)
        ∙ sym (mounted_not c f)
