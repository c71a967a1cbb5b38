-- `APoolStaysAPool` and `AMountMakesAPool` of specs/Stays.antt: `call_stays` of crate calls_gate carries the pool, and what passes the
-- tests comes to neither 1 nor 2 (Heard).
use Prim.Native.Nat.{ℕ, ◌*◌, ◌≤◌}
use native.Mathlib.Omega.{arith}
use mathlib.Core.Path.{◌≡◌, refl, sym, ap, subst, ◌∙◌}
use mathlib.Core.Logic.{◌≢◌}
use mathlib.Core.Bool.{true, false, ◌||◌, false≢true}
use mathlib.Core.List.{List}
use lib.Dec.{eqb}
use lib.ListN.{length}
use borrow.Author.Tests.{eq-eqb, le-leb}
use Rattle.device.specs.declared.Geometry.{Geometry}
use Rattle.device.specs.Device.{dev}
use Rattle.device.proofs.Shapes.{shape_means}
use Rattle.pool_state.specs.State.{bufs}
use Rattle.pool_state.specs.Reads.{pool_reads}
use Rattle.pool_test.proofs.Exactly.{pool_tested}
use Rattle.pool_steps.specs.World.{Lent, Ready}
use Rattle.pool_steps.proofs.Numbers.{either}
use Rattle.calls_gate.specs.declared.Call.{Call}
use Rattle.calls_gate.specs.Table.{takes_of, slot_rows, dir_rows, rows_b, holds_pool, mountable, text_if, refusal_of}
use Rattle.calls_gate.specs.Replies.{Came}
use Rattle.calls_gate.specs.Calls.{inner_m, refused_m, call_p}
use Rattle.calls_gate.proofs.Promises.{call_stays}
use Rattle.pool.specs.Face.{Asked, Left, lent_of, Entered}
use Rattle.promises.specs.Face.{number, left_of, held, held_before, FaceIsFlat}
use Rattle.promises.specs.Stays.{Follows, APoolStaysAPool, AMountMakesAPool}
use Rattle.promises.proofs.Face.{face_is_flat}
use Rattle.calls_gate.proofs.Heard.{Heard, inner_heard}

-- ---- neither 1 nor 2 on a pool with its device

module _ (plan : List ℕ) (g : Geometry) (one two buf : List ℕ) (l : Lent) (R : Ready g l) where
  -- its rows can be mounted
  rows_fine : rows_b l.bufs.nums l.bufs.names l.bufs.dirs ≡ true
  unfolding rows_b
  rows_fine =
      let b = l.bufs in
      let c = b.pool.chosen in
      let s = pool_reads b R.pool in
      let n : slot_rows b.nums ≡ c.rows = omega (arith, s.nums_long) in
      let d : dir_rows b.dirs ≡ c.dir_rows = omega (arith, s.dirs_long) in
      let few = le-leb c.rows 64 s.rows in
      let low = le-leb c.dir_rows 256 s.dir_rows_lem in
      rw (n, d, few, low, eq-eqb _ _ s.nums_long, eq-eqb _ _ s.names_long, eq-eqb _ _ s.dirs_long) refl

  can_mount : mountable g l ≡ true
  unfolding mountable
  can_mount = rw ((shape_means g l.dev.bytes l.dev.phys).1 R.shape, rows_fine) refl

  holds : holds_pool g l ≡ true
  unfolding holds_pool
  holds =
      let s = le-leb l.bufs.pool.held (length l.dev.phys) R.slots in
      rw ((shape_means g l.dev.bytes l.dev.phys).1 R.shape, s) refl

  -- 3, or no refusal
  refusal_heard : (c : Call) → Heard (refusal_of g c one two l)
  unfolding refusal_of
  refusal_heard c =
      rw (can_mount, pool_tested l.bufs R.pool, holds)
      (either Heard (takes_of c).mounts refl
      (either Heard (text_if (takes_of c).first one) (either Heard (text_if (takes_of c).second two) refl refl) refl))

  call_heard : (c : Call) → Heard (call_p plan g c one two buf l).number
  unfolding call_p refused_m
  call_heard c =
      let HeardC : Came → Type 0 = λ a. Heard a.number in
      let no = refusal_of g c one two l in
      either HeardC (eqb no 0) {x = inner_m plan g c one two buf l} {y = refused_m c no buf l} (inner_heard plan g c one two buf l)
      (refusal_heard c)

neither : (n : ℕ) → Heard n → (n ≢ 1) × (n ≢ 2)
neither n h = (
  λ e. false≢true (sym h ∙ ap (λ (k : ℕ). eqb k 1 || eqb k 2) e),
  λ e. false≢true (sym h ∙ ap (λ (k : ℕ). eqb k 1 || eqb k 2) e),
)

-- ---- through the face

module _ (x : Asked) (y : Left) (e : Entered x y) where
  abbrev call : Came
  call = call_p x.plan x.geometry x.call x.first x.second x.buf (lent_of x)

  numbers : number y ≡ call.number
  unfolding FaceIsFlat
  numbers = ap (λ (a : Came). a.number) (face_is_flat x y e)

  stays : ((takes_of x.call).mounts ≡ true → number y ≡ 0) → ((takes_of x.call).mounts ≡ false → Ready x.geometry (lent_of x))
      → Ready x.geometry (left_of y)
  unfolding FaceIsFlat
  stays done is =
      subst (λ (a : Came). Ready x.geometry a.left) (sym (face_is_flat x y e))
      (call_stays x.plan x.geometry x.first x.second x.buf (lent_of x) x.call (λ m. sym numbers ∙ done m) is)

  heard : Ready x.geometry (lent_of x) → (number y ≢ 1) × (number y ≢ 2)
  heard R =
      neither (number y)
      (subst Heard (sym numbers) (call_heard x.plan x.geometry x.first x.second x.buf (lent_of x) R x.call))

-- what a call is lent that follows
pub follows_ready : (x : Asked) (y : Left) (z : Asked) → Follows x y z → Ready x.geometry (left_of y) → Ready z.geometry (lent_of z)
follows_ready x y z F R =
    rw (F.geometry, F.bytes, F.phys, F.rows, F.names, F.dirs, F.pool) (record { pool = R.pool; shape = R.shape; slots = R.slots })

-- and it finds what was left
pub follows_state : (x : Asked) (y : Left) (z : Asked) → Follows x y z → held_before z ≡ held y
follows_state x y z F = rw (F.rows, F.names, F.dirs, F.pool)

pub a_pool_stays_a_pool : APoolStaysAPool
unfolding APoolStaysAPool
a_pool_stays_a_pool x y e R done =
    let S = stays x y e done (λ m. R) in
    (S, λ z end F f. heard z end f (follows_ready x y z F S))

pub a_mount_makes_a_pool : AMountMakesAPool
unfolding AMountMakesAPool
a_mount_makes_a_pool x y e m done = stays x y e (λ k. done) (λ k. absurd (false≢true (sym k ∙ m)))
