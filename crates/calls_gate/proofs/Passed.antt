-- What a call has that the table doesn't refuse: a pool with its device, or rows and a device to mount on, and text for paths.
use Prim.Native.Nat.{ℕ, ◌*◌, ◌≤◌}
use native.Mathlib.Omega.{arith}
use mathlib.Core.Path.{◌≡◌, refl, ap, ◌∙◌}
use mathlib.Core.Bool.{Bool, true, false, cond}
use mathlib.Core.List.{List}
use lib.Dec.{leb}
use lib.ListN.{length}
use borrow.Author.Tests.{leb-true, eqb-true}
use Rattle.limits.specs.Limits.{max_path, row_width, dir_width}
use Rattle.text.specs.Text.{is_text}
use Rattle.device.specs.declared.Geometry.{Geometry}
use Rattle.device.specs.Device.{Shape, shape_b}
use Rattle.device.proofs.Shapes.{both, shape_means}
use Rattle.pool_test.specs.Test.{is_pool}
use Rattle.pool_test.proofs.Exactly.{pool_exactly}
use Rattle.pool_steps.specs.World.{Lent, Ready}
use Rattle.calls_gate.specs.declared.Call.{Call}
use Rattle.calls_gate.specs.Table.{takes_of, slot_rows, dir_rows, rows_b, holds_pool, mountable, text_if, refusal_of}

-- A pool, on a device that holds it; and each path is text.
abbrev pub Passes : Geometry → Call → List ℕ → List ℕ → Lent → Type 0
Passes g c one two l =
    (is_pool l.bufs ≡ true) × (holds_pool g l ≡ true)
    × (text_if (takes_of c).first one ≡ true) × (text_if (takes_of c).second two ≡ true)

module _ (g : Geometry) (c : Call) (one two : List ℕ) (l : Lent) (z : refusal_of g c one two l ≡ 0) where
  pub passed : (takes_of c).mounts ≡ false → Passes g c one two l
  unfolding refusal_of
  passed m =
      go (takes_of c).mounts (is_pool l.bufs) (holds_pool g l) (text_if (takes_of c).first one) (text_if (takes_of c).second two)
      m refl refl refl refl z
    where
      go : (k p h a b : Bool) → k ≡ false → is_pool l.bufs ≡ p → holds_pool g l ≡ h
          → text_if (takes_of c).first one ≡ a → text_if (takes_of c).second two ≡ b
          → ◌≡◌ {A = ℕ} (cond k (cond (mountable g l) 0 2) (cond p (cond h (cond a (cond b 0 3) 3) 2) 1)) 0
          → Passes g c one two l
      go true p h a b k w x y v q = let n : ◌≡◌ {A = ℕ} 0 1 = cc in absurd (omega arith)
      go false true true true true k w x y v q = (w, x, y, v)
      go false false h a b k w x y v q = absurd (omega arith)
      go false true false a b k w x y v q = absurd (omega arith)
      go false true true false b k w x y v q = absurd (omega arith)
      go false true true true false k w x y v q = absurd (omega arith)

  pub is_ready : (takes_of c).mounts ≡ false → Ready g l
  unfolding holds_pool
  is_ready m =
      let q = passed m in
      let h = both (shape_b g l.dev.bytes l.dev.phys) (leb l.bufs.pool.held (length l.dev.phys)) q.1 in
      record {
        pool = (pool_exactly l.bufs).0 q.0;
        shape = (shape_means g l.dev.bytes l.dev.phys).0 h.0;
        slots = leb-true _ _ h.1;
      }

  pub is_mountable : (takes_of c).mounts ≡ true → mountable g l ≡ true
  unfolding refusal_of
  is_mountable m = go (takes_of c).mounts (mountable g l) m refl z
    where
      go : (k h : Bool) → k ≡ true → mountable g l ≡ h
          → ◌≡◌ {A = ℕ} (cond k (cond h 0 2)
          (cond (is_pool l.bufs)
          (cond (holds_pool g l) (cond (text_if (takes_of c).first one) (cond (text_if (takes_of c).second two) 0 3) 3) 2) 1)) 0
          → mountable g l ≡ true
      go false h k x q = let n : ◌≡◌ {A = ℕ} 0 1 = cc in absurd (omega arith)
      go true true k x q = x
      go true false k x q = absurd (omega arith)

-- The same of a call that is d.
pub ready : (g : Geometry) (c d : Call) (one two : List ℕ) (l : Lent) → refusal_of g c one two l ≡ 0 → c ≡ d → (takes_of d).mounts ≡ false
    → Ready g l
ready g c d one two l z e m = is_ready g c one two l z (ap (λ (x : Call). (takes_of x).mounts) e ∙ m)

-- rows of the right shape, and a device
pub mounts_on : (g : Geometry) (c d : Call) (one two : List ℕ) (l : Lent) → refusal_of g c one two l ≡ 0 → c ≡ d → (takes_of d).mounts ≡ true
    → (Shape g l.dev.bytes l.dev.phys × (slot_rows l.bufs.nums ≤ 64) × (dir_rows l.bufs.dirs ≤ 256))
    × ((length l.bufs.nums ≡ slot_rows l.bufs.nums * row_width) × (length l.bufs.names ≡ slot_rows l.bufs.nums * max_path)
    × (length l.bufs.dirs ≡ dir_rows l.bufs.dirs * dir_width))
unfolding mountable rows_b
mounts_on g c d one two l z e m =
    let is = is_mountable g c one two l z (ap (λ (x : Call). (takes_of x).mounts) e ∙ m) in
    let h = both (shape_b g l.dev.bytes l.dev.phys) (rows_b l.bufs.nums l.bufs.names l.bufs.dirs) is in
    let r = h.1 in
    let a = both _ _ r in
    let b = both _ _ a.1 in
    let f = both _ _ b.1 in
    let k = both _ _ f.1 in (
      ((shape_means g l.dev.bytes l.dev.phys).0 h.0, leb-true _ _ a.0, leb-true _ _ b.0),
      (eqb-true _ _ f.0, eqb-true _ _ k.0, eqb-true _ _ k.1),
    )

-- A path that was tested is text.
pub text_of : (path : List ℕ) → text_if true path ≡ true → is_text path ≡ true
unfolding text_if
text_of path e = e
