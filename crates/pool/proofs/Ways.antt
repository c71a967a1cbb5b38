-- What the ways through the entry come to, and those of its helpers.
use Prim.Native.Nat.{ℕ, ◌*◌, ◌≤◌, ◌<◌}
use native.Mathlib.Omega.{arith}
use mathlib.Core.Path.{◌≡◌, refl, sym, ap, ◌∙◌}
use mathlib.Core.Bool.{Bool, true, false, cond}
use mathlib.Core.List.{List, ◌++◌}
use lib.ListN.{length, take}
use lib.Seq.{take_at, length-take-le}
use Rattle.limits.specs.Limits.{row_width}
use Rattle.device.specs.declared.Geometry.{Geometry}
use Rattle.device.specs.declared.Place.{Place}
use Rattle.device.specs.Device.{dev}
use Rattle.slot_records.specs.declared.Slot.{Slot}
use Rattle.slot_records.specs.Records.{nums_of, stored, flat_of, cleared}
use Rattle.slot_records.specs.SameNumbers.{length_nums, flat_front, nums_stored, nums_cleared}
use Rattle.pool_state.specs.declared.Pool.{Pool}
use Rattle.pool_state.specs.State.{bufs}
use Rattle.pool_steps.specs.World.{lent}
use Rattle.mount.specs.Mount.{zero_pool}
use Rattle.calls_gate.specs.declared.Answer.TheVariants.{NotPool, WrongShape}
use Rattle.calls_gate.specs.Answers.{number_of}
use Rattle.calls_gate.specs.Table.{zeroed, unmounted, takes_of, refused_b}
use Rattle.calls_gate.specs.declared.Call.{Call}
use Rattle.calls_gate.specs.declared.Takes.{Takes}
use Rattle.calls_gate.specs.declared.Reply.{Reply}
use Rattle.calls_gate.specs.Replies.{nothing, Came, came, replied, silently}
use Rattle.calls_gate.specs.Calls.{refused_m, call_p}
use Rattle.calls_gate.proofs.Promises.{many_rows}

-- ---- whether the call is a mount

pub mounts_is : (c : Call) (t : Takes) (b : Bool) → t ≡ takes_of c → t.mounts ≡ b → (takes_of c).mounts ≡ b
mounts_is c t b e h = ap (λ (x : Takes). x.mounts) (sym e) ∙ h

-- What comes of a choice that is settled.
pub chosen : {A : Type 0} (t : Bool) (x y z : A) → t ≡ true → z ≡ x → z ≡ cond t x y
chosen t x y z h e = rw h e

pub other : {A : Type 0} (t : Bool) (x y z : A) → t ≡ false → z ≡ y → z ≡ cond t x y
other t x y z h e = rw h e

-- ---- over the front of the numbers

-- A call that was lent the first k numbers m of l, with x behind them.
pub on_front : (r : Reply) (b h m x s d buf l : List ℕ) (k : ℕ) (t : Came) → k ≤ length l → length m ≡ length (take k l)
    → replied r b h m s d buf ≡ t → replied r b h (take k (m ++ x)) s d buf ≡ t
on_front r b h m x s d buf l k t n e f = ap (λ (y : List ℕ). replied r b h y s d buf) (take_at m x k (e ∙ length-take-le k l n)) ∙ f

-- ---- the two ways of the entry

-- At most 64 records: z are the numbers that the call was lent, m those that it left, and f what it comes to.
pub few_rows : (f : List ℕ → Came) (r : Reply) (b h s d x : List ℕ) (rs rs₁ : List Slot) (z m : List ℕ)
    → length rs ≤ 64 → z ≡ flat_of rs → length m ≡ 256 → rs₁ ≡ stored m rs
    → replied r b h (take (length rs * row_width) m) s d x ≡ f (take (length rs * row_width) z) → replied r b h (nums_of rs₁) s d x ≡ f (nums_of rs)
few_rows f r b h s d x rs rs₁ z m few ez em er e =
    ap (λ (y : List ℕ). replied r b h y s d x) (ap nums_of er ∙ nums_stored m rs (omega arith)) ∙ e
    ∙ ap f (ap (take (length rs * row_width)) ez ∙ flat_front rs few)

-- More: k of them were made zero.
module _ (c : Call) (n k : ℕ) (e : k ≡ cond (takes_of c).mounts n 0) where
  pub lost_fits : k ≤ n
  lost_fits = go (takes_of c).mounts e
    where
      go : (t : Bool) → k ≡ cond t n 0 → k ≤ n
      go true z = omega arith
      go false z = omega arith

crowd : (t : Bool) (r : Reply) (b h s₁ d₁ x s d : List ℕ) (p : Place) (q : Pool) (rs rs₁ : List Slot) (k : ℕ)
    → k ≡ cond t (length rs) 0 → rs₁ ≡ cleared k rs
    → r ≡ cond t (silently WrongShape p zero_pool) (silently NotPool p q) → s₁ ≡ cond t (zeroed s) s → d₁ ≡ cond t (zeroed d) d
    → replied r b h (nums_of rs₁) s₁ d₁ x
    ≡ came (cond t 2 1) nothing (lent (dev b h p) (cond t (unmounted (bufs q (nums_of rs) s d)) (bufs q (nums_of rs) s d))) x
unfolding number_of cleared
crowd true r b h s₁ d₁ x s d p q rs rs₁ k ek er e es ed =
    rw (e, es, ed, er, ek) (ap (λ (y : List ℕ). came 2 nothing (lent (dev b h p) (bufs zero_pool y (zeroed s) (zeroed d))) x) (nums_cleared rs))
crowd false r b h s₁ d₁ x s d p q rs rs₁ k ek er e es ed = rw (e, es, ed, er, ek) refl

pub many_rows_are : (plan : List ℕ) (g : Geometry) (c : Call) (one two : List ℕ) (r : Reply) (b h s₁ d₁ x s d : List ℕ) (p : Place)
    (q : Pool) (rs rs₁ : List Slot) (k : ℕ) → 64 < length rs → k ≡ cond (takes_of c).mounts (length rs) 0 → rs₁ ≡ cleared k rs
    → r ≡ cond (takes_of c).mounts (silently WrongShape p zero_pool) (silently NotPool p q)
    → s₁ ≡ cond (takes_of c).mounts (zeroed s) s → d₁ ≡ cond (takes_of c).mounts (zeroed d) d
    → replied r b h (nums_of rs₁) s₁ d₁ x ≡ call_p plan g c one two x (lent (dev b h p) (bufs q (nums_of rs) s d))
unfolding refused_m refused_b
many_rows_are plan g c one two r b h s₁ d₁ x s d p q rs rs₁ k many ek er e es ed =
    let n : length (nums_of rs) ≡ length rs * row_width = length_nums rs in
    crowd (takes_of c).mounts r b h s₁ d₁ x s d p q rs rs₁ k ek er e es ed
    ∙ sym (many_rows plan g c one two x (lent (dev b h p) (bufs q (nums_of rs) s d)) (omega arith))
