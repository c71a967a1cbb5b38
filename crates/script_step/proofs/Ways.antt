-- The call that a code stands for, row by row of the table; and the answer.
use Prim.Native.Nat.{ℕ, ◌+◌, ◌-◌, ◌<◌, ◌≤◌}
use mathlib.Core.Path.{◌≡◌, sym, ap, ◌∙◌}
use mathlib.Core.Bool.{Bool, true, false, cond, not}
use mathlib.Core.List.{List, ◌++◌}
use native.Mathlib.Omega.{arith}
use borrow.Author.Tests.{eq-eqb, ne_eqb, le-leb, lt-leb}
use lib.Dec.{eqb}
use lib.ListN.{length, take, replicate, length-replicate, replicate-append-replicate}
use lib.Seq.{take_at}
use Rattle.le.specs.Le.{le}
use Rattle.le.proofs.Fields.{length_le}
use Rattle.device.specs.declared.Geometry.{Geometry}
use Rattle.device.specs.Device.{Dev}
use Rattle.slot_calls.specs.SlotCalls.{SlotDone, SlotRead, slot_read, read_slot_m, write_slot_m, sync_slot_m, flush_slot_m, truncate_slot_m}
use Rattle.pool_steps.specs.World.{Lent}
use Rattle.script_format.specs.declared.Op.{Op}
use Rattle.script_format.specs.declared.Form.{Form}
use Rattle.script_format.specs.Format.{run_in, form_of}
use Rattle.output.specs.Writer.{Shown, pours}
use Rattle.output.proofs.InParts.{after_pours}
use Rattle.calls_gate.specs.declared.Call.{Call}
use Rattle.calls_gate.specs.declared.Call.TheVariants.{Mount, Adopt, OpenWrite, OpenRead, ReadAt, WriteAt, SetLen, FileLen, Sync, Metadata}
use Rattle.calls_gate.specs.declared.Told.{Told}
use Rattle.calls_gate.specs.Replies.{Came, came}
use Rattle.calls_gate.specs.Table.{opening}
use Rattle.calls_gate.specs.Calls.{call_p}
use Rattle.script_step.specs.Operate.{on_handle, on_path, call_of, change_slot, on_slot, slot_came, made_m}
use Rattle.script_step.specs.Operate.{bit, answer_m, room, said_of, answered_m, op_m, Reached, reached, spoken}

-- ---- the rows

module _ (o : Op) where
  pub is_read : o.code ≡ 5 → ReadAt o.slot o.generation o.at ≡ on_handle o
  unfolding on_handle
  is_read h = rw (eq-eqb _ _ h)

  module _ (a : o.code ≡ 5 → ⊥) where
    pub is_write : o.code ≡ 6 → WriteAt o.slot o.generation o.at ≡ on_handle o
    unfolding on_handle
    is_write h = rw (ne_eqb _ _ a, eq-eqb _ _ h)

    module _ (b : o.code ≡ 6 → ⊥) where
      pub is_set_len : o.code ≡ 7 → SetLen o.slot o.generation o.at ≡ on_handle o
      unfolding on_handle
      is_set_len h = rw (ne_eqb _ _ a, ne_eqb _ _ b, eq-eqb _ _ h)

      module _ (c : o.code ≡ 7 → ⊥) where
        pub is_file_len : o.code ≡ 8 → FileLen o.slot o.generation ≡ on_handle o
        unfolding on_handle
        is_file_len h = rw (ne_eqb _ _ a, ne_eqb _ _ b, ne_eqb _ _ c, eq-eqb _ _ h)

        pub is_sync : (o.code ≡ 8 → ⊥) → Sync o.slot o.generation ≡ on_handle o
        unfolding on_handle
        is_sync h = rw (ne_eqb _ _ a, ne_eqb _ _ b, ne_eqb _ _ c, ne_eqb _ _ h)

-- none of the codes before
pub is_metadata : (k : ℕ) → (k ≡ 10 → ⊥) → (k ≡ 11 → ⊥) → (k ≡ 12 → ⊥) → (k ≡ 13 → ⊥) → (k ≡ 14 → ⊥) → (k ≡ 15 → ⊥)
    → Metadata ≡ on_path k
unfolding on_path
is_metadata k a b c d e f = rw (ne_eqb _ _ a, ne_eqb _ _ b, ne_eqb _ _ c, ne_eqb _ _ d, ne_eqb _ _ e, ne_eqb _ _ f)

module _ (o : Op) where
  pub is_mount : o.code ≡ 1 → Mount o.n ≡ call_of o
  unfolding call_of
  is_mount h = rw (eq-eqb _ _ h)

  module _ (a : o.code ≡ 1 → ⊥) where
    pub is_adopt : o.code ≡ 2 → Adopt o.n ≡ call_of o
    unfolding call_of
    is_adopt h = rw (ne_eqb _ _ a, eq-eqb _ _ h)

    module _ (b : o.code ≡ 2 → ⊥) where
      pub is_open_write : o.code ≡ 3 → OpenWrite (opening (not (eqb o.n 0))) ≡ call_of o
      unfolding call_of
      is_open_write h = rw (ne_eqb _ _ a, ne_eqb _ _ b, eq-eqb _ _ h)

      module _ (c : o.code ≡ 3 → ⊥) where
        pub is_open_read : o.code ≡ 4 → OpenRead ≡ call_of o
        unfolding call_of
        is_open_read h = rw (ne_eqb _ _ a, ne_eqb _ _ b, ne_eqb _ _ c, eq-eqb _ _ h)

        module _ (d : o.code ≡ 4 → ⊥) where
          pub is_on_handle : o.code ≤ 9 → on_handle o ≡ call_of o
          unfolding call_of
          is_on_handle h = rw (ne_eqb _ _ a, ne_eqb _ _ b, ne_eqb _ _ c, ne_eqb _ _ d, le-leb _ _ h)

          pub is_on_path : 9 < o.code → on_path o.code ≡ call_of o
          unfolding call_of
          is_on_path h = rw (ne_eqb _ _ a, ne_eqb _ _ b, ne_eqb _ _ c, ne_eqb _ _ d, lt-leb _ _ h)

-- the call that was read is the operation's
pub asked : (plan : List ℕ) (g : Geometry) (o : Op) (k : Call) (one two buf : List ℕ) (l : Lent) (x : Came) → k ≡ call_of o
    → x ≡ call_p plan g k one two buf l → x ≡ call_p plan g (call_of o) one two buf l
asked plan g o k one two buf l x e f = f ∙ ap (λ (j : Call). call_p plan g j one two buf l) e

-- ---- a call on a slot

module _ (plan : List ℕ) (g : Geometry) (o : Op) (run : List ℕ) (d : Dev) where
  pub is_write_slot : (x : SlotDone) → o.code ≡ 23 → x ≡ write_slot_m plan g o.slot o.at run d → x ≡ change_slot plan g o run d
  unfolding change_slot
  is_write_slot x h e = e ∙ rw (eq-eqb _ _ h)

  module _ (a : o.code ≡ 23 → ⊥) where
    pub is_sync_slot : (x : SlotDone) → o.code ≡ 24 → x ≡ sync_slot_m plan g o.slot o.flag run o.len o.generation d
        → x ≡ change_slot plan g o run d
    unfolding change_slot
    is_sync_slot x h e = e ∙ rw (ne_eqb _ _ a, eq-eqb _ _ h)

    module _ (b : o.code ≡ 24 → ⊥) where
      pub is_flush_slot : (x : SlotDone) → o.code ≡ 25 → x ≡ flush_slot_m plan g o.slot d → x ≡ change_slot plan g o run d
      unfolding change_slot
      is_flush_slot x h e = e ∙ rw (ne_eqb _ _ a, ne_eqb _ _ b, eq-eqb _ _ h)

      pub is_truncate_slot : (x : SlotDone) → (o.code ≡ 25 → ⊥) → x ≡ truncate_slot_m plan g o.slot o.len d
          → x ≡ change_slot plan g o run d
      unfolding change_slot
      is_truncate_slot x h e = e ∙ rw (ne_eqb _ _ a, ne_eqb _ _ b, ne_eqb _ _ h)

  module _ (buf : List ℕ) where
    pub is_read_slot : (x : SlotRead) → o.code ≡ 22 → x ≡ read_slot_m plan g o.slot o.at buf d → x ≡ on_slot plan g o run buf d
    unfolding on_slot
    is_read_slot x h e = e ∙ rw (eq-eqb _ _ h)

    pub is_change : (x : SlotDone) → (o.code ≡ 22 → ⊥) → x ≡ change_slot plan g o run d
        → slot_read x.number 0 buf x.dev ≡ on_slot plan g o run buf d
    unfolding on_slot
    is_change x h e = ap (λ (y : SlotDone). slot_read y.number 0 buf y.dev) e ∙ rw (ne_eqb _ _ h)

-- the call that is made is one on a slot, or the pool's
module _ (s plan : List ℕ) (g : Geometry) (o : Op) (buf : List ℕ) (l : Lent) where
  pub made_on_slot : (x : SlotRead) → 22 ≤ o.code → x ≡ on_slot plan g o (run_in s o.first) buf l.dev
      → slot_came l x ≡ made_m s plan g o buf l
  unfolding made_m
  made_on_slot x h e = ap (slot_came l) e ∙ rw (le-leb _ _ h)

  pub made_on_pool : (n : ℕ) (x : Came) → o.code < 22 → n ≡ x.number
      → x ≡ call_p plan g (call_of o) (run_in s o.first) (run_in s o.second) buf l
      → came n x.told x.left x.buf ≡ made_m s plan g o buf l
  unfolding made_m
  made_on_pool n x h q e = ap (λ (m : ℕ). came m x.told x.left x.buf) q ∙ e ∙ rw (lt-leb _ _ h)

-- ---- the answer

-- of what is told, each number as it was put out
pub answer_is : (o : Op) (f : Form) (n : ℕ) (t : Told) (k : ℕ) (buf : List ℕ) → f ≡ form_of o.code → k ≡ bit t.yes
    → le 1 n ++ le f.gives_slot t.slot ++ le f.gives_generation t.generation
    ++ le f.gives_len t.len ++ le f.gives_count t.count ++ le f.gives_yes k ++ buf
    ≡ answer_m o n t buf
unfolding answer_m
answer_is o f n t k buf e ek = rw (e, ek)

-- a number takes at most 8 bytes
pub near : (w x : ℕ) (o : Shown) {o' : Shown} → w ≤ 8 → o' ≡ pours (le w x) o → o'.at ≤ o.at + 8
near w x o h e = omega (arith, after_pours (le w x) o e, length_le w x)

pub room_is : (o : Op) (f : Form) → f ≡ form_of o.code → f.n ≡ 2 → o.n ≡ room o
unfolding room
room_is o f e h = rw (← e, eq-eqb _ _ h)

pub no_room : (o : Op) (f : Form) → f ≡ form_of o.code → (f.n ≡ 2 → ⊥) → 0 ≡ room o
unfolding room
no_room o f e h = rw (← e, ne_eqb _ _ h)

pub room_small : (o : Op) → o.n < 65536 → room o < 65536
unfolding room
room_small o h = go (eqb (form_of o.code).n 2)
  where
    go : (t : Bool) → cond t o.n 0 < 65536
    go true = h
    go false = omega arith

-- a front of a fresh buffer
pub fresh_front : (n m x : ℕ) (w : List ℕ) → w ≡ replicate m x → n ≤ m → take n w ≡ replicate n x
fresh_front n m x w e h =
    let k : n + (m - n) ≡ m = omega arith in
    ap (take n) (e ∙ ap (λ (j : ℕ). replicate j x) (sym k) ∙ sym (replicate-append-replicate n (m - n) x))
    ∙ take_at (replicate n x) (replicate (m - n) x) n (length-replicate n x)

-- the call, and its answer put out
pub answered_is : (s plan : List ℕ) (g : Geometry) (o : Op) (l : Lent) (c : Came) (buf : List ℕ) (x x' : Shown)
    → c ≡ made_m s plan g o buf l → x' ≡ pours (said_of o c).answer x
    → reached x' c.left ≡ spoken (answered_m s plan g o buf l) x
unfolding answered_m spoken
answered_is s plan g o l c buf x x' e h =
    ap (λ (u : Shown). reached u c.left) h ∙ ap (λ (k : Came). spoken (said_of o k) x) e

-- with the buffer that the operation asks for
pub step_is : (s plan : List ℕ) (g : Geometry) (o : Op) (l : Lent) (buf : List ℕ) (x : Shown) (y : Reached) → buf ≡ replicate (room o) 170
    → y ≡ spoken (answered_m s plan g o buf l) x → y ≡ spoken (op_m s plan g o l) x
unfolding op_m
step_is s plan g o l buf x y f e = e ∙ ap (λ (b : List ℕ). spoken (answered_m s plan g o b l) x) f

pub fresh_length : (m x : ℕ) (w : List ℕ) → w ≡ replicate m x → length w ≡ m
fresh_length m x w e = ap length e ∙ length-replicate m x
