-- The proofs of what specs/Promises.antt states of every call at once.
use Prim.Native.Nat.{ℕ, ◌*◌, ◌≤◌, ◌<◌}
use native.Mathlib.Omega.{arith}
use mathlib.Core.Path.{◌≡◌, refl, sym, ap, ◌∙◌}
use mathlib.Core.Bool.{Bool, true, false, cond, ◌&&◌}
use mathlib.Core.List.{List}
use lib.Dec.{eqb, leb, ltb}
use lib.ListN.{length}
use borrow.Author.Tests.{leb-true, eq-eqb, eqb-true}
use Rattle.limits.specs.Limits.{row_width}
use Rattle.device.specs.declared.Geometry.{Geometry}
use Rattle.device.specs.Device.{shape_b}
use Rattle.device.proofs.Shapes.{both}
use Rattle.slot_rows.specs.Rows.{at, len_of}
use Rattle.dir_rows.specs.Dirs.{registered_with}
use Rattle.pool_state.specs.State.{State, Bufs, view, flat}
use Rattle.pool_state.specs.Changes.{with_dirs}
use Rattle.pool_state.specs.Reads.{pool_reads}
use Rattle.pool_test.specs.Test.{is_pool}
use Rattle.pool_test.proofs.Exactly.{is_pool_of}
use Rattle.pool_steps.specs.World.{World, world, Lent, view_w, flat_w, Fit, Ready}
use Rattle.pool_steps.proofs.Stays.{ready_fit, world_is}
use Rattle.pool_steps.proofs.Numbers.{either}
use Rattle.mount.specs.Mount.{mount_m, mounted}
use Rattle.mount.proofs.Stays.{adopt_valid, mount_valid}
use Rattle.pool_steps.specs.Outcome.{Outcome, outcome, None, flat_o}
use Rattle.inner_handle.specs.Handles.{Filling, is_live, read_part, read_at_m}
use Rattle.inner_handle.proofs.Stays.{read_at_fit, write_at_fit, set_len_fit, sync_fit}
use Rattle.inner_open.proofs.Stays.{open_write_fit, remove_fit}
use Rattle.inner_rename.proofs.Stays.{rename_fit}
use Rattle.inner_dirs.specs.Folders.{flat_b, too_long, create_dir_all_m}
use Rattle.inner_dirs.proofs.Stays.{create_dir_all_valid, sync_dir_fit}
use Rattle.calls_gate.specs.declared.Answer.{Answer}
use Rattle.calls_gate.specs.declared.Call.{Call}
use Rattle.calls_gate.specs.declared.Call.TheVariants.{Mount, Adopt, OpenWrite, OpenRead, ReadAt, WriteAt, SetLen, FileLen}
use Rattle.calls_gate.specs.declared.Call.TheVariants.{Sync, SyncDir, Rename, RemoveFile, CreateDirAll, ReadDir, Exists, Metadata}
use Rattle.calls_gate.specs.Answers.{answer_of, answer_back}
use Rattle.calls_gate.specs.Replies.{Came}
use Rattle.calls_gate.specs.Table.{takes_of, slot_rows, dir_rows, chosen_of, rows_b, mountable, refusal_of, refused_b}
use Rattle.calls_gate.proofs.Passed.{passed, is_ready, mounts_on, text_of}
use Rattle.calls_gate.specs.Calls.{inner_m, refused_m, call_p}
use Rattle.calls_gate.specs.Promises.{End, ends, OneOutcome, CallStays, Leaves, LooksLeave, ManyRows}

-- ---- "any two outcomes it allows are the same"

back : Came → End
back x = record { answer = answer_of x.number; told = x.told; left = x.left; buf = x.buf }

back_ends : (e : End) → back (ends e) ≡ e
unfolding back
back_ends e = ap (λ (a : Answer). record { answer = a; told = e.told; left = e.left; buf = e.buf }) (answer_back e.answer)

pub one_outcome : OneOutcome
one_outcome plan g c one two buf l e f p q = sym (back_ends e) ∙ ap back (p ∙ sym q) ∙ back_ends f

-- ---- "a pool stays a pool"

-- The buffers of a fit pool with its device are ready.
still : (g : Geometry) (w : World) → Fit g w → Ready g (flat_w w)
still g w f = (world_is g w (flat_w w) f refl).1

made_rows : (path : List ℕ) (s : State) → (create_dir_all_m path s).left.rows ≡ s.rows
unfolding create_dir_all_m with_dirs
made_rows path s = go (too_long path) (ltb s.chosen.dir_rows (length (registered_with s.dirs path)))
  where
    go : (a b : Bool) → (cond a (outcome {R = None} 4 tt s) (cond b (outcome 8 tt s) (outcome 0 tt (with_dirs (registered_with s.dirs path) s)))).left.rows ≡ s.rows
    go true b = refl
    go false true = refl
    go false false = refl

rows_fit : (g : Geometry) (l : Lent) → Fit g (view_w l) → length (view l.bufs).rows ≤ length l.dev.phys
unfolding view_w
rows_fit g l f = f.slots

differs : ◌≡◌ {A = Bool} false true → ⊥
differs q = let y : ◌≡◌ {A = ℕ} 0 1 = cc in omega arith

mounted_ready : (g : Geometry) (c : Outcome None World) → Fit g c.left → (mounted c).out ≡ 0 → Ready g (mounted c).left
unfolding mounted
mounted_ready g c f z = let y : eqb c.out 0 ≡ true = eq-eqb c.out 0 z in rw y (still g c.left f)

module _ (plan : List ℕ) (g : Geometry) (one two buf : List ℕ) (l : Lent) where
  -- A call that is passed; of a mount, one that is done.
  Passed : Call → Type 0
  Passed c = (refusal_of g c one two l ≡ 0) × ((takes_of c).mounts ≡ true → (inner_m plan g c one two buf l).number ≡ 0)

  fits : (c : Call) → Passed c → (takes_of c).mounts ≡ false → Fit g (view_w l)
  unfolding Passed
  fits c p m = ready_fit g l (is_ready g c one two l p.0 m)

  inner_stays : (c : Call) → Passed c → Ready g (inner_m plan g c one two buf l).left
  unfolding Passed inner_m takes_of flat_o flat_b flat_w
  inner_stays (Mount slots) p =
      let m = mounts_on g (Mount slots) (Mount slots) one two l p.0 refl refl in
      let c = mount_m plan g (chosen_of l.bufs) slots l.dev in
      mounted_ready g c (mount_valid plan g (chosen_of l.bufs) slots l.dev m.0.0 m.0.1 m.0.2) (p.1 refl)
  inner_stays (Adopt slots) p = still g _ (adopt_valid plan g (view_w l) (fits (Adopt slots) p refl) slots)
  inner_stays (OpenWrite how) p =
      let t = passed g (OpenWrite how) one two l p.0 refl in
      still g _ (open_write_fit plan g (view_w l) (fits (OpenWrite how) p refl) one how.keep (text_of one t.2))
  inner_stays OpenRead p = is_ready g OpenRead one two l p.0 refl
  inner_stays (ReadAt slot generation pos) p =
      still g _ (read_at_fit plan g slot generation (view_w l) (fits (ReadAt slot generation pos) p refl) pos buf)
  inner_stays (WriteAt slot generation pos) p =
      still g _ (write_at_fit plan g slot generation (view_w l) (fits (WriteAt slot generation pos) p refl) pos one)
  inner_stays (SetLen slot generation len) p =
      still g _ (set_len_fit plan g slot generation (view_w l) (fits (SetLen slot generation len) p refl) len)
  inner_stays (FileLen slot generation) p = is_ready g (FileLen slot generation) one two l p.0 refl
  inner_stays (Sync slot generation) p = still g _ (sync_fit plan g slot generation (view_w l) (fits (Sync slot generation) p refl))
  inner_stays SyncDir p = still g _ (sync_dir_fit plan g one (view_w l) (fits SyncDir p refl))
  inner_stays Rename p =
      let t = passed g Rename one two l p.0 refl in
      still g _ (rename_fit plan g one two (view_w l) (fits Rename p refl) (text_of two t.3))
  inner_stays RemoveFile p = still g _ (remove_fit plan g (view_w l) (fits RemoveFile p refl) one)
  inner_stays CreateDirAll p =
      let r = is_ready g CreateDirAll one two l p.0 refl in
      let f = ready_fit g l r in
      let s = view l.bufs in
      let n : length (create_dir_all_m one s).left.rows ≡ length s.rows = ap length (made_rows one s) in
      let k : length s.rows ≤ length l.dev.phys = rows_fit g l f in
      still g (world l.dev (create_dir_all_m one s).left)
      (record { valid = create_dir_all_valid one s r.pool.valid; shape = r.shape; slots = omega (arith, n, k) })
  inner_stays ReadDir p = is_ready g ReadDir one two l p.0 refl
  inner_stays Exists p = is_ready g Exists one two l p.0 refl
  inner_stays Metadata p = is_ready g Metadata one two l p.0 refl

pub call_stays : CallStays
unfolding call_p refused_m refused_b Passed
call_stays plan g one two buf l c done is = go (eqb (refusal_of g c one two l) 0) (takes_of c).mounts refl refl done
  where
    goes : Bool → Came
    goes z = cond z (inner_m plan g c one two buf l) (refused_m c (refusal_of g c one two l) buf l)

    go : (z m : Bool) → eqb (refusal_of g c one two l) 0 ≡ z → (takes_of c).mounts ≡ m → ((takes_of c).mounts ≡ true → (goes z).number ≡ 0)
        → Ready g (goes z).left
    go true m e k d = inner_stays plan g one two buf l c (eqb-true _ _ e, d)
    go false false e k d = rw k (is k)
    go false true e k d = let n = eq-eqb _ _ (d k) in absurd (differs (sym e ∙ n))

-- ---- what only looks

-- The world after a read: its device's place has moved, and nothing else.
module _ (plan : List ℕ) (g : Geometry) (slot generation pos : ℕ) (buf : List ℕ) (w : World) where
  Looked : Outcome Filling World → Type 0
  Looked o = (o.left.dev.bytes ≡ w.dev.bytes) × (o.left.dev.phys ≡ w.dev.phys) × (o.left.state ≡ w.state)

  read_looks : Looked (read_at_m plan g slot generation pos buf w)
  unfolding Looked read_at_m read_part
  read_looks =
      either Looked (is_live slot generation w.state.rows)
      (either Looked (leb (len_of (at w.state.rows slot)) pos) (refl, refl, refl) (refl, refl, refl)) (refl, refl, refl)

module _ (plan : List ℕ) (g : Geometry) (one two buf : List ℕ) (l : Lent) where
  as_it_was : Leaves l l
  as_it_was = record { bytes = refl; phys = refl; bufs = refl }

  inner_looks : (c : Call) → refusal_of g c one two l ≡ 0 → (takes_of c).writes ≡ false → (takes_of c).mounts ≡ false
      → ((slots : ℕ) → c ≡ Adopt slots → ⊥) → Leaves l (inner_m plan g c one two buf l).left
  unfolding inner_m takes_of flat_o flat_w view_w Looked
  inner_looks (Mount slots) z w m a = absurd (differs (sym m))
  inner_looks (Adopt slots) z w m a = absurd (a slots refl)
  inner_looks (OpenWrite how) z w m a = absurd (differs (sym w))
  inner_looks OpenRead z w m a = as_it_was
  inner_looks (ReadAt slot generation pos) z w m a =
      let r = read_looks plan g slot generation pos buf (view_w l) in
      let p = (is_ready g (ReadAt slot generation pos) one two l z refl).pool in
      record { bytes = r.0; phys = r.1; bufs = ap flat r.2 ∙ p.canon }
  inner_looks (WriteAt slot generation pos) z w m a = absurd (differs (sym w))
  inner_looks (SetLen slot generation len) z w m a = absurd (differs (sym w))
  inner_looks (FileLen slot generation) z w m a = as_it_was
  inner_looks (Sync slot generation) z w m a = absurd (differs (sym w))
  inner_looks SyncDir z w m a = absurd (differs (sym w))
  inner_looks Rename z w m a = absurd (differs (sym w))
  inner_looks RemoveFile z w m a = absurd (differs (sym w))
  inner_looks CreateDirAll z w m a = absurd (differs (sym w))
  inner_looks ReadDir z w m a = as_it_was
  inner_looks Exists z w m a = as_it_was
  inner_looks Metadata z w m a = as_it_was

pub looks_leave : LooksLeave
unfolding call_p refused_m refused_b
looks_leave plan g one two buf l c w m a = go (eqb (refusal_of g c one two l) 0) refl
  where
    go : (t : Bool) → eqb (refusal_of g c one two l) 0 ≡ t
        → Leaves l (cond t (inner_m plan g c one two buf l) (refused_m c (refusal_of g c one two l) buf l)).left
    go true e = inner_looks plan g one two buf l c (eqb-true _ _ e) w m a
    go false e = rw m (as_it_was plan g one two buf l)

-- ---- more than 64 rows

-- A pool has not more.
pub crowd_no_pool : (b : Bufs) → 256 < length b.nums → is_pool b ≡ false
crowd_no_pool b h = go (is_pool b) refl
  where
    go : (t : Bool) → is_pool b ≡ t → t ≡ false
    go false e = refl
    go true e = let s = pool_reads b (is_pool_of b e) in absurd (omega (arith, s.rows, s.nums_long))

-- Nor can they be mounted, on whatever device.
crowd_no_rows : (t : Bool) (nums names dirs : List ℕ) → 256 < length nums → (t && rows_b nums names dirs) ≡ false
unfolding rows_b
crowd_no_rows false nums names dirs h = refl
crowd_no_rows true nums names dirs h = go (rows_b nums names dirs) refl
  where
    go : (u : Bool) → rows_b nums names dirs ≡ u → u ≡ false
    go false e = refl
    go true e =
        let a = both (leb (slot_rows nums) 64) _ e in
        let b = both (leb (dir_rows dirs) 256) _ a.1 in
        let c = both (eqb (length nums) (slot_rows nums * row_width)) _ b.1 in
        absurd (omega (arith, leb-true (slot_rows nums) 64 a.0, eqb-true (length nums) (slot_rows nums * row_width) c.0))

-- So every call refuses: 2 at a mount, else 1.
pub many_rows : ManyRows
unfolding call_p refusal_of mountable
many_rows plan g c one two buf l h = go (takes_of c).mounts refl
  where
    go : (m : Bool) → (takes_of c).mounts ≡ m → call_p plan g c one two buf l ≡ refused_m c (cond m 2 1) buf l
    go true e =
        let z = crowd_no_rows (shape_b g l.dev.bytes l.dev.phys) l.bufs.nums l.bufs.names l.bufs.dirs h in
        rw (e, z) refl
    go false e = rw (e, crowd_no_pool l.bufs h) refl
