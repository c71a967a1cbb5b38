-- No stale handle comes back, call by call: what every call makes of the rows (`call_onward`).
use Prim.Native.Nat.{ℕ}
use mathlib.Core.Path.{◌≡◌, refl, sym, subst}
use mathlib.Core.Bool.{false, false≢true}
use mathlib.Core.List.{List}
use Rattle.device.specs.declared.Geometry.{Geometry}
use Rattle.pool_state.specs.State.{view, flat}
use Rattle.pool_state.specs.InBuffers.{view_flat}
use Rattle.pool_steps.specs.World.{World, Lent, view_w, flat_w, Fit}
use Rattle.pool_steps.specs.Outcome.{flat_o}
use Rattle.pool_steps.proofs.Stays.{ready_fit}
use Rattle.mount.proofs.Stays.{adopt_valid}
use Rattle.inner_handle.proofs.Stays.{read_at_fit, write_at_fit, set_len_fit, sync_fit}
use Rattle.inner_open.proofs.Stays.{open_write_fit, remove_fit}
use Rattle.inner_rename.proofs.Stays.{rename_fit}
use Rattle.inner_dirs.specs.Folders.{flat_b, create_dir_all_m}
use Rattle.inner_dirs.proofs.Stays.{create_dir_all_valid, sync_dir_fit}
use Rattle.calls_gate.specs.declared.Call.{Call}
use Rattle.calls_gate.specs.declared.Call.TheVariants.{Mount, Adopt, OpenWrite, OpenRead, ReadAt, WriteAt, SetLen, FileLen}
use Rattle.calls_gate.specs.declared.Call.TheVariants.{Sync, SyncDir, Rename, RemoveFile, CreateDirAll, ReadDir, Exists, Metadata}
use Rattle.calls_gate.specs.Table.{takes_of, refusal_of, refused_b}
use Rattle.calls_gate.specs.Calls.{inner_m, refused_m, call_p}
use Rattle.calls_gate.proofs.Passed.{passed, is_ready, text_of}
use Rattle.calls_gate.proofs.Inward.{by_table}
use Rattle.calls_gate.proofs.InnerOnward.{GoesOn, stands, read_at_onward, write_at_onward, set_len_onward, sync_onward}
use Rattle.calls_gate.proofs.InnerOnward.{remove_onward, open_write_onward, rename_onward}
use Rattle.calls_gate.proofs.InnerOnward.{sync_dir_onward, create_dir_all_onward, adopt_onward}

module _ (plan : List ℕ) (g : Geometry) (c : Call) (one two buf : List ℕ) (l : Lent) where
  -- What is so of what was lent, and of what the inner call leaves, is so after the call.
  pub by_gate : (P : Lent → Type 0) → (takes_of c).mounts ≡ false → P l → (refusal_of g c one two l ≡ 0 → P (inner_m plan g c one two buf l).left)
      → P (call_p plan g c one two buf l).left
  unfolding refused_m refused_b
  by_gate P m p f = by_table plan g c one two buf l (λ x. P x.left) f (rw m p)

module _ (plan : List ℕ) (g : Geometry) (one two buf : List ℕ) (l : Lent) where
  -- a pool in its buffers
  laid : (w : World) → Fit g w → GoesOn (view l.bufs) w.state → GoesOn (view l.bufs) (view (flat w.state))
  laid w f a = subst (GoesOn (view l.bufs)) (sym (view_flat w.state f.valid)) a

  pub fits : (c : Call) → refusal_of g c one two l ≡ 0 → (takes_of c).mounts ≡ false → Fit g (view_w l)
  fits c z m = ready_fit g l (is_ready g c one two l z m)

  inner_onward : (c : Call) → refusal_of g c one two l ≡ 0 → (takes_of c).mounts ≡ false
      → GoesOn (view l.bufs) (view (inner_m plan g c one two buf l).left.bufs)
  unfolding inner_m takes_of flat_o flat_b flat_w view_w
  inner_onward (Mount slots) z m = absurd (false≢true (sym m))
  inner_onward (Adopt slots) z m =
      laid _ (adopt_valid plan g (view_w l) (fits (Adopt slots) z refl) slots) (adopt_onward plan g slots (view_w l))
  inner_onward (OpenWrite how) z m =
      let t = passed g (OpenWrite how) one two l z refl in
      laid _ (open_write_fit plan g (view_w l) (fits (OpenWrite how) z refl) one how.keep (text_of one t.2))
      (open_write_onward plan g one how.keep (view_w l))
  inner_onward OpenRead z m = stands (view l.bufs)
  inner_onward (ReadAt slot generation pos) z m =
      laid _ (read_at_fit plan g slot generation (view_w l) (fits (ReadAt slot generation pos) z refl) pos buf)
      (read_at_onward plan g slot generation (view_w l) pos buf)
  inner_onward (WriteAt slot generation pos) z m =
      laid _ (write_at_fit plan g slot generation (view_w l) (fits (WriteAt slot generation pos) z refl) pos one)
      (write_at_onward plan g slot generation (view_w l) pos one)
  inner_onward (SetLen slot generation len) z m =
      laid _ (set_len_fit plan g slot generation (view_w l) (fits (SetLen slot generation len) z refl) len)
      (set_len_onward plan g slot generation (view_w l) len)
  inner_onward (FileLen slot generation) z m = stands (view l.bufs)
  inner_onward (Sync slot generation) z m =
      laid _ (sync_fit plan g slot generation (view_w l) (fits (Sync slot generation) z refl)) (sync_onward plan g slot generation (view_w l))
  inner_onward SyncDir z m = laid _ (sync_dir_fit plan g one (view_w l) (fits SyncDir z refl)) (sync_dir_onward plan g one (view_w l))
  inner_onward Rename z m =
      let t = passed g Rename one two l z refl in
      laid _ (rename_fit plan g one two (view_w l) (fits Rename z refl) (text_of two t.3)) (rename_onward plan g one two (view_w l))
  inner_onward RemoveFile z m = laid _ (remove_fit plan g (view_w l) (fits RemoveFile z refl) one) (remove_onward plan g one (view_w l))
  inner_onward CreateDirAll z m =
      let s = view l.bufs in
      let ok = create_dir_all_valid one s (is_ready g CreateDirAll one two l z refl).pool.valid in
      subst (GoesOn s) (sym (view_flat (create_dir_all_m one s).left ok)) (create_dir_all_onward one s)
  inner_onward ReadDir z m = stands (view l.bufs)
  inner_onward Exists z m = stands (view l.bufs)
  inner_onward Metadata z m = stands (view l.bufs)

  pub call_onward : (c : Call) → (takes_of c).mounts ≡ false → GoesOn (view l.bufs) (view (call_p plan g c one two buf l).left.bufs)
  call_onward c m =
      by_gate plan g c one two buf l (λ (x : Lent). GoesOn (view l.bufs) (view x.bufs)) m (stands (view l.bufs)) (λ z. inner_onward c z m)
