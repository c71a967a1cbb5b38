-- What every call comes to: one of 01's numbers, and the numbers of so many rows.
use Prim.Native.Nat.{ℕ, ◌*◌}
use native.Mathlib.Omega.{arith}
use mathlib.Core.Path.{◌≡◌, ◌∙◌}
use mathlib.Core.List.{List}
use lib.Dec.{eqb}
use lib.ListN.{length, length-replicate}
use Rattle.limits.specs.Limits.{row_width}
use Rattle.device.specs.declared.Geometry.{Geometry}
use Rattle.lists.specs.Blocks.{length_pad}
use Rattle.slot_rows.specs.Rows.{flat_nums}
use Rattle.pool_state.specs.Numbers.{IsNumber}
use Rattle.pool_state.specs.State.{State, Bufs, view, flat}
use Rattle.pool_steps.specs.World.{World, Lent, lent, flat_w}
use Rattle.pool_steps.specs.Outcome.{flat_o}
use Rattle.pool_steps.proofs.Numbers.{either}
use Rattle.mount.specs.Mount.{mounted, mount_m, zero_bufs}
use Rattle.inner_dirs.specs.Folders.{flat_b, create_dir_all_m}
use Rattle.calls_gate.specs.declared.Call.{Call}
use Rattle.calls_gate.specs.declared.Call.TheVariants.{Adopt, CreateDirAll, Exists, FileLen, Metadata, Mount, OpenRead, OpenWrite}
use Rattle.calls_gate.specs.declared.Call.TheVariants.{ReadAt, ReadDir, RemoveFile, Rename, SetLen, Sync, SyncDir, WriteAt}
use Rattle.calls_gate.specs.Replies.{Came}
use Rattle.calls_gate.specs.Table.{takes_of, chosen_of, holds_pool, mountable, text_if, refusal_of, refused_b, unmounted}
use Rattle.calls_gate.specs.Calls.{inner_m, refused_m, call_p}
use Rattle.calls_gate.proofs.Numbers.{inner-number}
use Rattle.pool_test.specs.Test.{is_pool}

-- the numbers of so many rows
abbrev Rows : Bufs → Type 0
Rows b = (k : ℕ) × (length b.nums ≡ k * row_width)

flat_rows : (s : State) → Rows (flat s)
unfolding flat flat_nums
flat_rows s = (s.chosen.rows, length_pad (s.chosen.rows * row_width) _)

world_rows : (w : World) → Rows (flat_w w).bufs
unfolding flat_w
world_rows w = flat_rows w.state

module _ (plan : List ℕ) (g : Geometry) (one two buf : List ℕ) (l : Lent) (R : Rows l.bufs) where
  inner_rows : (c : Call) → Rows (inner_m plan g c one two buf l).left.bufs
  unfolding inner_m flat_o flat_b mounted
  inner_rows (Mount slots) =
      let o = mount_m plan g (chosen_of l.bufs) slots l.dev in
      let RowsL : Lent → Type 0 = λ x. Rows x.bufs in
      let h = o.left.state.chosen in
      either RowsL (eqb o.out 0) {x = flat_w o.left} {y = lent o.left.dev (zero_bufs h)} (world_rows o.left)
      (h.rows, length-replicate (h.rows * row_width) 0)
  inner_rows (Adopt slots) = world_rows _
  inner_rows (OpenWrite how) = world_rows _
  inner_rows OpenRead = R
  inner_rows (ReadAt slot generation pos) = world_rows _
  inner_rows (WriteAt slot generation pos) = world_rows _
  inner_rows (SetLen slot generation len) = world_rows _
  inner_rows (FileLen slot generation) = R
  inner_rows (Sync slot generation) = world_rows _
  inner_rows SyncDir = world_rows _
  inner_rows Rename = world_rows _
  inner_rows RemoveFile = world_rows _
  inner_rows CreateDirAll = flat_rows (create_dir_all_m one (view l.bufs)).left
  inner_rows ReadDir = R
  inner_rows Exists = R
  inner_rows Metadata = R

  refused_rows : (c : Call) → Rows (refused_b c l.bufs)
  unfolding refused_b
  refused_rows c =
      either Rows (takes_of c).mounts {x = unmounted l.bufs} {y = l.bufs} (R.0, length-replicate (length l.bufs.nums) 0 ∙ R.1) R

  refusal_number : (c : Call) → IsNumber (refusal_of g c one two l)
  unfolding refusal_of
  refusal_number c =
      either IsNumber (takes_of c).mounts (either IsNumber (mountable g l) (omega arith) (omega arith))
      (either IsNumber (is_pool l.bufs)
      (either IsNumber (holds_pool g l)
      (either IsNumber (text_if (takes_of c).first one)
      (either IsNumber (text_if (takes_of c).second two) (omega arith) (omega arith)) (omega arith)) (omega arith)) (omega arith))

  pub call_ends : (c : Call) → IsNumber (call_p plan g c one two buf l).number × Rows (call_p plan g c one two buf l).left.bufs
  unfolding call_p refused_m
  call_ends c =
      let no = refusal_of g c one two l in
      let Ends : Came → Type 0 = λ a. IsNumber a.number × Rows a.left.bufs in
      either Ends (eqb no 0) {x = inner_m plan g c one two buf l} {y = refused_m c no buf l}
      (inner-number plan g c one two buf l, inner_rows c) (refusal_number c, refused_rows c)
