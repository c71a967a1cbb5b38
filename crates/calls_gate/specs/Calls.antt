-- The sixteen public calls as one function. `one` is the path or the bytes to write, `two` rename's other path, `buf` what a call fills,
-- l what is lent.
use Rattle.std.specs.Prelude.{ℕ, Bool, false, cond, List, eqb}
use Rattle.device.specs.declared.Geometry.{Geometry}
use Rattle.pool_state.specs.State.{Bufs, view}
use Rattle.pool_steps.specs.World.{Lent, lent, view_w}
use Rattle.mount.specs.Mount.{adopt_m, mount_m, mounted}
use Rattle.pool_steps.specs.Outcome.{Outcome, None, flat_o}
use Rattle.inner_handle.specs.Handles.{Len, Filling, file_len_m, read_at_m, write_at_m, set_len_m, sync_m}
use Rattle.inner_open.specs.Files.{ReaderTold, Handle, open_read_m, open_write_m, remove_m}
use Rattle.inner_rename.specs.Rename.{rename_m}
use Rattle.inner_dirs.specs.Folders.{MetaTold, flat_b, create_dir_all_m, exists_m, metadata_m, sync_dir_m}
use Rattle.inner_list.specs.Listing.{Listing, read_dir_m}
use Rattle.calls_gate.specs.declared.Call.{Call}
use Rattle.calls_gate.specs.declared.Call.TheVariants.{Mount, Adopt, OpenWrite, OpenRead, ReadAt, WriteAt, SetLen, FileLen}
use Rattle.calls_gate.specs.declared.Call.TheVariants.{Sync, SyncDir, Rename, RemoveFile, CreateDirAll, ReadDir, Exists, Metadata}
use Rattle.calls_gate.specs.Replies.{telling, nothing, Came, came}
use Rattle.calls_gate.specs.Table.{chosen_of, refusal_of, refused_b}

-- ---- what comes back

-- A call that tells nothing.
abbrev pub quiet : List ℕ → Outcome None Lent → Came
quiet buf o = came o.out nothing o.left buf

-- A handle for writing and the file's length; a handle for reading.
abbrev pub opened : List ℕ → Outcome Handle Lent → Came
opened buf o = came o.out (telling o.results.slot o.results.generation o.results.len 0 false) o.left buf

abbrev pub reading : List ℕ → Lent → ReaderTold → Came
reading buf l x = came x.out (telling x.slot x.generation 0 0 false) l buf

-- How many bytes were read, and the buffer; a length.
abbrev pub filled : Outcome Filling Lent → Came
filled o = came o.out (telling 0 0 0 o.results.count false) o.left o.results.buf

abbrev pub measured : List ℕ → Lent → Len → Came
measured buf l x = came x.out (telling 0 0 x.len 0 false) l buf

-- create_dir_all leaves the device as it was.
abbrev pub made : List ℕ → Lent → Outcome None Bufs → Came
made buf l o = came o.out nothing (lent l.dev o.left) buf

-- The bytes of a listing, and the buffer; yes or no; a file's length, or that it is a directory.
abbrev pub listed : Lent → Listing → Came
listed l x = came x.out (telling 0 0 0 x.size false) l x.buf

abbrev pub found : List ℕ → Lent → Bool → Came
found buf l t = came 0 (telling 0 0 0 0 t) l buf

abbrev pub described : List ℕ → Lent → MetaTold → Came
described buf l x = came x.out (telling 0 0 x.len 0 x.is_dir) l buf

-- ---- the calls

-- "A refused call returns its number with all other results zero."
unfoldable pub refused_m : Call → ℕ → List ℕ → Lent → Came
refused_m c n buf l = came n nothing (lent l.dev (refused_b c l.bufs)) buf

module _ (plan : List ℕ) (g : Geometry) where
  -- What each comes to where nothing of the table refuses it. A buffer that it does not fill stays.
  unfoldable pub inner_m : Call → List ℕ → List ℕ → List ℕ → Lent → Came
  inner_m (Mount slots) one two buf l =
      quiet buf (mounted (mount_m plan g (chosen_of l.bufs) slots l.dev))
  inner_m (Adopt slots) one two buf l = quiet buf (flat_o (adopt_m plan g slots (view_w l)))
  inner_m (OpenWrite how) one two buf l = opened buf (flat_o (open_write_m plan g one how.keep (view_w l)))
  inner_m OpenRead one two buf l = reading buf l (open_read_m one (view l.bufs))
  inner_m (ReadAt slot generation pos) one two buf l = filled (flat_o (read_at_m plan g slot generation pos buf (view_w l)))
  inner_m (WriteAt slot generation pos) one two buf l = quiet buf (flat_o (write_at_m plan g slot generation pos one (view_w l)))
  inner_m (SetLen slot generation len) one two buf l = quiet buf (flat_o (set_len_m plan g slot generation len (view_w l)))
  inner_m (FileLen slot generation) one two buf l = measured buf l (file_len_m slot generation (view l.bufs))
  inner_m (Sync slot generation) one two buf l = quiet buf (flat_o (sync_m plan g slot generation (view_w l)))
  inner_m SyncDir one two buf l = quiet buf (flat_o (sync_dir_m plan g one (view_w l)))
  inner_m Rename one two buf l = quiet buf (flat_o (rename_m plan g one two (view_w l)))
  inner_m RemoveFile one two buf l = quiet buf (flat_o (remove_m plan g one (view_w l)))
  inner_m CreateDirAll one two buf l = made buf l (flat_b (create_dir_all_m one (view l.bufs)))
  inner_m ReadDir one two buf l = listed l (read_dir_m one buf (view l.bufs))
  inner_m Exists one two buf l = found buf l (exists_m one (view l.bufs))
  inner_m Metadata one two buf l = described buf l (metadata_m one (view l.bufs))

  -- The first refusal of the table, else what the inner call comes to.
  unfoldable pub call_p : Call → List ℕ → List ℕ → List ℕ → Lent → Came
  call_p c one two buf l =
      let no = refusal_of g c one two l in
      cond (eqb no 0) (inner_m c one two buf l) (refused_m c no buf l)
