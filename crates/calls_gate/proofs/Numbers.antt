-- The number of every call is one of 01's, so it is an answer's: call by call, by the law that stands beside each.
use Prim.Native.Nat.{ℕ}
use native.Mathlib.Omega.{arith}
use mathlib.Core.List.{List}
use Rattle.device.specs.declared.Geometry.{Geometry}
use Rattle.pool_state.specs.Numbers.{IsNumber}
use Rattle.pool_state.specs.State.{view}
use Rattle.pool_steps.specs.World.{Lent, view_w}
use Rattle.mount.specs.Mount.{mounted}
use Rattle.mount.proofs.Numbers.{adopt_number, mount_number}
use Rattle.pool_steps.specs.Outcome.{flat_o}
use Rattle.inner_handle.proofs.Numbers.{file_len_number, read_at_number, set_len_number, sync_number, write_at_number}
use Rattle.inner_open.proofs.Numbers.{open_read_number, open_write_number, remove_number}
use Rattle.inner_rename.proofs.Numbers.{rename_number}
use Rattle.inner_dirs.specs.Folders.{flat_b}
use Rattle.inner_dirs.proofs.Stays.{create_dir_all_number, metadata_number, sync_dir_number}
use Rattle.inner_list.specs.Theorems.{read_dir_number}
use Rattle.calls_gate.specs.declared.Call.{Call}
use Rattle.calls_gate.specs.declared.Call.TheVariants.{Adopt, CreateDirAll, Exists, FileLen, Metadata, Mount, OpenRead, OpenWrite}
use Rattle.calls_gate.specs.declared.Call.TheVariants.{ReadAt, ReadDir, RemoveFile, Rename, SetLen, Sync, SyncDir, WriteAt}
use Rattle.calls_gate.specs.Table.{chosen_of}
use Rattle.calls_gate.specs.Calls.{inner_m}

pub inner-number :
    (plan : List ℕ) (g : Geometry) (c : Call) (one two buf : List ℕ) (l : Lent) → IsNumber (inner_m plan g c one two buf l).number
unfolding inner_m flat_o flat_b mounted
inner-number plan g (Mount slots) one two buf l = mount_number plan g (chosen_of l.bufs) slots l.dev
inner-number plan g (Adopt slots) one two buf l = adopt_number plan g slots (view_w l)
inner-number plan g (OpenWrite how) one two buf l = open_write_number plan g one how.keep (view_w l)
inner-number plan g OpenRead one two buf l = open_read_number one (view l.bufs)
inner-number plan g (ReadAt slot generation pos) one two buf l = read_at_number plan g slot generation (view_w l) pos buf
inner-number plan g (WriteAt slot generation pos) one two buf l = write_at_number plan g slot generation (view_w l) pos one
inner-number plan g (SetLen slot generation len) one two buf l = set_len_number plan g slot generation (view_w l) len
inner-number plan g (FileLen slot generation) one two buf l = file_len_number slot generation (view l.bufs)
inner-number plan g (Sync slot generation) one two buf l = sync_number plan g slot generation (view_w l)
inner-number plan g SyncDir one two buf l = sync_dir_number plan g one (view_w l)
inner-number plan g Rename one two buf l = rename_number plan g one two (view_w l)
inner-number plan g RemoveFile one two buf l = remove_number plan g one (view_w l)
inner-number plan g CreateDirAll one two buf l = create_dir_all_number one (view l.bufs)
inner-number plan g ReadDir one two buf l = read_dir_number one buf (view l.bufs)
inner-number plan g Exists one two buf l = omega arith
inner-number plan g Metadata one two buf l = metadata_number one (view l.bufs)
