-- No call that passes the tests of the table comes to 1 or 2: call by call, by the numbers that stand in each inner call's definition.
use Prim.Native.Nat.{ℕ, ◌+◌}
use mathlib.Core.Path.{◌≡◌, refl}
use mathlib.Core.Bool.{Bool, false, cond, ◌||◌}
use mathlib.Core.List.{List, [], ◌∷◌}
use lib.Dec.{eqb, ltb, leb}
use lib.ListN.{length, get_or}
use Rattle.limits.specs.Limits.{max_path, last_counter}
use Rattle.lists.specs.Runs.{range}
use Rattle.path.specs.Path.{same_path}
use Rattle.device.specs.declared.Geometry.{Geometry}
use Rattle.device.specs.Device.{Dev, turn, onward, short, stores, stops, seen, flushed, flush_m, write_m, header_write_m, data_write_m}
use Rattle.device.specs.Device.{truncate_m, data_truncate_m, read_m, data_read_m}
use Rattle.slot_rows.specs.Rows.{at, is_dirty, len_of, find}
use Rattle.dir_rows.specs.Dirs.{has_path, registered, registered_with}
use Rattle.pool_state.specs.declared.Chosen.{Chosen}
use Rattle.pool_state.specs.State.{State, view}
use Rattle.pool_steps.specs.World.{World, world, Lent, view_w}
use Rattle.pool_steps.specs.Steps.{fine_m, put_m, free_block, free_m, release_m, row_block, sync_row_m}
use Rattle.pool_steps.specs.Outcome.{Outcome, outcome, None, by_device, flat_o}
use Rattle.pool_steps.proofs.Stays.{then_keeps}
use Rattle.pool_steps.proofs.Numbers.{either}
use Rattle.mount_survey.specs.Heads.{reads_m}
use Rattle.mount_survey.specs.Survey.{Survey, scan}
use Rattle.mount.specs.Mount.{adopt_m, after_reads, begin, empty_state, mount_m, mounted, moved, settle, too_many}
use Rattle.inner_handle.specs.Handles.{file_len_m, filling, is_live, on_handle, read_at_m, read_part, resized_m, set_len_m, sync_m, write_at_m}
use Rattle.inner_open.specs.Files.{admits_new, create_m, is_file, no_handle, open_new_m, open_read_m, open_write_m, remove_m, reopen_m, room, room_for}
use Rattle.inner_rename.specs.declared.Course.{Course}
use Rattle.inner_rename.specs.Rename.{front_m, needs, rebind_m, rename_m, renamed_m, settled_m, stopped, vacated_m}
use Rattle.inner_dirs.specs.Folders.{flat_b, too_long, create_dir_all_m, exists_m, metadata_m, is_due, sync_one_m, sync_each_m, sync_dir_m}
use Rattle.inner_list.specs.Listing.{Listing, listing_of, fitted, read_dir_m}
use Rattle.calls_gate.specs.declared.Call.{Call}
use Rattle.calls_gate.specs.declared.Call.TheVariants.{Adopt, CreateDirAll, Exists, FileLen, Metadata, Mount, OpenRead, OpenWrite}
use Rattle.calls_gate.specs.declared.Call.TheVariants.{ReadAt, ReadDir, RemoveFile, Rename, SetLen, Sync, SyncDir, WriteAt}
use Rattle.calls_gate.specs.Table.{chosen_of}
use Rattle.calls_gate.specs.Calls.{inner_m}

-- the number is neither 1 nor 2
abbrev pub Heard : ℕ → Type 0
Heard n = (eqb n 1 || eqb n 2) ≡ false

abbrev HeardO : {R X : Type 0} → Outcome R X → Type 0
HeardO o = Heard o.out

-- ---- what a device call came to

abbrev Last : Dev → Type 0
Last d = Heard d.place.last

abbrev LastW : World → Type 0
LastW w = Last w.dev

module _ (plan : List ℕ) (g : Geometry) where
  write_last : (slot pos : ℕ) (src : List ℕ) (d : Dev) → Last (write_m plan g slot pos src d)
  unfolding write_m onward short
  write_last slot pos src d =
      either Last (eqb (turn plan d.place) 1) refl
      (either Last (ltb g.size pos) refl
      (either Heard (ltb (stores (turn plan d.place) g.size pos (length src)) (length src)) refl refl))

  flush_last : (d : Dev) → Last (flush_m plan d)
  unfolding flush_m flushed onward
  flush_last d = either Heard (stops (turn plan d.place)) refl refl

  cut_last : (slot len : ℕ) (d : Dev) → Last (data_truncate_m plan g slot len d)
  unfolding data_truncate_m truncate_m onward
  cut_last slot len d = either Last (stops (turn plan d.place)) refl (either Last (ltb g.size (512 + len)) refl refl)

  store_last : (slot pos : ℕ) (src : List ℕ) (d : Dev) → Last (data_write_m plan g slot pos src d)
  unfolding data_write_m
  store_last slot pos src d = write_last slot (512 + pos) src d

  read_last : (slot pos : ℕ) (dst : List ℕ) (d : Dev) → Heard (data_read_m plan g slot pos dst d).got.place.last
  unfolding data_read_m read_m seen onward
  read_last slot pos dst d = either Heard (eqb (turn plan d.place) 1) refl refl

  put_last : (slot : ℕ) (block : List ℕ) (d : Dev) → Last (put_m plan g slot block d)
  unfolding put_m header_write_m
  put_last slot block d =
      let w = header_write_m plan g slot block d in
      then_keeps Last w (flush_m plan) (write_last slot 0 block d) (flush_last w)

  release_last : (i : ℕ) (w : World) → LastW (release_m plan g i w)
  unfolding release_m free_m
  release_last i w =
      let d = put_m plan g i (free_block w.state.counter) w.dev in
      then_keeps Last d (data_truncate_m plan g i 0) (put_last i (free_block w.state.counter) w.dev) (cut_last i 0 d)

  sync_row_last : (i : ℕ) (w : World) → LastW (sync_row_m plan g i w)
  unfolding sync_row_m
  sync_row_last i w = put_last i (row_block (at w.state.rows i)) w.dev

  -- ---- mount, adopt

  settle_heard : (v : Survey) (w : World) → HeardO (settle plan g v w)
  unfolding settle
  settle_heard v w =
      either HeardO (ltb w.state.chosen.dir_rows (length v.dirs)) refl
      (either HeardO (ltb last_counter (v.counter + length v.losers)) refl refl)

  adopt_heard : (k : ℕ) (w : World) → HeardO (adopt_m plan g k w)
  unfolding adopt_m after_reads
  adopt_heard k w =
      let r = reads_m plan g (length w.state.rows) k w.dev in
      either HeardO (too_many k w) refl
      (either HeardO r.failed refl (settle_heard (scan r.heads (begin w.state)) (moved r.place w)))

  mount_heard : (h : Chosen) (k : ℕ) (d : Dev) → HeardO (mount_m plan g h k d)
  unfolding mount_m
  mount_heard h k d = adopt_heard k (world d (empty_state h))

  -- ---- on a handle

  module _ (slot generation : ℕ) (w : World) where
    live_heard : {R : Type 0} (zeros : R) (o : Outcome R World) → HeardO o → HeardO (on_handle slot generation zeros w o)
    live_heard zeros o h = either HeardO (is_live slot generation w.state.rows) h refl

    read_heard : (pos : ℕ) (buf : List ℕ) → HeardO (read_at_m plan g slot generation pos buf w)
    unfolding read_at_m read_part
    read_heard pos buf =
        live_heard (filling 0 buf) _
        (either HeardO (leb (len_of (at w.state.rows slot)) pos) refl (read_last slot pos _ w.dev))

    write_heard : (pos : ℕ) (src : List ℕ) → HeardO (write_at_m plan g slot generation pos src w)
    unfolding write_at_m resized_m
    write_heard pos src = live_heard tt _ (store_last slot pos src w.dev)

    set_len_heard : (len : ℕ) → HeardO (set_len_m plan g slot generation len w)
    unfolding set_len_m resized_m
    set_len_heard len = live_heard tt _ (cut_last slot len w.dev)

    sync_heard : HeardO (sync_m plan g slot generation w)
    unfolding sync_m
    sync_heard =
        live_heard tt _
        (either LastW (is_dirty (at w.state.rows slot)) {x = sync_row_m plan g slot w} {y = world (flush_m plan w.dev) w.state}
        (sync_row_last slot w) (flush_last w.dev))

  -- ---- by a path

  room_heard : (need : ℕ) (path : List ℕ) (s : State) → Heard (room need path s)
  unfolding room_for
  room_heard need path s =
      either Heard (ltb s.chosen.dir_rows (length (registered s.dirs path))) refl
      (either Heard (ltb last_counter (s.counter + need)) refl refl)

  open_heard : (path : List ℕ) (keep : Bool) (w : World) → HeardO (open_write_m plan g path keep w)
  unfolding open_write_m reopen_m open_new_m create_m admits_new
  open_heard path keep w =
      let new = admits_new path w.state in
      let i = find path w.state.rows in
      either HeardO (ltb max_path (length path)) {x = outcome 4 no_handle w} refl
      (either HeardO (is_file path w.state) {x = reopen_m plan g i keep w} {y = open_new_m plan g path w}
      (either HeardO keep refl (cut_last i 0 w.dev))
      (either HeardO (eqb new 0) {x = create_m plan g path w} {y = outcome new no_handle w} (cut_last (get_or w.state.queue 0 0) 0 w.dev)
      (either Heard (eqb (length w.state.queue) 0) refl (room_heard 1 path w.state))))

  remove_heard : (path : List ℕ) (w : World) → HeardO (remove_m plan g path w)
  unfolding remove_m
  remove_heard path w =
      let i = find path w.state.rows in
      either HeardO (is_file path w.state) {y = outcome {R = None} 5 tt w}
      (either HeardO (ltb last_counter (w.state.counter + 1)) {x = outcome {R = None} 9 tt w} {y = by_device (release_m plan g i w)} refl
      (release_last i w)) refl

  front_heard : (from to : List ℕ) (s : State) → Heard (front_m from to s).out
  unfolding front_m
  front_heard from to s =
      let n = room (needs to s) to s in
      let OutC : Course → Type 0 = λ c. Heard c.out in
      either OutC (ltb max_path (length to)) {x = stopped 4} refl
      (either OutC (same_path from to) {x = stopped (cond (is_file from s) 0 5)} (either Heard (is_file from s) refl refl)
      (either OutC (is_file from s) {y = stopped 5} (either OutC (eqb n 0) {y = stopped n} refl (room_heard (needs to s) to s)) refl))

  rename_heard : (from to : List ℕ) (w : World) → HeardO (rename_m plan g from to w)
  unfolding rename_m renamed_m rebind_m settled_m vacated_m
  rename_heard from to w =
      let f = front_m from to w.state in
      let v = rebind_m plan g f.from to w in
      let h : LastW v = put_last f.from _ w.dev in
      either HeardO f.go {x = renamed_m plan g f.from f.to to w} {y = outcome {R = None} f.out tt w}
      (either HeardO (fine_m v.dev) {y = by_device v}
      (either LastW (ltb f.to (length v.state.rows)) {x = release_m plan g f.to v} {y = v} (release_last f.to v) h) h)
      (front_heard from to w.state)

  -- ---- directories

  one_heard : (path : List ℕ) (i : ℕ) (w : World) → HeardO (sync_one_m plan g path i w)
  unfolding sync_one_m sync_row_m
  one_heard path i w =
      either HeardO (is_due path (at w.state.rows i)) (put_last i (row_block (at w.state.rows i)) w.dev) refl

  each_heard : (path is : List ℕ) (w : World) → HeardO (sync_each_m plan g path is w)
  unfolding sync_each_m
  each_heard path [] w = refl
  each_heard path (i ∷ is) w =
      either HeardO (eqb (sync_one_m plan g path i w).out 0) (each_heard path is (sync_one_m plan g path i w).left) (one_heard path i w)

make_heard : (path : List ℕ) (s : State) → HeardO (create_dir_all_m path s)
unfolding create_dir_all_m
make_heard path s =
    either HeardO (too_long path) refl (either HeardO (ltb s.chosen.dir_rows (length (registered_with s.dirs path))) refl refl)

list_heard : (dir buf : List ℕ) (s : State) → Heard (read_dir_m dir buf s).out
unfolding read_dir_m fitted
list_heard dir buf s =
    let OutL : Listing → Type 0 = λ x. Heard x.out in
    either OutL (has_path s.dirs dir) {x = fitted (listing_of dir s) buf}
    (either OutL (leb (length (listing_of dir s)) (length buf)) refl refl) refl

-- ---- each call

pub inner_heard : (plan : List ℕ) (g : Geometry) (c : Call) (one two buf : List ℕ) (l : Lent)
    → Heard (inner_m plan g c one two buf l).number
unfolding inner_m flat_o flat_b mounted file_len_m open_read_m metadata_m sync_dir_m
inner_heard plan g (Mount slots) one two buf l = mount_heard plan g (chosen_of l.bufs) slots l.dev
inner_heard plan g (Adopt slots) one two buf l = adopt_heard plan g slots (view_w l)
inner_heard plan g (OpenWrite how) one two buf l = open_heard plan g one how.keep (view_w l)
inner_heard plan g OpenRead one two buf l = either Heard (is_file one (view l.bufs)) refl refl
inner_heard plan g (ReadAt slot generation pos) one two buf l = read_heard plan g slot generation (view_w l) pos buf
inner_heard plan g (WriteAt slot generation pos) one two buf l = write_heard plan g slot generation (view_w l) pos one
inner_heard plan g (SetLen slot generation len) one two buf l = set_len_heard plan g slot generation (view_w l) len
inner_heard plan g (FileLen slot generation) one two buf l = either Heard (is_live slot generation (view l.bufs).rows) refl refl
inner_heard plan g (Sync slot generation) one two buf l = sync_heard plan g slot generation (view_w l)
inner_heard plan g SyncDir one two buf l = each_heard plan g one (range 0 (length (view_w l).state.rows)) (view_w l)
inner_heard plan g Rename one two buf l = rename_heard plan g one two (view_w l)
inner_heard plan g RemoveFile one two buf l = remove_heard plan g one (view_w l)
inner_heard plan g CreateDirAll one two buf l = make_heard one (view l.bufs)
inner_heard plan g ReadDir one two buf l = list_heard one buf (view l.bufs)
inner_heard plan g Exists one two buf l = refl
inner_heard plan g Metadata one two buf l = either Heard (exists_m one (view l.bufs)) {x = 0} {y = 5} refl refl
