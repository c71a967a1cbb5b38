-- `a_refusal_changes_nothing`: a number that a device call gave is 0, 10 or 11, so a refusal is one that was given before any write; call
-- by call, what is then left is what was lent.
use Prim.Native.Nat.{ℕ, zero, suc, ◌+◌}
use mathlib.Core.Path.{◌≡◌, refl, sym, ap, ◌∙◌}
use mathlib.Core.Logic.{◌≢◌, inl, inr}
use mathlib.Core.Bool.{Bool, true, false, cond, ◌||◌, false≢true}
use mathlib.Core.List.{List, []}
use lib.Dec.{eqb, ltb, leb}
use lib.ListN.{length, get_or}
use borrow.Author.Tests.{ne_eqb}
use Rattle.limits.specs.Limits.{max_path, last_counter}
use Rattle.device.specs.declared.Geometry.{Geometry}
use Rattle.device.specs.Device.{Dev, turn, onward, given, flush_m}
use Rattle.slot_rows.specs.Rows.{at, gen_of, is_dirty, len_of, find}
use Rattle.dir_rows.specs.Dirs.{has_path, registered_with}
use Rattle.pool_state.specs.State.{State, Bufs, view, flat, IsPool}
use Rattle.pool_test.specs.Test.{is_pool}
use Rattle.pool_steps.specs.World.{World, world, Lent, lent, view_w, flat_w}
use Rattle.pool_steps.specs.Steps.{release_m, sync_row_m}
use Rattle.pool_steps.specs.Outcome.{Outcome, outcome, None, only, by_device, flat_o}
use Rattle.pool_steps.proofs.Numbers.{LastO, LastW, either, cut_last, flush_last, read_last, release_last, store_last, sync_row_last}
use Rattle.mount_survey.specs.Heads.{head_of, Reads, behind, looked, reads_m}
use Rattle.mount_survey.specs.Survey.{Survey, scan}
use Rattle.mount.specs.Mount.{begin, moved, settle, after_reads, too_many, adopt_m, empty_state, mount_m, zero_bufs, mounted}
use Rattle.mount.proofs.Stays.{adopt_refused}
use Rattle.inner_handle.specs.Handles.{is_live, on_handle, filling, file_len_m, read_part, read_at_m, resized_m, write_at_m, set_len_m, sync_m}
use Rattle.inner_handle.proofs.Stays.{stays}
use Rattle.inner_open.specs.Files.{is_file, no_handle, open_read_m, reopen_m, create_m, admits_new, open_new_m, open_write_m, remove_m}
use Rattle.inner_rename.proofs.Numbers.{renamed_last}
use Rattle.inner_dirs.proofs.Stays.{sync_dir_last}
use Rattle.inner_rename.specs.Rename.{front_m, rename_m}
use Rattle.inner_dirs.specs.Folders.{is_dir, flat_b, too_long, create_dir_all_m, exists_m, metadata_m, sync_dir_m}
use Rattle.inner_list.specs.Listing.{listing_of, Listing, listing, fitted, read_dir_m}
use Rattle.calls_gate.specs.declared.Call.{Call}
use Rattle.calls_gate.specs.declared.Call.TheVariants.{Mount, Adopt, OpenWrite, OpenRead, ReadAt, WriteAt, SetLen, FileLen}
use Rattle.calls_gate.specs.declared.Call.TheVariants.{Sync, SyncDir, Rename, RemoveFile, CreateDirAll, ReadDir, Exists, Metadata}
use Rattle.calls_gate.specs.Replies.{telling, nothing, Came, came}
use Rattle.calls_gate.specs.Table.{takes_of, chosen_of, holds_pool, mountable, text_if, unmounted, refusal_of, refused_b}
use Rattle.calls_gate.specs.Calls.{quiet, opened, reading, filled, measured, made, listed, described, inner_m, refused_m}
use Rattle.calls_gate.proofs.Passed.{is_ready, mounts_on}
use Rattle.calls_gate.specs.Refusals.{IsRefusal, NotRefused, after_headers, takes_in, reads_made, moved_by, LeftBehind, ARefusalChangesNothing}
use Rattle.calls_gate.proofs.Inward.{by_table}

-- ---- the number that a device call comes to

no_refusal : (n : ℕ) → NotRefused n → IsRefusal n → ⊥
no_refusal n (inl e) r = r.0 e
no_refusal n (inr (inl e)) r = r.1 e
no_refusal n (inr (inr e)) r = r.2 e

-- ---- an inner call that comes to a refusal changes nothing

-- So it is of a refusal and of a number that a device call gave.
abbrev Quits : {R : Type 0} → R → World → Outcome R World → Type 0
Quits zeros w o = IsRefusal o.out → o ≡ outcome o.out zeros w

module _ {R : Type 0} (zeros : R) (w : World) where
  refuses : (n : ℕ) → Quits zeros w (outcome n zeros w)
  refuses n r = refl

  settles : (o : Outcome R World) → NotRefused o.out → Quits zeros w o
  settles o s r = absurd (no_refusal o.out s r)

  on_handle_lem : (slot generation : ℕ) (o : Outcome R World) → NotRefused o.out → Quits zeros w (on_handle slot generation zeros w o)
  on_handle_lem slot generation o s = either (Quits zeros w) (is_live slot generation w.state.rows) (settles o s) (refuses 6)

module _ (plan : List ℕ) (g : Geometry) (w : World) where
  read_quits : (slot generation pos : ℕ) (buf : List ℕ) → Quits (filling 0 buf) w (read_at_m plan g slot generation pos buf w)
  unfolding read_at_m read_part
  read_quits slot generation pos buf =
      on_handle_lem (filling 0 buf) w slot generation _
      (either LastO (leb (len_of (at w.state.rows slot)) pos) (inl refl)
      (read_last plan g slot pos _ w.dev))

  write_quits : (slot generation pos : ℕ) (src : List ℕ) → Quits tt w (write_at_m plan g slot generation pos src w)
  unfolding write_at_m resized_m
  write_quits slot generation pos src = on_handle_lem tt w slot generation _ (store_last plan g slot pos src w.dev)

  set_len_quits : (slot generation len : ℕ) → Quits tt w (set_len_m plan g slot generation len w)
  unfolding set_len_m resized_m
  set_len_quits slot generation len = on_handle_lem tt w slot generation _ (cut_last plan g slot len w.dev)

  sync_quits : (slot generation : ℕ) → Quits tt w (sync_m plan g slot generation w)
  unfolding sync_m
  sync_quits slot generation =
      on_handle_lem tt w slot generation _
      (either LastW (is_dirty (at w.state.rows slot)) {x = sync_row_m plan g slot w}
      {y = world (flush_m plan w.dev) w.state} (sync_row_last plan g slot w) (flush_last plan g w.dev))

  open_quits : (path : List ℕ) (keep : Bool) → Quits no_handle w (open_write_m plan g path keep w)
  unfolding open_write_m reopen_m open_new_m create_m
  open_quits path keep =
      let Q = Quits no_handle w in
      let new = admits_new path w.state in
      let i = find path w.state.rows in
      either Q (ltb max_path (length path)) (refuses no_handle w 4)
      (either Q (is_file path w.state) {x = reopen_m plan g i keep w} {y = open_new_m plan g path w}
      (either Q keep (settles no_handle w _ (inl refl)) (settles no_handle w _ (cut_last plan g i 0 w.dev)))
      (either Q (eqb new 0) {x = create_m plan g path w} {y = outcome new no_handle w}
      (settles no_handle w _ (cut_last plan g (get_or w.state.queue 0 0) 0 w.dev)) (refuses no_handle w new)))

  remove_quits : (path : List ℕ) → Quits tt w (remove_m plan g path w)
  unfolding remove_m
  remove_quits path =
      let Q = Quits tt w in
      let i = find path w.state.rows in
      either Q (is_file path w.state) {y = outcome 5 tt w}
      (either Q (ltb last_counter (w.state.counter + 1)) {x = outcome 9 tt w} {y = by_device (release_m plan g i w)} (refuses tt w 9)
      (settles tt w _ (release_last plan g i w))) (refuses tt w 5)

  rename_quits : (from to : List ℕ) → Quits tt w (rename_m plan g from to w)
  unfolding rename_m
  rename_quits from to =
      let f = front_m from to w.state in
      either (Quits tt w) f.go (settles tt w _ (renamed_last plan g f.from f.to to w)) (refuses tt w f.out)

module _ (plan : List ℕ) (g : Geometry) (path : List ℕ) where
  sync_dir_quits : (w : World) → Quits tt w (sync_dir_m plan g path w)
  sync_dir_quits w = settles tt w _ (sync_dir_last plan g path w)

create_quits : (path : List ℕ) (s : State) → IsRefusal (create_dir_all_m path s).out
    → create_dir_all_m path s ≡ outcome (create_dir_all_m path s).out tt s
unfolding create_dir_all_m
create_quits path s =
    let Q : Outcome None State → Type 0 = λ o. IsRefusal o.out → o ≡ outcome o.out tt s in
    either Q (too_long path) (λ r. refl)
    (either Q (ltb s.chosen.dir_rows (length (registered_with s.dirs path))) (λ r. refl) (λ r. absurd (r.0 refl)))

read_dir_quits : (dir buf : List ℕ) (s : State) → IsRefusal (read_dir_m dir buf s).out
    → read_dir_m dir buf s ≡ listing (read_dir_m dir buf s).out 0 buf
unfolding read_dir_m fitted
read_dir_quits dir buf s =
    let Q : Listing → Type 0 = λ x. IsRefusal x.out → x ≡ listing x.out 0 buf in
    let a = listing_of dir s in
    either Q (has_path s.dirs dir) (either Q (leb (length a) (length buf)) (λ r. absurd (r.0 refl)) (λ r. refl)) (λ r. refl)

-- ---- an adoption: the place moves

pub reads_place : (plan : List ℕ) (g : Geometry) (i k : ℕ) (d : Dev) → (reads_m plan g i k d).failed ≡ false
    → (reads_m plan g i k d).place ≡ moved_by plan k d.place
unfolding reads_m moved_by looked
reads_place plan g i zero d f = refl
reads_place plan g i (suc k) d f = go (eqb (turn plan d.place) 1) refl (reads_place plan g (suc i) k (looked plan d)) f
  where
    later : Reads
    later = reads_m plan g (suc i) k (looked plan d)

    ends : Bool → Reads
    ends t = cond t (record { failed = true; heads = []; place = (looked plan d).place }) (behind (head_of (given plan g i 0 512 d)) later)

    go : (t : Bool) → eqb (turn plan d.place) 1 ≡ t → (later.failed ≡ false → later.place ≡ moved_by plan k (looked plan d).place)
        → (ends t).failed ≡ false → (ends t).place ≡ moved_by plan k (onward plan 0 d.place)
    go true e rest h = absurd (false≢true (sym h))
    go false e rest h = let z : (looked plan d).place ≡ onward plan 0 d.place = rw e in rest h ∙ ap (moved_by plan k) z

module _ (plan : List ℕ) (g : Geometry) (k : ℕ) (w : World) where
  -- What a refused adoption leaves of the device: bytes and lengths, and the place where no read failed.
  pub record Looked (o : Outcome None World) : Type 0 where
    pub bytes : o.out ≢ 0 → o.left.dev.bytes ≡ w.dev.bytes
    pub phys : o.out ≢ 0 → o.left.dev.phys ≡ w.dev.phys
    pub place : IsRefusal o.out → o.left.dev.place ≡ moved_by plan (cond (after_headers o.out) k 0) w.dev.place

  abbrev r : Reads
  r = reads_m plan g (length w.state.rows) k w.dev

  abbrev v : Survey
  v = scan r.heads (begin w.state)

  all_read : (n : ℕ) → after_headers n ≡ true → r.failed ≡ false → Looked (only n (moved r.place w))
  all_read n a e = record {
    bytes = λ z. refl;
    phys = λ z. refl;
    place = λ z. rw a (reads_place plan g (length w.state.rows) k w.dev e);
  }

  done : (u : World) → Looked (only 0 u)
  done u = record { bytes = λ z. absurd (z refl); phys = λ z. absurd (z refl); place = λ z. absurd (z.0 refl) }

  settle_looked : r.failed ≡ false → Looked (settle plan g v (moved r.place w))
  unfolding settle after_headers
  settle_looked e =
      either Looked (ltb w.state.chosen.dir_rows (length v.dirs)) (all_read 8 refl e)
      (either Looked (ltb last_counter (v.counter + length v.losers)) (all_read 9 refl e) (done _))

  pub adopt_looked : Looked (adopt_m plan g k w)
  unfolding adopt_m after_reads after_headers moved_by
  adopt_looked = either Looked (too_many k w) (record { bytes = λ z. refl; phys = λ z. refl; place = λ z. refl }) (go r.failed refl)
    where
      go : (t : Bool) → r.failed ≡ t → Looked (cond t (only 10 (moved r.place w)) (settle plan g v (moved r.place w)))
      go true e = record { bytes = λ z. refl; phys = λ z. refl; place = λ z. absurd (z.1 refl) }
      go false e = settle_looked e

-- ---- the public calls

module _ (plan : List ℕ) (g : Geometry) (one two buf : List ℕ) (l : Lent) where
  Holds : Call → Came → Type 0
  Holds c x =
      ((takes_of c).mounts ≡ false → IsRefusal x.number → LeftBehind buf l l.bufs x)
      × ((takes_of c).mounts ≡ true → x.number ≢ 0 → LeftBehind buf l (unmounted l.bufs) x)
      × (IsRefusal x.number → x.left.dev.place ≡ moved_by plan (reads_made c x.number) l.dev.place)

  -- a call that takes no slots in leaves the place
  still : (c : Call) (n : ℕ) → takes_in c ≡ 0 → moved_by plan (reads_made c n) l.dev.place ≡ l.dev.place
  unfolding reads_made moved_by
  still c n z = rw z (go (after_headers n))
    where
      go : (t : Bool) → moved_by plan (cond t 0 0) l.dev.place ≡ l.dev.place
      go true = refl
      go false = refl

  plain : (c : Call) (x : Came) → (takes_of c).mounts ≡ false → takes_in c ≡ 0 → (IsRefusal x.number → x ≡ came x.number nothing l buf)
      → Holds c x
  unfolding Holds
  plain c x m z same = (
    λ k r. let e = same r in
        record {
          told = ap (λ (y : Came). y.told) e;
          buf_stays = ap (λ (y : Came). y.buf) e;
          bytes = ap (λ (y : Came). y.left.dev.bytes) e;
          phys = ap (λ (y : Came). y.left.dev.phys) e;
          bufs = ap (λ (y : Came). y.left.bufs) e;
        },
    λ k. absurd (false≢true (sym m ∙ k)),
    λ r. ap (λ (y : Came). y.left.dev.place) (same r) ∙ sym (still c x.number z),
  )

  -- the same in the buffers
  module _ {R : Type 0} (zeros : R) (o : Outcome R World) (P : IsPool l.bufs) (q : Quits zeros (view_w l) o) where
    in-buffers : IsRefusal o.out → flat_o o ≡ outcome o.out zeros l
    in-buffers r = ap flat_o (q r) ∙ sym (stays o.out zeros l P)

  module _ (c : Call) (z : refusal_of g c one two l ≡ 0) (m : (takes_of c).mounts ≡ false) where
    abbrev pool : IsPool l.bufs
    pool = (is_ready g c one two l z m).pool

    quietly : (o : Outcome None World) → takes_in c ≡ 0 → Quits tt (view_w l) o → Holds c (quiet buf (flat_o o))
    unfolding flat_o
    quietly o t q = plain c (quiet buf (flat_o o)) m t (λ r. ap (quiet buf) (in-buffers tt o pool q r))

  -- the calls that tell a number, a length or a kind: 0 in a refusal
  reader_quits : (path : List ℕ) (s : State) → IsRefusal (open_read_m path s).out
      → reading buf l (open_read_m path s) ≡ came (open_read_m path s).out nothing l buf
  unfolding open_read_m
  reader_quits path s = go (is_file path s) (find path s.rows) (gen_of (at s.rows (find path s.rows)))
    where
      go : (t : Bool) (i e : ℕ) → IsRefusal (cond t 0 5)
          → came (cond t 0 5) (telling (cond t i 0) (cond t e 0) 0 0 false) l buf ≡ came (cond t 0 5) nothing l buf
      go true i e r = absurd (r.0 refl)
      go false i e r = refl

  len_quits : (slot generation : ℕ) (s : State) → IsRefusal (file_len_m slot generation s).out
      → measured buf l (file_len_m slot generation s) ≡ came (file_len_m slot generation s).out nothing l buf
  unfolding file_len_m
  len_quits slot generation s = go (is_live slot generation s.rows)
    where
      go : (t : Bool) → IsRefusal (cond t 0 6)
          → came (cond t 0 6) (telling 0 0 (cond t (len_of (at s.rows slot)) 0) 0 false) l buf ≡ came (cond t 0 6) nothing l buf
      go true r = absurd (r.0 refl)
      go false r = refl

  meta_quits : (path : List ℕ) (s : State) → IsRefusal (metadata_m path s).out
      → described buf l (metadata_m path s) ≡ came (metadata_m path s).out nothing l buf
  unfolding metadata_m exists_m
  meta_quits path s = go (is_file path s) (is_dir path s)
    where
      go : (t u : Bool) → IsRefusal (cond (t || u) 0 5)
          → came (cond (t || u) 0 5) (telling 0 0 (cond t (len_of (at s.rows (find path s.rows))) 0) 0 (cond t false u)) l buf
          ≡ came (cond (t || u) 0 5) nothing l buf
      go true u r = absurd (r.0 refl)
      go false true r = absurd (r.0 refl)
      go false false r = refl

  -- A mount that is refused after the table: its rows are zero, as many as were lent.
  mount_holds : (k : ℕ) → refusal_of g (Mount k) one two l ≡ 0 → Holds (Mount k) (inner_m plan g (Mount k) one two buf l)
  unfolding Holds inner_m mounted mount_m takes_of takes_in reads_made empty_state flat_w
  mount_holds k z =
      let m = (mounts_on g (Mount k) (Mount k) one two l z refl refl).1 in
      let h = chosen_of l.bufs in
      let w = world l.dev (empty_state h) in
      let L = adopt_looked plan g k w in
      let c : o.out ≢ 0 → o.left.state.chosen ≡ h = λ n. ap (λ (s : State). s.chosen) (adopt_refused plan g k w n) in
      let b : zero_bufs h ≡ unmounted l.bufs = rw (sym m.0, sym m.1, sym m.2) refl in (
        λ f. absurd (false≢true (sym f)),
        λ f n. record {
          told = refl;
          buf_stays = refl;
          bytes = dev_is (λ d. d.bytes ≡ l.dev.bytes) (L.bytes n);
          phys = dev_is (λ d. d.phys ≡ l.dev.phys) (L.phys n);
          bufs = rw (ne_eqb o.out 0 n) (ap zero_bufs (c n) ∙ b);
        },
        λ r. dev_is (λ d. d.place ≡ moved_by plan (cond (after_headers o.out) k 0) l.dev.place) (L.place r),
      )
    where
      o : Outcome None World
      o = adopt_m plan g k (world l.dev (empty_state (chosen_of l.bufs)))

      dev_is : (P : Dev → Type 0) → P o.left.dev → P (mounted o).left.dev
      dev_is P p =
          either (λ (x : Lent). P x.dev) (eqb o.out 0) {x = flat_w o.left}
          {y = lent o.left.dev (zero_bufs o.left.state.chosen)} p p

  adopt_holds : (k : ℕ) → refusal_of g (Adopt k) one two l ≡ 0 → Holds (Adopt k) (inner_m plan g (Adopt k) one two buf l)
  unfolding Holds inner_m takes_of takes_in reads_made flat_o flat_w view_w
  adopt_holds k z =
      let o = adopt_m plan g k (view_w l) in
      let L = adopt_looked plan g k (view_w l) in (
        λ f r. record {
          told = refl;
          buf_stays = refl;
          bytes = L.bytes r.0;
          phys = L.phys r.0;
          bufs = ap flat (adopt_refused plan g k (view_w l) r.0) ∙ (pool (Adopt k) z refl).canon;
        },
        λ f. absurd (false≢true f),
        λ r. L.place r,
      )

  inner_holds : (c : Call) → refusal_of g c one two l ≡ 0 → Holds c (inner_m plan g c one two buf l)
  unfolding inner_m takes_of takes_in flat_o flat_b
  inner_holds (Mount slots) z = mount_holds slots z
  inner_holds (Adopt slots) z = adopt_holds slots z
  inner_holds (OpenWrite how) z =
      plain (OpenWrite how) _ refl refl
      (λ r. ap (opened buf) (in-buffers no_handle _ (pool (OpenWrite how) z refl) (open_quits plan g (view_w l) one how.keep) r))
  inner_holds OpenRead z = plain OpenRead _ refl refl (reader_quits one (view l.bufs))
  inner_holds (ReadAt slot generation pos) z =
      plain (ReadAt slot generation pos) _ refl refl
      (λ r. ap filled
      (in-buffers (filling 0 buf) _ (pool (ReadAt slot generation pos) z refl) (read_quits plan g (view_w l) slot generation pos buf) r))
  inner_holds (WriteAt slot generation pos) z =
      quietly (WriteAt slot generation pos) z refl _ refl (write_quits plan g (view_w l) slot generation pos one)
  inner_holds (SetLen slot generation len) z =
      quietly (SetLen slot generation len) z refl _ refl (set_len_quits plan g (view_w l) slot generation len)
  inner_holds (FileLen slot generation) z = plain (FileLen slot generation) _ refl refl (len_quits slot generation (view l.bufs))
  inner_holds (Sync slot generation) z = quietly (Sync slot generation) z refl _ refl (sync_quits plan g (view_w l) slot generation)
  inner_holds SyncDir z = quietly SyncDir z refl _ refl (sync_dir_quits plan g one (view_w l))
  inner_holds Rename z = quietly Rename z refl _ refl (rename_quits plan g (view_w l) one two)
  inner_holds RemoveFile z = quietly RemoveFile z refl _ refl (remove_quits plan g (view_w l) one)
  inner_holds CreateDirAll z =
      plain CreateDirAll _ refl refl
      (λ r. ap (λ (o : Outcome None State). made buf l (flat_b o)) (create_quits one (view l.bufs) r)
      ∙ ap (λ (b : Bufs). came (create_dir_all_m one (view l.bufs)).out nothing (lent l.dev b) buf)
      (pool CreateDirAll z refl).canon)
  inner_holds ReadDir z = plain ReadDir _ refl refl (λ r. ap (listed l) (read_dir_quits one buf (view l.bufs) r))
  inner_holds Exists z = plain Exists _ refl refl (λ r. absurd (r.0 refl))
  inner_holds Metadata z = plain Metadata _ refl refl (meta_quits one (view l.bufs))

  -- What the table refuses.
  table_holds : (c : Call) → Holds c (refused_m c (refusal_of g c one two l) buf l)
  unfolding Holds refused_m refused_b reads_made after_headers moved_by refusal_of
  table_holds c = (
    λ m r. record { told = refl; buf_stays = refl; bytes = refl; phys = refl; bufs = rw m refl },
    λ m n. record { told = refl; buf_stays = refl; bytes = refl; phys = refl; bufs = rw m refl },
    λ r. early (takes_of c).mounts (mountable g l) (is_pool l.bufs) (holds_pool g l) (text_if (takes_of c).first one)
        (text_if (takes_of c).second two),
  )
    where
      -- its numbers come before any read
      early : (k h p q a b : Bool) → let n : ℕ = cond k (cond h 0 2) (cond p (cond q (cond a (cond b 0 3) 3) 2) 1) in
          l.dev.place ≡ moved_by plan (cond (after_headers n) (takes_in c) 0) l.dev.place
      early true true p q a b = refl
      early true false p q a b = refl
      early false h true true true true = refl
      early false h true true true false = refl
      early false h true true false b = refl
      early false h true false a b = refl
      early false h false q a b = refl

pub a_refusal_changes_nothing : ARefusalChangesNothing
unfolding Holds
a_refusal_changes_nothing plan g c one two buf l =
    by_table plan g c one two buf l (Holds plan g one two buf l c) (inner_holds plan g one two buf l c) (table_holds plan g one two buf l c)
