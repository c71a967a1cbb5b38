-- The premises of each statement can be met: small cards on which the calls are worked out.
use Prim.Native.Nat.{ℕ, zero, suc, ◌+◌, ◌<◌}
use native.Mathlib.Omega.{arith}
use mathlib.Core.Path.{◌≡◌, refl, ap, subst, ◌∙◌}
use mathlib.Core.Logic.{◌≢◌}
use mathlib.Core.Bool.{true, false}
use mathlib.Core.List.{List, [], ◌∷◌, ◌++◌}
use lib.Dec.{lit<, lit≤}
use lib.ListN.{get_or, replicate}
use Rattle.lists.specs.Runs as Ru
use Rattle.lists.specs.Same as Sa
use Rattle.fnv.specs.Fnv as F
use Rattle.text.specs.Text as T
use Rattle.path.specs.Path as P
use Rattle.header.specs.Block as H
use Rattle.header.specs.Block.{bound_header, encoded}
use Rattle.device.specs.declared.Geometry.{Geometry}
use Rattle.device.specs.declared.Place.{Place}
use Rattle.device.specs.Device as D
use Rattle.device.specs.Device.{Dev, dev}
use Rattle.device.specs.Slots as Sl
use Rattle.device.specs.Calls as Dc
use Rattle.device.specs.Calls.{block_of}
use Rattle.device.proofs.Shapes.{shape_means}
use Rattle.slot_rows.specs.Rows as R
use Rattle.slot_rows.specs.Rows.{Row, file, bound, at, is_bound}
use Rattle.dir_rows.specs.Dirs as Di
use Rattle.pool_state.specs.State.{State, bufs, choosing, view}
use Rattle.pool_state.specs.Queue as Q
use Rattle.pool_state.specs.Changes as C
use Rattle.pool_steps.specs.World as W
use Rattle.pool_steps.specs.World.{World, world, Lent, lent, view_w, flat_w, Fit, Ready}
use Rattle.pool_steps.specs.Steps as S
use Rattle.pool_steps.specs.Outcome.{Outcome, None, flat_o}
use Rattle.pool_steps.proofs.Stays.{world_is}
use Rattle.device.specs.Calls.{SlotStays}
use Rattle.mount_survey.specs.Heads as He
use Rattle.mount_survey.specs.Heads.{claim, head_of}
use Rattle.mount_survey.specs.Survey as Su
use Rattle.mount.specs.Mount as M
use Rattle.mount.specs.Mount.{zero_pool, mount_m, adopt_m, empty_state}
use Rattle.mount.proofs.Stays.{empty_fit, mount_valid}
use Rattle.inner_handle.specs.Handles as Ha
use Rattle.inner_handle.specs.Handles.{write_at_m, sync_m}
use Rattle.inner_handle.proofs.Stays.{write_at_fit}
use Rattle.calls_gate.specs.declared.Call.TheVariants.{Mount, Adopt, ReadAt, WriteAt, Sync}
use Rattle.calls_gate.specs.Table as Ta
use Rattle.calls_gate.specs.Table.{mountable, unmounted}
use Rattle.calls_gate.specs.Replies.{Came}
use Rattle.calls_gate.specs.Calls.{inner_m, call_p}
use Rattle.calls_gate.specs.Refusals as Re
use Rattle.calls_gate.specs.Refusals.{IsRefusal, LeftBehind}
use Rattle.promises_calls.specs.Bytes.{row_in, Written}
use Rattle.promises_calls.specs.Blank.{Blank, Ample, Fresh}
use Rattle.calls_gate.proofs.Inward.{on_pool, mount_call, mount_held}
use Rattle.promises_calls.proofs.Keeps.{mount_keeps_bytes}
use Rattle.calls_gate.proofs.Refusals.{a_refusal_changes_nothing}
use Rattle.promises_calls.proofs.Written.{what_was_written_is_read}
use Rattle.promises_calls.proofs.Synced.{what_was_synced_is_found}
use Rattle.promises_calls.proofs.Blank.{blank_card}

-- The first place of a plan, and slots of a size.
abbrev start : Place
start = record { at = 0; last = 0 }

abbrev sized : ℕ → Geometry
sized size = record { size = size }

-- ---- two slots of 512 bytes claim `a`, the second under the higher generation

-- The header block of `a` as an empty file.
abbrev claim_a : ℕ → List ℕ
claim_a generation = encoded (bound_header 1 0 generation) (97 ∷ [])

twice : Lent
twice = lent (dev (claim_a 1 ++ claim_a 2) (512 ∷ 512 ∷ []) start) (bufs zero_pool (replicate 8 0) (replicate 960 0) [])

-- The mount, where the header write of the release fails.
abbrev failing : List ℕ
failing = 0 ∷ 0 ∷ 1 ∷ []

abbrev mounting : Came
mounting = call_p failing (sized 512) (Mount 2) [] [] [] twice

abbrev came : Outcome None World
came = mount_m failing (sized 512) (choosing 2 0) 2 twice.dev

mountable_twice : mountable (sized 512) twice ≡ true
unfolding twice mountable D.shape_b Ru.all_of H.encoded H.fixed F.fnv1a F.stepped Ta.rows_b
mountable_twice = refl

done : came.out ≡ 0
unfolding twice M.mount_m M.adopt_m M.empty_state M.too_many M.after_reads He.reads_m He.looked D.turn D.onward D.given D.share He.head_of
    H.decoded H.encoded H.fixed F.fnv1a F.stepped T.is_text T.walk_of T.step_of T.lead_of M.settle Su.scan Su.step R.find R.holds
    P.same_path P.components P.opening P.split P.cut P.grow P.names P.idle P.ancestors P.fronts Sa.same Di.joined Di.absent
done = refl

binds : is_bound (at came.left.state.rows 1) ≡ true
unfolding twice M.mount_m M.adopt_m M.empty_state M.too_many M.after_reads He.reads_m He.looked D.turn D.onward D.given D.share He.head_of
    H.decoded H.encoded H.fixed F.fnv1a F.stepped T.is_text T.walk_of T.step_of T.lead_of M.settle Su.scan Su.step R.find R.holds
    P.same_path P.components P.opening P.split P.cut P.grow P.names P.idle P.ancestors P.fronts Sa.same Di.joined Di.absent
    M.installed M.drain S.free_m S.put_m D.header_write_m D.write_m D.stores D.flush_m D.data_truncate_m D.truncate_m S.release_m
    S.released S.unbinds C.with_row Q.spent Q.queued R.is_bound
binds = refl

accepted : mounting.number ≡ 0
unfolding twice M.mounted
accepted = ap (λ (x : Came). x.number) (mount_call failing (sized 512) 2 [] [] [] twice mountable_twice) ∙ done

-- `mount_keeps_bytes`: slot 1 is bound, so it has kept its bytes.
slot_1_kept : SlotStays (sized 512) 1 twice.dev mounting.left.dev
unfolding twice
slot_1_kept =
    (mount_keeps_bytes failing (sized 512) [] [] [] twice 2).0 1
    (ap (λ (s : State). is_bound (at s.rows 1)) (mount_held failing (sized 512) 2 [] [] [] twice accepted) ∙ binds)

-- `a_refusal_changes_nothing`: a mount of three slots gets 12, and leaves record and rows zero.
abbrev crowded : Came
crowded = call_p [] (sized 512) (Mount 3) [] [] [] twice

twelve : (mount_m [] (sized 512) (choosing 2 0) 3 twice.dev).out ≡ 12
unfolding twice M.mount_m M.adopt_m M.empty_state M.too_many
twelve = refl

refused_mount : crowded.number ≡ 12
unfolding twice M.mounted
refused_mount = ap (λ (x : Came). x.number) (mount_call [] (sized 512) 3 [] [] [] twice mountable_twice) ∙ twelve

rows_zero : LeftBehind [] twice (unmounted twice.bufs) crowded
unfolding Ta.takes_of
rows_zero = (a_refusal_changes_nothing [] (sized 512) (Mount 3) [] [] [] twice).1 refl (λ e. omega (arith, refused_mount, e))

-- ---- a pool of no slots and no directory rows, on a slot that claims `d/a`

-- A pool with its device, as it lies in the buffers.
module _ (g : Geometry) (w : World) (F : Fit g w) where
  pool_ready : Ready g (flat_w w)
  pool_ready = (world_is g w (flat_w w) F refl).1

  pool_view : view_w (flat_w w) ≡ w
  pool_view = (world_is g w (flat_w w) F refl).0

nested : World
nested = world (dev (encoded (bound_header 3 0 1) (100 ∷ 47 ∷ 97 ∷ [])) (512 ∷ []) start) (empty_state (choosing 1 0))

nested_fit : Fit (sized 512) nested
unfolding nested D.shape_b Ru.all_of H.encoded H.fixed F.fnv1a F.stepped
nested_fit =
    empty_fit (sized 512) nested.dev (choosing 1 0) ((shape_means (sized 512) nested.dev.bytes nested.dev.phys).0 refl)
    (lit≤ tt) (lit≤ tt)

-- Its adoption: 8 is due, since the claim has a directory; the plan has a byte for the header read.
abbrev adopting : Came
adopting = call_p (0 ∷ []) (sized 512) (Adopt 1) [] [] [] (flat_w nested)

eight : (adopt_m (0 ∷ []) (sized 512) 1 nested).out ≡ 8
unfolding nested M.adopt_m M.empty_state M.too_many M.after_reads He.reads_m He.looked D.turn D.onward D.given D.share He.head_of H.decoded
    H.encoded H.fixed F.fnv1a F.stepped T.is_text T.walk_of T.step_of T.lead_of M.settle Su.scan Su.step R.find P.components P.opening P.split
    P.cut P.grow P.names P.idle P.ancestors P.fronts P.join P.slash Sa.same Di.joined Di.absent Di.has_path
eight = refl

refused : adopting.number ≡ 8
unfolding Ta.takes_of Ta.text_if inner_m flat_o
refused =
    ap (λ (x : Came). x.number)
    (on_pool (0 ∷ []) (sized 512) (Adopt 1) [] [] [] (flat_w nested) (pool_ready (sized 512) nested nested_fit) refl refl refl)
    ∙ ap (λ (w : World). (adopt_m (0 ∷ []) (sized 512) 1 w).out) (pool_view (sized 512) nested nested_fit) ∙ eight

is_refusal : IsRefusal adopting.number
is_refusal = (λ e. omega (arith, refused), λ e. omega (arith, refused), λ e. omega (arith, refused))

-- `a_refusal_changes_nothing`: everything is as it was, and the place has moved by the one read made.
nothing_changed : LeftBehind [] (flat_w nested) (flat_w nested).bufs adopting
unfolding Ta.takes_of
nothing_changed = (a_refusal_changes_nothing (0 ∷ []) (sized 512) (Adopt 1) [] [] [] (flat_w nested)).0 refl is_refusal

one_read : adopting.left.dev.place.at ≡ 1
unfolding nested W.flat_w Re.reads_made Re.after_headers Re.takes_in Re.moved_by D.onward
one_read =
    ap (λ (p : Place). p.at) ((a_refusal_changes_nothing (0 ∷ []) (sized 512) (Adopt 1) [] [] [] (flat_w nested)).2 is_refusal)
    ∙ ap (λ (n : ℕ). (Re.moved_by (0 ∷ []) (Re.reads_made (Adopt 1) n) start).at) refused

-- ---- a card of one slot of 1,024 bytes with the file `a`, empty so far: mounted, written, read and synced

abbrev card : Dev
card = dev (claim_a 1 ++ replicate 512 0) (512 ∷ []) start

abbrev big : Geometry
big = sized 1024

abbrev three_bytes : List ℕ
three_bytes = 1 ∷ 2 ∷ 3 ∷ []

-- The pool that its mount leaves.
one_file : World
one_file =
    world card
    (record { chosen = choosing 1 0; rows = bound (97 ∷ []) (file 1 0 false) ∷ []; dirs = []; queue = []; counter = 2 })

card_mounts : (mount_m [] big (choosing 1 0) 1 card).left ≡ one_file
unfolding one_file M.mount_m M.adopt_m M.empty_state M.too_many M.after_reads He.reads_m He.looked D.turn D.onward D.given D.share He.head_of
    H.decoded H.encoded H.fixed F.fnv1a F.stepped T.is_text T.walk_of T.step_of T.lead_of M.settle Su.scan Su.step R.find P.components P.opening
    P.split P.cut P.grow P.names P.idle P.ancestors P.fronts Di.joined Di.absent M.installed M.drain
card_mounts = refl

file_fit : Fit big one_file
unfolding D.shape_b Ru.all_of H.encoded H.fixed F.fnv1a F.stepped
file_fit =
    subst (Fit big) card_mounts
    (mount_valid [] big (choosing 1 0) 1 card ((shape_means big card.bytes card.phys).0 refl) (lit≤ tt) (lit≤ tt))

abbrev writing : Came
writing = call_p [] big (WriteAt 0 1 0) three_bytes [] [] (flat_w one_file)

stored : (write_at_m [] big 0 1 0 three_bytes one_file).out ≡ 0
unfolding one_file Ha.write_at_m Ha.is_live Ha.resized_m D.data_write_m D.write_m D.turn D.stores D.share D.short D.onward R.is_bound R.gen_of R.len_of
stored = refl

wrote : writing.number ≡ 0
unfolding Ta.takes_of Ta.text_if inner_m flat_o
wrote =
    ap (λ (x : Came). x.number)
    (on_pool [] big (WriteAt 0 1 0) three_bytes [] [] (flat_w one_file) (pool_ready big one_file file_fit) refl refl refl)
    ∙ ap (λ (w : World). (write_at_m [] big 0 1 0 three_bytes w).out) (pool_view big one_file file_fit) ∙ stored

-- `what_was_written_is_read`: a read under a plan that leaves it alone gives the three bytes.
written : Written big 0 1 0 three_bytes (flat_w one_file) writing.left
written = what_was_written_is_read [] big 0 1 0 three_bytes [] [] (flat_w one_file) wrote

read_three : (call_p [] big (ReadAt 0 1 0) [] [] (9 ∷ 9 ∷ 9 ∷ []) writing.left).buf ≡ three_bytes
unfolding D.turn Dc.read_all D.share
read_three = (written.reads [] [] [] (9 ∷ 9 ∷ 9 ∷ []) refl refl).2

-- The pool that the write leaves: the file is dirty, and its header is still that of an empty file.
dirtied : World
dirtied = (write_at_m [] big 0 1 0 three_bytes one_file).left

dirtied_fit : Fit big dirtied
unfolding dirtied
dirtied_fit = write_at_fit [] big 0 1 one_file file_fit 0 three_bytes

abbrev syncing : Came
syncing = call_p [] big (Sync 0 1) [] [] [] (flat_w dirtied)

put : (sync_m [] big 0 1 dirtied).out ≡ 0
unfolding dirtied one_file Ha.sync_m Ha.write_at_m Ha.is_live Ha.resized_m C.with_row S.sync_row_m S.put_m S.row_header D.header_write_m D.data_write_m
    D.write_m D.turn D.stores D.share D.short D.onward D.flush_m D.flushed D.stops H.encoded H.fixed F.fnv1a F.stepped R.is_bound R.gen_of
    R.len_of R.is_dirty R.path_of R.resized R.refiled
put = refl

synced : syncing.number ≡ 0
unfolding Ta.takes_of Ta.text_if inner_m flat_o
synced =
    ap (λ (x : Came). x.number)
    (on_pool [] big (Sync 0 1) [] [] [] (flat_w dirtied) (pool_ready big dirtied dirtied_fit) refl refl refl)
    ∙ ap (λ (w : World). (sync_m [] big 0 1 w).out) (pool_view big dirtied dirtied_fit) ∙ put

row_dirty : row_in (flat_w dirtied) 0 ≡ bound (97 ∷ []) (file 1 3 true)
unfolding view_w dirtied one_file Ha.write_at_m Ha.is_live Ha.resized_m C.with_row D.data_write_m D.write_m D.turn D.stores D.share D.short D.onward
    R.is_bound R.gen_of R.len_of R.resized R.refiled
row_dirty = ap (λ (w : World). at w.state.rows 0) (pool_view big dirtied dirtied_fit)

-- `what_was_synced_is_found`: the header on the card is that of the row, and a mount finds the claim.
found : head_of (block_of big 0 syncing.left.dev) ≡ claim (97 ∷ []) 1 3
unfolding R.is_dirty R.len_of R.gen_of R.path_of
found =
    let S = what_was_synced_is_found [] big 0 1 [] [] [] (flat_w dirtied) synced (ap R.is_dirty row_dirty) (rw row_dirty (lit< tt)) in
    S.claims (rw row_dirty (lit< tt)) ∙ ap (λ (r : Row). claim (R.path_of r) (R.gen_of r) (R.len_of r)) row_dirty

-- ---- a blank card of two slots, one never written and one of zeros; the second header read is cut short

blank : Lent
blank = lent (dev (replicate 1024 0) (0 ∷ 512 ∷ []) start) (bufs zero_pool (replicate 8 0) (replicate 960 0) [])

abbrev cutting : List ℕ
cutting = 0 ∷ 2 ∷ []

is_blank : (i : ℕ) → i < 2 → Blank (sized 512) blank.dev i
unfolding blank He.head_of H.decoded Sl.part_of
is_blank zero l = refl
is_blank (suc zero) l = refl
is_blank (suc (suc i)) l = absurd (omega arith)

not_failing : (j : ℕ) → j < 2 → get_or cutting (0 + j) 0 ≢ 1
not_failing zero l e = omega (arith, e)
not_failing (suc zero) l e = omega (arith, e)
not_failing (suc (suc j)) l e = omega arith

ample : Ample cutting (sized 512) 2 blank
unfolding blank mountable D.shape_b Ru.all_of Ta.rows_b
ample = record { shape = refl; rows = lit≤ tt; slots = lit≤ tt; reads = not_failing }

-- `blank_card`: the mount is done, and both slots are free, in order.
fresh : Fresh cutting 2 blank (call_p cutting (sized 512) (Mount 2) [] [] [] blank)
fresh = let b = blank_card cutting (sized 512) 2 [] [] [] blank is_blank in b.1 (b.0 ample)

both_free : (view (call_p cutting (sized 512) (Mount 2) [] [] [] blank).left.bufs).queue ≡ 0 ∷ 1 ∷ []
unfolding Ru.range
both_free = fresh.free
