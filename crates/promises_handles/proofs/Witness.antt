-- For each statement an example in which its premises hold, all in one pool of two slots; and why the last two have theirs: what an
-- adoption and a mount can do to a handle.
use Prim.Native.Nat.{ℕ}
use native.Mathlib.Omega.{arith}
use mathlib.Core.Path.{◌≡◌, refl, subst}
use mathlib.Core.Logic.{inl, inr}
use mathlib.Core.Bool.{true, false}
use mathlib.Core.List.{List, [], ◌∷◌, ◌++◌}
use lib.ListN.{length, replicate}
use Rattle.lists.specs.Blocks as Bl
use Rattle.lists.specs.Runs as Ru
use Rattle.lists.specs.Same as Sa
use Rattle.text.specs.Text as Te
use Rattle.text.specs.Greatest as Gr
use Rattle.path.specs.Path.{same_path}
use Rattle.path.specs.Path as Pa
use Rattle.header.specs.Block.{bound_header, encoded}
use Rattle.header.specs.Block as He
use Rattle.fnv.specs.Fnv as Fn
use Rattle.device.specs.declared.Geometry.{Geometry}
use Rattle.device.specs.Device.{dev}
use Rattle.device.specs.Device as De
use Rattle.slot_rows.specs.Rows.{file, bound}
use Rattle.slot_rows.specs.Rows as Ro
use Rattle.dir_rows.specs.Dirs as Di
use Rattle.dir_rows.specs.Rows as Dr
use Rattle.pool_state.specs.State.{State, choosing, flat, view}
use Rattle.pool_state.specs.State as St
use Rattle.pool_state.specs.Changes as Ch
use Rattle.pool_state.specs.Queue as Qu
use Rattle.pool_test.specs.Test as Pt
use Rattle.pool_test.specs.Test.{is_pool}
use Rattle.pool_test.proofs.Exactly.{is_pool_of}
use Rattle.pool_steps.specs.World.{Lent, lent, Ready}
use Rattle.pool_steps.specs.World as Wo
use Rattle.pool_steps.specs.Steps.{fine_m}
use Rattle.pool_steps.specs.Steps as Sp
use Rattle.pool_steps.specs.Outcome as Ou
use Rattle.mount_survey.specs.Heads as Hd
use Rattle.mount_survey.specs.Survey as Su
use Rattle.mount.specs.Mount as Mo
use Rattle.inner_handle.specs.Handles as Ha
use Rattle.inner_open.specs.Files as Fi
use Rattle.inner_rename.specs.Rename as Re
use Rattle.calls_gate.specs.declared.Call.{Call}
use Rattle.calls_gate.specs.declared.Call.TheVariants.{Mount, Adopt, OpenWrite, OpenRead, FileLen, Sync, Rename, RemoveFile}
use Rattle.calls_gate.specs.Table.{opening, takes_of, refusal_of}
use Rattle.calls_gate.specs.Table as Ta
use Rattle.calls_gate.specs.Replies.{nothing, came}
use Rattle.calls_gate.specs.Calls.{call_p}
use Rattle.calls_gate.specs.Calls as Ca
use Rattle.calls_gate.proofs.Passed.{is_ready}
use Rattle.promises_handles.specs.Handles.{pool_in, IsLive, IsStale, file_slot, TellsLive, own_put, Coming, after_all}
use Rattle.promises_handles.proofs.HandleCalls.{stale_gets_six, opens_give}
use Rattle.promises_handles.proofs.Theorems.{reopen_keeps, remove_makes_stale, rename_makes_stale, failed_rename_keeps}
use Rattle.promises_handles.proofs.Theorems.{done_rename_has_put, stale_stays, stale_for_good}

small : Geometry
small = record { size = 512 }

a : List ℕ
a = 97 ∷ []

b : List ℕ
b = 98 ∷ []

-- Two slots of 512 bytes: `a` in slot 0 under generation 1, `b` in slot 1 under 2.
two : State
two = record { chosen = choosing 2 0; rows = bound a (file 1 0 false) ∷ bound b (file 2 0 false) ∷ []; dirs = []; queue = []; counter = 3 }

l : Lent
l = lent (dev (replicate 1024 0) (0 ∷ 0 ∷ []) (record { at = 0; last = 0 })) (flat two)

-- A call to come that nothing disturbs; the remove of `a`.
coming : Call → List ℕ → Coming
coming c path = record { plan = []; geometry = small; call = c; first = path; second = []; buf = [] }

removes : List Coming
removes = coming RemoveFile a ∷ []

-- ---- what holds of it, by computation

record Met : Type 0 where
  pool : is_pool l.bufs ≡ true
  ready : refusal_of small OpenRead a [] l ≡ 0
  a_live : IsLive l 0 1
  b_live : IsLive l 1 2
  -- slot 1 is bound under another generation
  stale : IsStale l 1 1
  -- opens of `a`
  opens : (call_p [] small OpenRead a [] [] l).number ≡ 0
  reopens : (call_p [] small (OpenWrite (opening false)) a [] [] l).number ≡ 0
  -- a remove of `a` whose release fails
  remove : (call_p (1 ∷ []) small RemoveFile a [] [] l).number ≡ 10
  -- `a` renamed to `b`: its own header is written and flushed, and the release of slot 1 fails
  rename : (call_p (0 ∷ 0 ∷ 1 ∷ []) small Rename a b [] l).number ≡ 10
  differ : same_path a b ≡ false
  put : fine_m (own_put (0 ∷ 0 ∷ 1 ∷ []) small a b l) ≡ true
  from : ◌≡◌ {A = ℕ} 0 (file_slot a l)
  to : ◌≡◌ {A = ℕ} 1 (file_slot b l)
  -- the same, and nothing fails; or its own put fails
  renames : (call_p [] small Rename a b [] l).number ≡ 0
  no_put : fine_m (own_put (1 ∷ []) small a b l) ≡ false
  -- `a` removed: its handle is stale, and its slot is still held
  gone : IsStale (after_all removes l) 0 1
  held : length (pool_in (after_all removes l)).rows ≡ 2
  spent : (pool_in (after_all removes l)).counter ≡ 4

met : Met
unfolding a b l two small coming removes flat view St.pool_of St.queue_of Ro.flat_nums Ro.flat_names Ro.row_nums Ro.row_name Ro.mark_of Ro.rows_of
    Ro.row_from Ro.path_of Ro.is_bound Ro.gen_of Ro.len_of Ro.find Ro.holds Dr.flat_dirs Dr.dirs_of Dr.dir_at Ha.is_live call_p Ca.inner_m
    refusal_of takes_of Ta.text_if Ta.holds_pool is_pool Pt.sizes_ok Pt.rest_ok Pt.is_zero Pt.fits_ok Pt.view_ok Pt.row_fits Pt.bare_ok Pt.row_ok
    Pt.first_ok Pt.cell_ok Gr.greatest Te.is_text Te.walk_of Te.step_of Te.lead_of De.shape_b Ru.all_of Pa.same_path Pa.components Pa.opening
    Pa.names Pa.idle Pa.split Pa.cut Pa.grow Sa.same Fi.remove_m Sp.release_m Sp.free_m Sp.put_m De.header_write_m De.write_m De.turn De.onward
    Ou.flat_o Wo.view_w Wo.flat_w Bl.pad Bl.cat Fi.open_write_m Fi.reopen_m De.data_truncate_m De.truncate_m De.stops Re.rename_m Re.front_m
    Fi.room_for Di.joined Di.absent Pa.ancestors Pa.fronts Re.renamed_m Re.rebind_m De.short De.stores De.share He.encoded He.fixed
    De.flush_m De.flushed Re.settled_m Re.vacated_m Ru.tab Qu.spent after_all Sp.released Qu.queued Sp.unbinds Ch.with_row Fi.open_read_m
met = record {
  pool = refl;
  ready = refl;
  a_live = refl;
  b_live = refl;
  stale = refl;
  opens = refl;
  reopens = refl;
  remove = refl;
  rename = refl;
  differ = refl;
  put = refl;
  from = refl;
  to = refl;
  renames = refl;
  no_put = refl;
  gone = refl;
  held = refl;
  spent = refl;
}

-- ---- so the statements speak of it

l_ready : Ready small l
unfolding takes_of
l_ready = is_ready small OpenRead a [] l met.ready refl

-- A live handle and a stale one are used,
used : (call_p [] small (FileLen 0 1) [] [] [] l).number ≡ 0
used = (stale_gets_six [] small [] [] [] l 0 1 l_ready).0 met.a_live

refused : call_p [] small (Sync 1 1) [] [] [] l ≡ came 6 nothing l []
refused = ((stale_gets_six [] small [] [] [] l 1 1 l_ready).1 met.stale 0 0).4

-- `a` is opened for reading, and for writing,
given : TellsLive (call_p [] small OpenRead a [] [] l) × TellsLive (call_p [] small (OpenWrite (opening false)) a [] [] l)
given = ((opens_give [] small a [] [] l).0 met.opens, (opens_give [] small a [] [] l).1 (opening false) met.reopens)

-- it is truncated by that,
reopened : IsLive (call_p [] small (OpenWrite (opening false)) a [] [] l).left 0 1
reopened = reopen_keeps [] small (opening false) a [] [] l 0 1 met.a_live

-- `a` is removed, though its release fails,
removed : IsStale (call_p (1 ∷ []) small RemoveFile a [] [] l).left (file_slot a l) 1
removed =
    remove_makes_stale (1 ∷ []) small a [] [] l 1 (inr (inl met.remove)) (subst (λ (i : ℕ). IsLive l i 1) met.from met.a_live)

-- `a` is renamed to `b`, though the release of slot 1 fails: the handles of both,
renamed_from : IsStale (call_p (0 ∷ 0 ∷ 1 ∷ []) small Rename a b [] l).left 0 1
renamed_from =
    rename_makes_stale (0 ∷ 0 ∷ 1 ∷ []) small a b [] l 0 1 (inr (inl met.rename)) met.differ met.put (inl met.from)
    met.a_live

renamed_to : IsStale (call_p (0 ∷ 0 ∷ 1 ∷ []) small Rename a b [] l).left 1 2
renamed_to =
    rename_makes_stale (0 ∷ 0 ∷ 1 ∷ []) small a b [] l 1 2 (inr (inl met.rename)) met.differ met.put (inr met.to)
    met.b_live

-- it is renamed, and nothing fails,
renamed : fine_m (own_put [] small a b l) ≡ true
renamed = done_rename_has_put [] small a b [] l met.renames met.differ

-- it is not renamed, since its own put fails,
not_renamed : IsLive (call_p (1 ∷ []) small Rename a b [] l).left 0 1
not_renamed = failed_rename_keeps (1 ∷ []) small a b [] l 0 1 met.no_put met.a_live

-- and once it is removed its handle stays stale, also when `a` is opened again and gets slot 0: by one call,
still_stale : IsStale (call_p [] small (OpenWrite (opening false)) a [] [] (after_all removes l)).left 0 1
unfolding takes_of
still_stale =
    stale_stays [] small (OpenWrite (opening false)) a [] [] (after_all removes l) 0 1 refl
    (record { held = omega (arith, met.held); spent = omega (arith, met.spent) }) met.gone

-- and by any calls.
for_good : IsStale (after_all (coming (OpenWrite (opening false)) a ∷ []) (after_all removes l)) 0 1
unfolding coming removes takes_of
for_good =
    stale_for_good removes (coming (OpenWrite (opening false)) a ∷ []) l 0 1 (is_pool_of l.bufs met.pool) (refl, tt) (refl, tt)
    met.a_live met.gone

-- ---- an adoption, and a mount

-- On the device slots 0 and 1 claim `a` and `b`, both under generation 1. The pool holds slot 0.
one : State
one = record { chosen = choosing 2 0; rows = bound a (file 1 0 false) ∷ []; dirs = []; queue = []; counter = 2 }

m : Lent
m =
    lent (dev (encoded (bound_header 1 0 1) a ++ encoded (bound_header 1 0 1) b) (512 ∷ 512 ∷ []) (record { at = 0; last = 0 }))
    (flat one)

-- A remove whose release fails before it has written anything.
fails : Coming
fails = record { plan = 1 ∷ []; geometry = small; call = RemoveFile; first = a; second = []; buf = [] }

record Back : Type 0 where
  -- generation 1 was spent, but not on slot 1, which is not held: an adoption makes that handle live
  not_held : IsStale m 1 1
  adopted : IsLive (after_all (coming (Adopt 1) [] ∷ []) m) 1 1
  -- the handle of `a` is stale once `a` is removed, and a mount makes it live again
  removed : IsStale (after_all (fails ∷ []) m) 0 1
  mounted : IsLive (after_all (fails ∷ coming (Mount 1) [] ∷ []) m) 0 1

back : Back
unfolding a b m one small coming fails flat view St.pool_of St.queue_of Ro.flat_nums Ro.flat_names Ro.row_nums Ro.row_name Ro.mark_of Ro.rows_of
    Ro.row_from Ro.path_of Ro.is_bound Ro.gen_of Ro.len_of Ro.find Ro.holds Dr.flat_dirs Dr.dirs_of Dr.dir_at Ha.is_live call_p Ca.inner_m
    refusal_of takes_of Ta.text_if Ta.holds_pool is_pool Pt.sizes_ok Pt.rest_ok Pt.is_zero Pt.fits_ok Pt.view_ok Pt.row_fits Pt.bare_ok Pt.row_ok
    Pt.first_ok Pt.cell_ok Gr.greatest Te.is_text Te.walk_of Te.step_of Te.lead_of De.shape_b Ru.all_of Pa.same_path Pa.components Pa.opening
    Pa.names Pa.idle Pa.split Pa.cut Pa.grow Sa.same Fi.remove_m Sp.release_m Sp.free_m Sp.put_m De.header_write_m De.write_m De.turn De.onward
    Ou.flat_o Wo.view_w Wo.flat_w Bl.pad Bl.cat Ru.tab Qu.spent after_all Sp.released Qu.queued Sp.unbinds Ch.with_row encoded He.fixed
    He.decoded Fn.fnv1a Fn.stepped Mo.mount_m Mo.adopt_m Mo.empty_state Mo.too_many Mo.after_reads Mo.settle Mo.installed Mo.drain Mo.mounted
    Hd.reads_m Hd.looked Hd.head_of De.given De.share Su.scan Su.step Di.joined Di.absent Pa.ancestors Pa.fronts Ta.mountable Ta.rows_b
back = record { not_held = refl; adopted = refl; removed = refl; mounted = refl }
