-- The public calls: what the tests refuse changes nothing, and the rest is the inner call. So the statements of specs/Handles.antt.
use Prim.Native.Nat.{ℕ, ◌<◌}
use native.Mathlib.Omega.{arith}
use mathlib.Core.Path.{◌≡◌, refl, sym, ap, subst, ◌∙◌}
use mathlib.Core.Logic.{inl}
use mathlib.Core.Bool.{Bool, true, false, false≢true}
use mathlib.Core.List.{List, [], ◌∷◌}
use lib.Dec.{eqb}
use borrow.Author.Tests.{eqb-true, eqb-false}
use Rattle.device.specs.declared.Geometry.{Geometry}
use Rattle.pool_state.specs.State.{State, view, flat, IsPool}
use Rattle.pool_state.specs.InBuffers.{view_flat}
use Rattle.pool_test.specs.Test.{is_pool}
use Rattle.pool_steps.specs.World.{World, Lent, view_w, flat_w, Fit}
use Rattle.pool_steps.specs.Outcome.{flat_o}
use Rattle.pool_steps.proofs.Numbers.{either}
use Rattle.inner_handle.specs.Handles.{is_live}
use Rattle.inner_handle.proofs.Stays.{live_means}
use Rattle.inner_open.specs.Files.{remove_m}
use Rattle.inner_open.proofs.Stays.{remove_fit}
use Rattle.inner_rename.specs.Rename.{rebind_m, rename_m}
use Rattle.inner_rename.proofs.Stays.{rename_fit}
use Rattle.calls_gate.specs.declared.Call.{Call}
use Rattle.calls_gate.specs.declared.Call.TheVariants.{OpenWrite}
use Rattle.calls_gate.specs.declared.Call.TheVariants.{Rename, RemoveFile}
use Rattle.calls_gate.specs.Replies.{Came}
use Rattle.calls_gate.specs.Table.{takes_of, holds_pool, mountable, text_if, refusal_of}
use Rattle.calls_gate.specs.Calls.{inner_m, refused_m, call_p}
use Rattle.calls_gate.proofs.Passed.{passed, text_of}
use Rattle.calls_gate.proofs.Inward.{by_table, goes_in}
use Rattle.calls_gate.proofs.Onward.{by_gate, fits, call_onward}
use Rattle.calls_gate.proofs.Opens.{open_keeps}
use Rattle.promises_handles.specs.Handles.{pool_in, IsLive, IsStale, GivenOut, file_slot, Coming, after_all, NoMount}
use Rattle.calls_gate.specs.Refusals.{NotRefused}
use Rattle.promises_handles.specs.Handles.{ReopenKeeps, RemoveMakesStale, RenameMakesStale, DoneRenameHasPut}
use Rattle.promises_handles.specs.Handles.{FailedRenameKeeps, StaleStays, StaleForGood}
use Rattle.calls_gate.proofs.Fates.{onward_stale, Steady, steady_live}
use Rattle.calls_gate.proofs.InnerSteady.{rename_steady, refuses, remove_stale, rename_put, rename_stale}

-- ---- a public call

refusal_small : (g : Geometry) (c : Call) (one two : List ℕ) (l : Lent) → refusal_of g c one two l < 10
unfolding refusal_of
refusal_small g c one two l =
    let P : ℕ → Type 0 = λ n. n < 10 in
    let second = either P (text_if (takes_of c).second two) {x = 0} {y = 3} (omega arith) (omega arith) in
    let first = either P (text_if (takes_of c).first one) {y = 3} second (omega arith) in
    either P (takes_of c).mounts (either P (mountable g l) {x = 0} {y = 2} (omega arith) (omega arith))
    (either P (is_pool l.bufs) (either P (holds_pool g l) first (omega arith)) (omega arith))

module _ (plan : List ℕ) (g : Geometry) (c : Call) (one two buf : List ℕ) (l : Lent) where
  abbrev no : ℕ
  no = refusal_of g c one two l

  -- Such is a call that was not refused: no test refused it.
  pub went_in : NotRefused (call_p plan g c one two buf l).number → no ≡ 0
  unfolding refused_m
  went_in n = go (eqb no 0) refl
    where
      go : (t : Bool) → eqb no 0 ≡ t → no ≡ 0
      go true e = eqb-true no 0 e
      go false e =
          by_table plan g c one two buf l (λ x. NotRefused x.number → no ≡ 0) (λ z m. z)
          (λ m. absurd (refuses no (omega (arith, eqb-false no 0 e)) (refusal_small g c one two l) m)) n

pub stale_stays : StaleStays
stale_stays plan g c one two buf l slot generation m given stale =
    let a = call_onward plan g one two buf l c m in
    onward_stale (pool_in l).rows _ (pool_in l).counter _ slot generation a given.held given.spent stale

-- a handle that was given out stays so
given_stays : (plan : List ℕ) (g : Geometry) (c : Call) (one two buf : List ℕ) (l : Lent) (slot generation : ℕ) → (takes_of c).mounts ≡ false
    → GivenOut l slot generation → GivenOut (call_p plan g c one two buf l).left slot generation
given_stays plan g c one two buf l slot generation m given =
    let a = call_onward plan g one two buf l c m in
    record { held = omega (arith, a.rows, given.held); spent = omega (arith, a.counter, given.spent) }

given_all : (xs : List Coming) (l : Lent) (slot generation : ℕ) → NoMount xs → GivenOut l slot generation
    → GivenOut (after_all xs l) slot generation
unfolding after_all
given_all [] l slot generation m given = given
given_all (x ∷ xs) l slot generation m given =
    given_all xs _ slot generation m.1
    (given_stays x.plan x.geometry x.call x.first x.second x.buf l slot generation m.0 given)

stale_all : (xs : List Coming) (l : Lent) (slot generation : ℕ) → NoMount xs → GivenOut l slot generation → IsStale l slot generation
    → IsStale (after_all xs l) slot generation
unfolding after_all
stale_all [] l slot generation m given stale = stale
stale_all (x ∷ xs) l slot generation m given stale =
    stale_all xs _ slot generation m.1
    (given_stays x.plan x.geometry x.call x.first x.second x.buf l slot generation m.0 given)
    (stale_stays x.plan x.geometry x.call x.first x.second x.buf l slot generation m.0 given stale)

-- in a pool a live handle was given out
live_given : (l : Lent) (slot generation : ℕ) → IsPool l.bufs → IsLive l slot generation → GivenOut l slot generation
live_given l slot generation P live =
    let m = live_means slot generation (pool_in l).rows live in
    record { held = m.0; spent = omega (arith, m.2, P.valid.slots.young slot) }

pub stale_for_good : StaleForGood
stale_for_good xs ys l slot generation P mx my live stale =
    stale_all ys (after_all xs l) slot generation my (given_all xs l slot generation mx (live_given l slot generation P live)) stale

-- ---- a live handle

module _ (plan : List ℕ) (g : Geometry) (one two buf : List ℕ) (l : Lent) where
  laid_live : (w : World) → Fit g w → Steady (pool_in l).rows w.state.rows → (slot generation : ℕ) → IsLive l slot generation
      → is_live slot generation (view (flat w.state)).rows ≡ true
  laid_live w f a slot generation live =
      subst (λ (s : State). is_live slot generation s.rows ≡ true) (sym (view_flat w.state f.valid))
      (steady_live (pool_in l).rows w.state.rows slot generation a live)

pub reopen_keeps : ReopenKeeps
unfolding takes_of
reopen_keeps plan g how path two buf l slot generation live =
    by_gate plan g (OpenWrite how) path two buf l (λ (x : Lent). IsLive x slot generation) refl live
    (λ z. open_keeps plan g path two buf l how z slot generation live)

pub failed_rename_keeps : FailedRenameKeeps
unfolding takes_of inner_m flat_o flat_w view_w rebind_m
failed_rename_keeps plan g from to buf l slot generation fails live =
    by_gate plan g Rename from to buf l (λ (x : Lent). IsLive x slot generation) refl live
    (λ z.
    let t = passed g Rename from to l z refl in
    laid_live plan g from to buf l (rename_m plan g from to (view_w l)).left
    (rename_fit plan g from to (view_w l) (fits plan g from to buf l Rename z refl) (text_of to t.3))
    (rename_steady plan g from to (view_w l) fails) slot generation live)

-- ---- what makes a handle stale

-- what is left of a pool, in its buffers
laid_stale : (g : Geometry) (w : World) → Fit g w → (slot generation : ℕ) → is_live slot generation w.state.rows ≡ false
    → is_live slot generation (view (flat w.state)).rows ≡ false
laid_stale g w f slot generation e =
    subst (λ (s : State). is_live slot generation s.rows ≡ false) (sym (view_flat w.state f.valid)) e

pub remove_makes_stale : RemoveMakesStale
unfolding takes_of inner_m flat_o flat_w view_w
remove_makes_stale plan g path two buf l generation n live =
    let z = went_in plan g RemoveFile path two buf l n in
    let e = goes_in plan g RemoveFile path two buf l z in
    let f = remove_fit plan g (view_w l) (fits plan g path two buf l RemoveFile z refl) path in
    let k : NotRefused (remove_m plan g path (view_w l)).out = subst (λ (x : Came). NotRefused x.number) e n in
    subst (λ (x : Came). IsStale x.left (file_slot path l) generation) (sym e)
    (laid_stale g (remove_m plan g path (view_w l)).left f (file_slot path l) generation (remove_stale plan g path (view_w l) generation k))

pub rename_makes_stale : RenameMakesStale
unfolding takes_of inner_m flat_o flat_w view_w rebind_m
rename_makes_stale plan g from to buf l slot generation n differ done which live =
    let z = went_in plan g Rename from to buf l n in
    let e = goes_in plan g Rename from to buf l z in
    let t = passed g Rename from to l z refl in
    let r = fits plan g from to buf l Rename z refl in
    let f = rename_fit plan g from to (view_w l) r (text_of to t.3) in
    let k : NotRefused (rename_m plan g from to (view_w l)).out = subst (λ (x : Came). NotRefused x.number) e n in
    subst (λ (x : Came). IsStale x.left slot generation) (sym e)
    (laid_stale g (rename_m plan g from to (view_w l)).left f slot generation
    (rename_stale plan g from to (view_w l) slot generation r.valid k differ done which live))

pub done_rename_has_put : DoneRenameHasPut
unfolding takes_of inner_m flat_o view_w rebind_m
done_rename_has_put plan g from to buf l z differ =
    let e = goes_in plan g Rename from to buf l (went_in plan g Rename from to buf l (inl z)) in
    rename_put plan g from to (view_w l) (sym (ap (λ (x : Came). x.number) e) ∙ z) differ
