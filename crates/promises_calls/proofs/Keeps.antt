-- `mount_keeps_bytes`: a release leaves every other slot (`free_others`), and a slot that was released is bound by nothing that follows.
use Prim.Native.Nat.{ℕ, ◌+◌, ◌-◌, ◌≤◌, ◌<◌}
use native.Mathlib.Omega.{arith}
use native.Mathlib.Decide.{ℕ_discrete}
use mathlib.Core.Path.{◌≡◌, refl, sym, ap, ◌∙◌}
use mathlib.Core.Logic.{◌≢◌}
use mathlib.Core.Bool.{Bool, true, false, cond, false≢true}
use mathlib.Core.List.{List, [], ◌∷◌}
use lib.Dec.{eqb, ltb}
use lib.ListN.{length}
use borrow.Author.Tests.{ltb-false}
use Rattle.limits.specs.Limits.{last_counter}
use Rattle.device.specs.declared.Geometry.{Geometry}
use Rattle.slot_rows.specs.Rows.{at, is_bound, rows_of}
use Rattle.pool_state.specs.State.{State, view}
use Rattle.pool_state.specs.InBuffers.{view_flat}
use Rattle.pool_steps.specs.World.{World, world, Lent, lent, view_w, flat_w, Fit}
use Rattle.pool_steps.specs.Steps.{release_m}
use Rattle.pool_steps.specs.Outcome.{Outcome, None, only, flat_o}
use Rattle.pool_steps.proofs.Stays.{ready_fit, release_row, release_other}
use Rattle.device.specs.Calls.{SlotStays}
use Rattle.pool_steps.proofs.Frees.{free_others}
use Rattle.mount_survey.specs.Heads.{Reads, reads_m}
use Rattle.mount_survey.specs.Survey.{Survey, scan}
use Rattle.mount_survey.proofs.Surveyed.{scan_length}
use Rattle.mount.specs.Mount.{begin, installed, drain, Due, moved, settle, after_reads, too_many, adopt_m}
use Rattle.mount.specs.Mount.{empty_state, mount_m, zero_bufs, mounted}
use Rattle.mount.proofs.SurveyKeeps.{AllSane, reads_fine}
use Rattle.mount.proofs.Stays.{due_first, due_fit, due_next, losers_due, room_for, scanned, installed_fit, adopt_valid, empty_fit}
use Rattle.calls_gate.specs.declared.Call.TheVariants.{Mount, Adopt}
use Rattle.calls_gate.specs.Table.{takes_of, chosen_of}
use Rattle.calls_gate.specs.Replies.{Came, came, nothing}
use Rattle.calls_gate.specs.Calls.{inner_m, refused_m}
use Rattle.calls_gate.proofs.Passed.{is_ready, mounts_on}
use Rattle.promises_calls.specs.Mounts.{MountKeepsBytes}
use Rattle.calls_gate.proofs.Inward.{by_table}

module _ (plan : List ℕ) (g : Geometry) where
  -- ---- releases in a row

  -- A slot that is released is unbound,
  released_unbound : (i : ℕ) (ls : List ℕ) (w : World) → Due (i ∷ ls) w → is_bound (at (release_m plan g i w).state.rows i) ≡ false
  unfolding is_bound
  released_unbound i ls w D = ap is_bound (release_row plan g i w (due_first plan g i ls w D).0)

  -- and what is unbound stays so.
  drain_unbound : (ls : List ℕ) (w : World) (j : ℕ) → Due ls w → is_bound (at w.state.rows j) ≡ false
      → is_bound (at (drain plan g ls w).state.rows j) ≡ false
  unfolding drain
  drain_unbound [] w j D e = e
  drain_unbound (i ∷ ls) w j D e = drain_unbound ls (release_m plan g i w) j (due_next plan g i ls w D) (go (ℕ_discrete j i))
    where
      go : Dec (j ≡ i) → is_bound (at (release_m plan g i w).state.rows j) ≡ false
      go (yes p) = rw p (released_unbound i ls w D)
      go (no n) = rw (release_other plan g i w j n) e

  drain_keeps : (ls : List ℕ) (w : World) (j : ℕ) → Due ls w → Fit g w → is_bound (at (drain plan g ls w).state.rows j) ≡ true
      → SlotStays g j w.dev (drain plan g ls w).dev
  unfolding drain release_m
  drain_keeps [] w j D F b = (refl, refl)
  drain_keeps (i ∷ ls) w j D F b =
      go (ℕ_discrete j i) (drain_keeps ls (release_m plan g i w) j (due_next plan g i ls w D) (due_fit plan g i ls w D F) b)
    where
      u : World
      u = release_m plan g i w

      go : Dec (j ≡ i) → SlotStays g j u.dev (drain plan g ls u).dev → SlotStays g j w.dev (drain plan g ls u).dev
      go (yes p) rest = absurd (false≢true (sym (drain_unbound ls u j (due_next plan g i ls w D) (rw p (released_unbound i ls w D))) ∙ b))
      go (no n) rest =
          let k : i < length w.dev.phys = omega (arith, (due_first plan g i ls w D).0, F.slots) in
          let f = free_others plan g i w.dev F.shape k j n w.state.counter in
          (rest.0 ∙ f.0, rest.1 ∙ f.1)

  -- ---- an adoption

  module _ (w : World) (F : Fit g w) (j : ℕ) where
    abbrev Kept : Outcome None World → Type 0
    Kept o = is_bound (at o.left.state.rows j) ≡ true → SlotStays g j w.dev o.left.dev

    module _ (r : Reads) (s : AllSane r.heads) (few : length w.state.rows + length r.heads ≤ w.state.chosen.rows)
        (slots : length w.state.rows + length r.heads ≤ length w.dev.phys) where
      abbrev v : Survey
      v = scan r.heads (begin w.state)

      abbrev standing : World
      standing = world (moved r.place w).dev (installed w.state v)

      settled : Kept (settle plan g v (moved r.place w))
      unfolding settle
      settled = eight (ltb w.state.chosen.dir_rows (length v.dirs)) refl
        where
          nine : (t : Bool) → length v.dirs ≤ w.state.chosen.dir_rows → ltb last_counter (v.counter + length v.losers) ≡ t
              → Kept (cond t (only 9 (moved r.place w)) (only 0 (drain plan g v.losers standing)))
          nine true h e b = (refl, refl)
          nine false h e b =
              let c : v.counter + length v.losers ≤ last_counter = ltb-false _ _ e in
              let n = scan_length r.heads w.state.rows w.state.dirs w.state.counter in
              let K = scanned plan g w F r.heads s few slots in
              drain_keeps v.losers standing j
              (losers_due w.state v F.valid K (omega (arith, n)) h (moved r.place w).dev c)
              (installed_fit plan g w F r.heads s few slots r.place h (omega arith)) b

          eight : (t : Bool) → ltb w.state.chosen.dir_rows (length v.dirs) ≡ t
              → Kept (cond t (only 8 (moved r.place w))
              (cond (ltb last_counter (v.counter + length v.losers)) (only 9 (moved r.place w))
              (only 0 (drain plan g v.losers standing))))
          eight true e = λ b. (refl, refl)
          eight false e = nine (ltb last_counter (v.counter + length v.losers)) (ltb-false _ _ e) refl

    pub adopt_keeps : (k : ℕ) → Kept (adopt_m plan g k w)
    unfolding adopt_m after_reads
    adopt_keeps k = go (too_many k w) refl
      where
        reads : (t : Bool) (r : Reads) → AllSane r.heads → length r.heads ≤ k → too_many k w ≡ false
            → Kept (cond t (only 10 (moved r.place w)) (settle plan g (scan r.heads (begin w.state)) (moved r.place w)))
        reads true r s h e = λ b. (refl, refl)
        reads false r s h e =
            let x = room_for k w e in
            settled r s (omega (arith, x.0, F.valid.counts.few)) (omega (arith, x.1, F.slots))

        go : (t : Bool) → too_many k w ≡ t
            → Kept (cond t (only 12 w) (after_reads plan g (reads_m plan g (length w.state.rows) k w.dev) w))
        go true e = λ b. (refl, refl)
        go false e =
            let r : Reads = reads_m plan g (length w.state.rows) k w.dev in
            let f = reads_fine plan g (length w.state.rows) k w.dev in
            reads r.failed r f.0 f.1 e

-- ---- the public calls

-- A slot is bound in the buffers that hold a pool just if it is bound in the pool.
held_bound : (g : Geometry) (w : World) (i : ℕ) → Fit g w → is_bound (at (view (flat_w w).bufs).rows i) ≡ true
    → is_bound (at w.state.rows i) ≡ true
unfolding flat_w
held_bound g w i F b = ap (λ (s : State). is_bound (at s.rows i)) (sym (view_flat w.state F.valid)) ∙ b

module _ (plan : List ℕ) (g : Geometry) (one two buf : List ℕ) (l : Lent) (i : ℕ) where
  abbrev Keeps : Came → Type 0
  Keeps x = is_bound (at (view x.left.bufs).rows i) ≡ true → SlotStays g i l.dev x.left.dev

  adopts : (k : ℕ) → Fit g (view_w l) → Keeps (inner_m plan g (Adopt k) one two buf l)
  unfolding inner_m flat_o flat_w view_w
  adopts k F b =
      let o = adopt_m plan g k (view_w l) in
      adopt_keeps plan g (view_w l) F i k (held_bound g o.left i (adopt_valid plan g (view_w l) F k) b)

  -- A refused mount leaves nothing bound.
  mounts : (k : ℕ) → Fit g (world l.dev (empty_state (chosen_of l.bufs))) → Keeps (inner_m plan g (Mount k) one two buf l)
  unfolding inner_m mount_m mounted flat_w view rows_of is_bound
  mounts k F = go (eqb o.out 0)
    where
      o : Outcome None World
      o = adopt_m plan g k (world l.dev (empty_state (chosen_of l.bufs)))

      go : (t : Bool)
          → Keeps (came o.out nothing (cond t (flat_w o.left) (lent o.left.dev (zero_bufs o.left.state.chosen))) buf)
      go true b = adopt_keeps plan g _ F i k (held_bound g o.left i (adopt_valid plan g _ F k) b)
      go false b = absurd (false≢true b)

pub mount_keeps_bytes : MountKeepsBytes
unfolding refused_m takes_of
mount_keeps_bytes plan g one two buf l k = (
  λ i. by_table plan g (Mount k) one two buf l (Keeps plan g one two buf l i)
      (λ z. let m = mounts_on g (Mount k) (Mount k) one two l z refl refl in
      mounts plan g one two buf l i k (empty_fit g l.dev (chosen_of l.bufs) m.0.0 m.0.1 m.0.2))
      (λ b. (refl, refl)),
  λ i. by_table plan g (Adopt k) one two buf l (Keeps plan g one two buf l i)
      (λ z. adopts plan g one two buf l i k (ready_fit g l (is_ready g (Adopt k) one two l z refl))) (λ b. (refl, refl)),
)
