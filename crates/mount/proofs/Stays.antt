-- "the result of every mount and adopt is a pool, whatever failed": releases in a row, the pool that a survey accepted, adopt and mount.
use Prim.Native.Nat.{ℕ, ◌+◌, ◌-◌, ◌≤◌, ◌<◌}
use native.Mathlib.Omega.{arith}
use mathlib.Core.Path.{◌≡◌, refl, sym, ap, ◌∙◌, subst}
use mathlib.Core.Logic.{inl, inr, ⊎_elim}
use mathlib.Core.Bool.{Bool, true, false, cond, ◌||◌, false≢true}
use mathlib.Core.List.Memᴰ
use mathlib.Core.List.{List, [], ◌∷◌, ◌++◌, append-nil}
use lib.Dec.{ltb}
use lib.ListN.{length, length-set}
use borrow.Author.Tests.{ltb-false}
use Rattle.limits.specs.Limits.{last_counter}
use Rattle.lists.specs.Distinct.{In, Distinct, snoc_in}
use Rattle.lists.specs.Distinct.Distinct.{none, more}
use Rattle.text.specs.Text as Text
use Rattle.text.proofs.Grammar.{text_complete}
use Rattle.device.specs.declared.Place.{Place}
use Rattle.device.specs.declared.Geometry.{Geometry}
use Rattle.device.specs.Device.{Dev, Shape}
use Rattle.slot_rows.specs.Rows.{unbound, path_of, is_bound, gen_of}
use Rattle.dir_rows.proofs.Joined.{no_dirs}
use Rattle.pool_state.specs.declared.Chosen.{Chosen}
use Rattle.pool_state.specs.State.{State, Valid}
use Rattle.pool_steps.specs.World.{World, world, Fit}
use Rattle.pool_steps.specs.Steps.{fine_m, free_m, release_m}
use Rattle.pool_steps.proofs.Stays.{release_is, release_fit}
use Rattle.pool_steps.specs.Outcome.{only}
use Rattle.mount_survey.specs.Heads.{Head, Reads, reads_m}
use Rattle.mount_survey.specs.Survey.{Survey, scan}
use Rattle.mount_survey.proofs.Surveyed.{scan_length}
use Rattle.mount.specs.Mount.{begin, installed, drain, Due, moved, settle, after_reads, too_many, adopt_m, empty_state, mount_m}
use Rattle.mount.proofs.SurveyKeeps.{AllSane, reads_fine, Sound, Keeps, scan_keeps}

-- ---- releases in a row

apart_first : {i : ℕ} {ls : List ℕ} → Distinct (i ∷ ls) → In i ls → ⊥
apart_first (more f t) = f

apart_rest : {i : ℕ} {ls : List ℕ} → Distinct (i ∷ ls) → Distinct ls
apart_rest (more f t) = t

module _ (plan : List ℕ) (g : Geometry) where
  module _ (i : ℕ) (ls : List ℕ) (w : World) (D : Due (i ∷ ls) w) where
    -- The first of them can be released,
    pub due_first : (i < length w.state.rows) × (In i w.state.queue → ⊥) × (w.state.counter < last_counter)
    due_first = (D.inside i (Memᴰ.head refl), D.unqueued i (Memᴰ.head refl), omega (arith, D.counted))

    pub due_fit : Fit g w → Fit g (release_m plan g i w)
    due_fit F = release_fit plan g i w F due_first.0 due_first.1 due_first.2

    -- and the others then.
    pub due_next : Due ls (release_m plan g i w)
    due_next =
        let e = release_is plan g i w in
        let n : length (release_m plan g i w).state.rows ≡ length w.state.rows = ap (λ (x : State). length x.rows) e ∙ length-set w.state.rows i (unbound w.state.counter) in
        let c : (release_m plan g i w).state.counter ≡ w.state.counter + 1 = ap (λ (x : State). x.counter) e in
        record {
          once = apart_rest D.once;
          inside = λ j m. omega (arith, D.inside j (Memᴰ.tail m));
          unqueued = λ j m k. out j m (fine_m (free_m plan g i w.state.counter w.dev)) (subst (λ (x : List ℕ). In j x) (ap (λ (x : State). x.queue) e) k);
          counted = omega (arith, D.counted);
        }
      where
        out : (j : ℕ) → In j ls → (t : Bool) → In j (cond t (w.state.queue ++ (i ∷ [])) w.state.queue) → ⊥
        out j m true k = ⊎_elim (D.unqueued j (Memᴰ.tail m)) (λ e. apart_first D.once (subst (λ (x : ℕ). In x ls) e m)) (snoc_in w.state.queue i j k)
        out j m false k = D.unqueued j (Memᴰ.tail m) k

  pub drain_fit : (ls : List ℕ) (w : World) → Due ls w → Fit g w → Fit g (drain plan g ls w)
  unfolding drain
  drain_fit [] w D F = F
  drain_fit (i ∷ ls) w D F = drain_fit ls (release_m plan g i w) (due_next i ls w D) (due_fit i ls w D F)

-- ---- the pool that a survey accepted

-- A survey begins with what makes a pool.
pub begin_keeps : (s : State) → Valid s → Keeps s.queue (begin s)
begin_keeps s ok =
    subst (λ (x : List ℕ). Sound s.rows x [] s.dirs s.counter) (sym (append-nil s.queue))
    (record {
      begun = ok.counts.begun;
      slots = ok.slots;
      aside =
          record {
            inside = λ i m. ⊎_elim (ok.waiting.inside i) (λ k. absurd (Memᴰ.not-nil k)) m;
            idle = λ i m. ⊎_elim (ok.waiting.idle i) (λ k. absurd (Memᴰ.not-nil k)) m;
            once = ok.waiting.once;
            lost = none;
            other = λ i m k. Memᴰ.not-nil k;
          };
      directories = ok.directories;
    })

module _ (s : State) (v : Survey) (ok : Valid s) (K : Keeps s.queue v) (few : length v.rows ≤ s.chosen.rows) (dirs : length v.dirs ≤ s.chosen.dir_rows) where
  pub installed_valid : v.counter ≤ last_counter → Valid (installed s v)
  unfolding installed
  installed_valid c =
      let n = ok.counts in
      let a = K.aside in
      record {
        counts = record { small = n.small; dirs_small = n.dirs_small; few = few; dirs_few = dirs; begun = K.begun; counted = c };
        slots = K.slots;
        waiting = record { inside = λ i m. a.inside i (inl m); idle = λ i m. a.idle i (inl m); once = a.once };
        directories = K.directories;
      }

  -- Its losers can be released.
  pub losers_due : (d : Dev) → v.counter + length v.losers ≤ last_counter → Due v.losers (world d (installed s v))
  unfolding installed
  losers_due d c = record { once = K.aside.lost; inside = λ i m. K.aside.inside i (inr m); unqueued = λ i m k. K.aside.other i k m; counted = c }

-- ---- adopt and mount

-- There is room for k more slots, in the rows and on the device.
pub room_for : (k : ℕ) (w : World) → too_many k w ≡ false → (k ≤ w.state.chosen.rows - length w.state.rows) × (k ≤ length w.dev.phys - length w.state.rows)
unfolding too_many
room_for k w h = go (ltb (w.state.chosen.rows - length w.state.rows) k) refl h
  where
    go : (t : Bool) → ltb (w.state.chosen.rows - length w.state.rows) k ≡ t → (t || ltb (length w.dev.phys - length w.state.rows) k) ≡ false
        → (k ≤ w.state.chosen.rows - length w.state.rows) × (k ≤ length w.dev.phys - length w.state.rows)
    go true e f = absurd (false≢true (sym f))
    go false e f = (ltb-false _ _ e, ltb-false _ _ f)

module _ (plan : List ℕ) (g : Geometry) (w : World) (F : Fit g w) where
  pub moved_fit : (p : Place) → Fit g (moved p w)
  moved_fit p = record { valid = F.valid; shape = F.shape; slots = F.slots }

  module _ (hs : List Head) (s : AllSane hs) (few : length w.state.rows + length hs ≤ w.state.chosen.rows) (slots : length w.state.rows + length hs ≤ length w.dev.phys) where
    abbrev v : Survey
    v = scan hs (begin w.state)

    pub scanned : Keeps w.state.queue v
    scanned = scan_keeps w.state.queue hs (begin w.state) s (begin_keeps w.state F.valid)

    pub installed_fit : (p : Place) → length v.dirs ≤ w.state.chosen.dir_rows → v.counter ≤ last_counter → Fit g (world (moved p w).dev (installed w.state v))
    unfolding installed
    installed_fit p h c = record {
      valid = installed_valid w.state v F.valid scanned (omega (arith, scan_length hs w.state.rows w.state.dirs w.state.counter)) h c;
      shape = F.shape;
      slots = omega (arith, scan_length hs w.state.rows w.state.dirs w.state.counter);
    }

    settled_fit : (p : Place) → Fit g (settle plan g v (moved p w)).left
    unfolding settle
    settled_fit p = eight (ltb w.state.chosen.dir_rows (length v.dirs)) refl
      where
        nine : (t : Bool) → length v.dirs ≤ w.state.chosen.dir_rows → ltb last_counter (v.counter + length v.losers) ≡ t
            → Fit g (cond t (only 9 (moved p w)) (only 0 (drain plan g v.losers (world (moved p w).dev (installed w.state v))))).left
        nine true h e = moved_fit p
        nine false h e =
            let c : v.counter + length v.losers ≤ last_counter = ltb-false _ _ e in
            drain_fit plan g v.losers (world (moved p w).dev (installed w.state v))
            (losers_due w.state v F.valid scanned (omega (arith, scan_length hs w.state.rows w.state.dirs w.state.counter)) h (moved p w).dev c) (installed_fit p h (omega arith))

        eight : (t : Bool) → ltb w.state.chosen.dir_rows (length v.dirs) ≡ t
            → Fit g (cond t (only 8 (moved p w)) (cond (ltb last_counter (v.counter + length v.losers)) (only 9 (moved p w))
            (only 0 (drain plan g v.losers (world (moved p w).dev (installed w.state v)))))).left
        eight true e = moved_fit p
        eight false e = nine (ltb last_counter (v.counter + length v.losers)) (ltb-false _ _ e) refl

  pub adopt_valid : (k : ℕ) → Fit g (adopt_m plan g k w).left
  unfolding adopt_m after_reads
  adopt_valid k = go (too_many k w) refl
    where
      n : ℕ
      n = length w.state.rows

      reads : (t : Bool) (r : Reads) → AllSane r.heads → length r.heads ≤ k → too_many k w ≡ false
          → Fit g (cond t (only 10 (moved r.place w)) (settle plan g (scan r.heads (begin w.state)) (moved r.place w))).left
      reads true r s h e = moved_fit r.place
      reads false r s h e =
          let x = room_for k w e in
          settled_fit r.heads s (omega (arith, x.0, F.valid.counts.few)) (omega (arith, x.1, F.slots)) r.place

      go : (t : Bool) → too_many k w ≡ t → Fit g (cond t (only 12 w) (after_reads plan g (reads_m plan g (length w.state.rows) k w.dev) w)).left
      go true e = F
      go false e =
          let r : Reads = reads_m plan g (length w.state.rows) k w.dev in
          let f = reads_fine plan g (length w.state.rows) k w.dev in
          reads r.failed r f.0 f.1 e

-- A refused adoption changes nothing of the pool.
settle_refused : (plan : List ℕ) (g : Geometry) (v : Survey) (w : World) → ((settle plan g v w).out ≡ 0 → ⊥) → (settle plan g v w).left.state ≡ w.state
unfolding settle
settle_refused plan g v w = eight (ltb w.state.chosen.dir_rows (length v.dirs))
  where
    nine : (t : Bool) → ((cond t (only 9 w) (only 0 (drain plan g v.losers (world w.dev (installed w.state v))))).out ≡ 0 → ⊥)
        → (cond t (only 9 w) (only 0 (drain plan g v.losers (world w.dev (installed w.state v))))).left.state ≡ w.state
    nine true ne = refl
    nine false ne = absurd (ne refl)

    eight : (t : Bool)
        → ((cond t (only 8 w) (cond (ltb last_counter (v.counter + length v.losers)) (only 9 w) (only 0 (drain plan g v.losers (world w.dev (installed w.state v)))))).out ≡ 0 → ⊥)
        → (cond t (only 8 w) (cond (ltb last_counter (v.counter + length v.losers)) (only 9 w) (only 0 (drain plan g v.losers (world w.dev (installed w.state v)))))).left.state ≡ w.state
    eight true ne = refl
    eight false ne = nine (ltb last_counter (v.counter + length v.losers)) ne

pub adopt_refused : (plan : List ℕ) (g : Geometry) (k : ℕ) (w : World) → ((adopt_m plan g k w).out ≡ 0 → ⊥) → (adopt_m plan g k w).left.state ≡ w.state
unfolding adopt_m after_reads
adopt_refused plan g k w = go (too_many k w)
  where
    reads : (t : Bool) (r : Reads) → ((cond t (only 10 (moved r.place w)) (settle plan g (scan r.heads (begin w.state)) (moved r.place w))).out ≡ 0 → ⊥)
        → (cond t (only 10 (moved r.place w)) (settle plan g (scan r.heads (begin w.state)) (moved r.place w))).left.state ≡ w.state
    reads true r ne = refl
    reads false r ne = settle_refused plan g (scan r.heads (begin w.state)) (moved r.place w) ne

    go : (t : Bool) → ((cond t (only 12 w) (after_reads plan g (reads_m plan g (length w.state.rows) k w.dev) w)).out ≡ 0 → ⊥)
        → (cond t (only 12 w) (after_reads plan g (reads_m plan g (length w.state.rows) k w.dev) w)).left.state ≡ w.state
    go true ne = refl
    go false ne = reads (reads_m plan g (length w.state.rows) k w.dev).failed (reads_m plan g (length w.state.rows) k w.dev) ne

-- The pool of no slots on a device of the right shape.
pub empty_fit : (g : Geometry) (d : Dev) (h : Chosen) → Shape g d.bytes d.phys → h.rows ≤ 64 → h.dir_rows ≤ 256 → Fit g (world d (empty_state h))
unfolding empty_state path_of is_bound gen_of
empty_fit g d h s n m = record {
  valid =
      record {
        counts = record { small = n; dirs_small = m; few = omega arith; dirs_few = omega arith; begun = omega arith; counted = omega arith };
        slots = record { text = λ i. text_complete Text.none; short = λ i. omega arith; apart = λ i j b. absurd (false≢true b); young = λ i. omega arith };
        waiting = record { inside = λ i m. absurd (Memᴰ.not-nil m); idle = λ i m. absurd (Memᴰ.not-nil m); once = none };
        directories = record { short = λ x m. absurd (Memᴰ.not-nil m); dirs = no_dirs };
      };
  shape = s;
  slots = omega arith;
}

pub mount_valid : (plan : List ℕ) (g : Geometry) (h : Chosen) (k : ℕ) (d : Dev) → Shape g d.bytes d.phys → h.rows ≤ 64 → h.dir_rows ≤ 256
    → Fit g (mount_m plan g h k d).left
unfolding mount_m
mount_valid plan g h k d s n m = adopt_valid plan g (world d (empty_state h)) (empty_fit g d h s n m) k
