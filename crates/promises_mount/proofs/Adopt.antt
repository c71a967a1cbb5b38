-- Mount and adopt of a real pool are the model's where no header read fails or is cut short (`accepted_runs`), and one that came to 0 is
-- one that the model accepts (`came_accepts`). The reads carry it: each gives the slot's block, and only the plan's place moves.
use Prim.Native.Nat.{ℕ, zero, suc, ◌+◌, ◌-◌, ◌*◌, ◌/◌, ◌^◌, ◌≤◌, ◌<◌, min}
use native.Mathlib.Nat.{add-zero}
use native.Mathlib.Omega.{arith}
use native.Mathlib.Decide.{ℕ_discrete}
use mathlib.Core.Path.{◌≡◌, refl, sym, ap, ap₂, subst, ◌∙◌}
use mathlib.Core.Logic.{◌≢◌}
use mathlib.Core.Bool.{Bool, true, false, cond, not}
use mathlib.Core.List.{List, [], ◌∷◌, append-nil}
use lib.Dec.{eqb, ltb}
use lib.ListN.{length, get_or, take, drop, length-map, length-take, get_or-eq_default}
use borrow.Author.Tests.{ne_eqb, ltb-false, le-ltb}
use Rattle.limits.specs.Limits.{last_counter}
use Rattle.lists.specs.Runs.{tab}
use Rattle.device.specs.declared.Geometry.{Geometry}
use Rattle.device.specs.Device.{Dev, dev, Shape, turn, onward, share, stops, phys_of, given}
use Rattle.device.specs.AnyDevice.{look}
use Rattle.device.specs.Calls.{block_of}
use Rattle.device.proofs.CallByCall.{be_may}
use Rattle.device.proofs.Memory.{memory}
use Rattle.dir_rows.specs.Dirs.{Dirs}
use Rattle.pool_state.specs.State.{State}
use Rattle.pool_steps.specs.World.{World}
use Rattle.pool_steps.specs.Steps.{release_m}
use Rattle.pool_steps.proofs.Stays.{release_is}
use Rattle.pool_steps.specs.Outcome.{Outcome, None, only}
use Rattle.mount_survey.specs.Heads.{head_of, Reads, behind, looked, reads_m}
use Rattle.mount_survey.specs.Survey.{Survey}
use Rattle.mount_survey.specs.Survey as S
use Rattle.mount.specs.Mount.{begin, installed, drain, moved, settle, after_reads, too_many, adopt_m}
use Rattle.mount.proofs.Stays.{room_for}
use Rattle.promises_model.specs.Model.{Kit}
use Rattle.promises_model.specs.Model as M
use Rattle.promises_mount.specs.Words.{header_at, Untouched, UntouchedExactly, reading, surveyed, standing}
use Rattle.promises_mount.proofs.Kit.{said, looks, real_kit}
use Rattle.promises_mount.proofs.Bridge.{plain, shown, shown_w, pooled, scan_is, scan_dirs, drain_is}

-- ---- the reads

-- a read that is not touched: its plan byte is not 1, and 2 where the slot is empty alone
abbrev Spared : List ℕ → ℕ → Dev → Type 0
Spared plan i d = (turn plan d.place ≢ 1) × (turn plan d.place ≡ 2 → phys_of i d ≡ 0)

-- the byte at a of the plan is so for slot n
abbrev Byte : List ℕ → ℕ → ℕ → Dev → Type 0
Byte plan a n d = (get_or plan a 0 ≢ 1) × (get_or plan a 0 ≡ 2 → phys_of n d ≡ 0)

untouched_now : (plan : List ℕ) (i k : ℕ) (d : Dev) → Untouched plan i (suc k) d → Spared plan i d
unfolding Untouched turn
untouched_now plan i k d u = rw (add-zero d.place.at, add-zero i) at (u 0 (omega arith))

untouched_next : (plan : List ℕ) (i k : ℕ) (d : Dev) → Untouched plan i (suc k) d → Untouched plan (suc i) k (looked plan d)
unfolding Untouched looked onward
untouched_next plan i k d u j l = go (ltb d.place.at (length plan)) refl
  where
    none : (x n : ℕ) → x ≡ 0 → (x ≢ 1) × (x ≡ 2 → phys_of n d ≡ 0)
    none x n e = (λ h. omega arith, λ h. absurd (omega arith))

    go : (t : Bool) → ltb d.place.at (length plan) ≡ t → Byte plan (cond t (d.place.at + 1) d.place.at + j) (suc i + j) d
    go true e =
        let q : d.place.at + 1 + j ≡ d.place.at + suc j = omega arith in
        let r : suc i + j ≡ i + suc j = omega arith in
        rw (q, r) (u (suc j) (omega arith))
    go false e =
        let h : length plan ≤ d.place.at = ltb-false d.place.at (length plan) e in
        none (get_or plan (d.place.at + j) 0) (suc i + j) (get_or-eq_default plan 0 (omega arith))

passed : {A : Type 0} (t : Bool) (x y : A) → t ≡ false → cond t x y ≡ y
passed t x y e = rw e

module _ (g : Geometry) (plan : List ℕ) where
  -- a read that is not touched gives the block
  empty_read : (d : Dev) (i : ℕ) → turn plan d.place ≡ 2 → phys_of i d ≡ 0 → given plan g i 0 512 d ≡ block_of g i d
  unfolding given share
  empty_read d i e z = rw (e, z)

  whole_read : (d : Dev) (i : ℕ) → Shape g d.bytes d.phys → i < length d.phys → turn plan d.place ≢ 1 → turn plan d.place ≢ 2
      → given plan g i 0 512 d ≡ block_of g i d
  unfolding stops
  whole_read d i s r one two =
      let calm : not (stops (turn plan d.place)) ≡ true =
      rw (ne_eqb (turn plan d.place) 1 one, ne_eqb (turn plan d.place) 2 two) in
      rw (be_may plan g d (look i) s r refl) at ((memory plan g).looked d i ((memory plan g).calm_ok d (look i) s r refl calm tt))

  read_is : (d : Dev) (i : ℕ) → Shape g d.bytes d.phys → i < length d.phys → Spared plan i d
      → given plan g i 0 512 d ≡ block_of g i d
  read_is d i s r u = go (ℕ_discrete (turn plan d.place) 2)
    where
      go : Dec (turn plan d.place ≡ 2) → given plan g i 0 512 d ≡ block_of g i d
      go (yes e) = empty_read d i e (u.1 e)
      go (no n) = whole_read d i s r u.0 n

  -- a read that gives the whole block under byte 2 is of an empty slot: half of what is there is all of it
  halved_empty : (d : Dev) (i : ℕ) → Shape g d.bytes d.phys → i < length d.phys → given plan g i 0 512 d ≡ block_of g i d
      → turn plan d.place ≡ 2 → phys_of i d ≡ 0
  unfolding given share
  halved_empty d i s r e two =
      let n = min 512 (phys_of i d - 0) in
      let h : take (n / 2) (drop (i * g.size + 0) d.bytes) ≡ block_of g i d = rw two at e in
      omega (arith, ap length h, length-take (n / 2) (drop (i * g.size + 0) d.bytes), (memory plan g).block_length d i s r)

  reads_are : (k i : ℕ) (d : Dev) → Shape g d.bytes d.phys → i + k ≤ length d.phys → Untouched plan i k d
      → reads_m plan g i k d ≡ record { failed = false; heads = tab (header_at g d) i k; place = (looks plan k d).place }
  unfolding reads_m tab looks looked header_at
  reads_are zero i d s l u = refl
  reads_are (suc k) i d s l u =
      let n = untouched_now plan i k d u in
      let e : eqb (turn plan d.place) 1 ≡ false = ne_eqb (turn plan d.place) 1 n.0 in
      let r = reads_are k (suc i) (looked plan d) s (omega arith) (untouched_next plan i k d u) in
      passed (eqb (turn plan d.place) 1) (record { failed = true; heads = []; place = (looked plan d).place })
      (behind (head_of (given plan g i 0 512 d)) (reads_m plan g (suc i) k (looked plan d))) e
      ∙ ap₂ (λ (b : List ℕ) (x : Reads). behind (head_of b) x) (read_is d i s (omega arith) n) r

  looks_dev : (k : ℕ) (d : Dev) → dev d.bytes d.phys (looks plan k d).place ≡ looks plan k d
  unfolding looks looked
  looks_dev zero d = refl
  looks_dev (suc k) d = looks_dev k (looked plan d)

pub untouched_exactly : UntouchedExactly
unfolding UntouchedExactly Untouched turn
untouched_exactly plan g d i s r = (
  λ u. let n = untouched_now plan i 0 d u in (n.0, read_is g plan d i s r n),
  λ w j l.
      let z : j ≡ 0 = omega arith in
      rw (z, add-zero d.place.at, add-zero i) (w.0, halved_empty g plan d i s r w.1),
)

-- ---- what releases leave

module _ (g : Geometry) (plan : List ℕ) where
  drain_keeps : {A : Type 0} (f : State → A) → ((i : ℕ) (w : World) → f (release_m plan g i w).state ≡ f w.state)
      → (is : List ℕ) (w : World)
      → f (drain plan g is w).state ≡ f w.state
  unfolding drain
  drain_keeps f h [] w = refl
  drain_keeps f h (i ∷ is) w = drain_keeps f h is (release_m plan g i w) ∙ h i w

  drain_chosen : (is : List ℕ) (w : World) → (drain plan g is w).state.chosen ≡ w.state.chosen
  drain_chosen = drain_keeps (λ (s : State). s.chosen) (λ i w. ap (λ (s : State). s.chosen) (release_is plan g i w))

  pub drain_dirs : (is : List ℕ) (w : World) → (drain plan g is w).state.dirs ≡ w.state.dirs
  drain_dirs = drain_keeps (λ (s : State). s.dirs) (λ i w. ap (λ (s : State). s.dirs) (release_is plan g i w))

-- ---- an adoption

-- The call came to 0, and its pool is the model's state s.
pub record Runs (g : Geometry) (plan : List ℕ) (w : World) (c : Outcome None World) (s : M.State (real_kit g)) : Type 0 where
  pub out : c.out ≡ 0
  pub losers : List ℕ
  pub shows : shown_w g plan losers c.left ≡ s
  pub chosen : c.left.state.chosen ≡ w.state.chosen
  pub dirs : Dirs c.left.state.dirs

module _ (g : Geometry) (plan : List ℕ) (k : ℕ) (w : World) (s : Shape g w.dev.bytes w.dev.phys) (D : Dirs w.state.dirs)
    (u : Untouched plan (length w.state.rows) k w.dev) where
  abbrev K : Kit
  K = real_kit g

  abbrev n : ℕ
  n = length w.state.rows

  abbrev v : Survey
  v = surveyed plan g k w

  abbrev pub done : World
  done = drain plan g v.losers (standing plan g k w)

  -- what is left to decide once the headers are read
  abbrev left : World
  left = moved (reading plan g k w).place w

  abbrev crowded : Bool
  crowded = ltb w.state.chosen.dir_rows (length v.dirs)

  abbrev spent : Bool
  spent = ltb last_counter (v.counter + length v.losers)

  module _ (room : n + k ≤ length w.dev.phys) where
    pub reading_is : reading plan g k w
        ≡ record { failed = false; heads = tab (header_at g w.dev) n k; place = (looks plan k w.dev).place }
    unfolding reading
    reading_is = reads_are g plan k n w.dev s room u

    abbrev middle : M.State K
    middle = shown g plan (looks plan k w.dev) w.state.queue v

    pub survey_is : (ls : List ℕ) → M.survey K k (shown_w g plan ls w) ≡ middle
    unfolding M.survey surveyed
    survey_is ls =
        let d = looks plan k w.dev in
        let H = header_at g w.dev in
        ap (M.scan K (λ i. said (H i)) k) (rw (append-nil w.state.queue))
        ∙ sym (scan_is g plan d w.state.queue H k (begin w.state) D)
        ∙ ap (λ (r : Reads). shown g plan d w.state.queue (S.scan r.heads (begin w.state))) (sym reading_is)

    pub standing_is : shown_w g plan v.losers (standing plan g k w) ≡ middle
    unfolding standing installed
    standing_is =
        ap (λ (d : Dev). pooled g plan v.losers d (installed w.state v))
        (ap (λ (r : Reads). dev w.dev.bytes w.dev.phys r.place) reading_is ∙ looks_dev g plan k w.dev)

    adopt_is : (ls : List ℕ) → shown_w g plan v.losers done ≡ M.adopt K k (shown_w g plan ls w)
    unfolding M.adopt
    adopt_is ls =
        drain_is g plan v.losers v.losers (standing plan g k w)
        ∙ ap (M.drain K v.losers) standing_is
        ∙ ap (λ (x : M.State K). M.drain K x.losers x) (sym (survey_is ls))

    done_runs : (ls : List ℕ) → Runs g plan w (only 0 done) (M.adopt K k (shown_w g plan ls w))
    unfolding standing installed surveyed
    done_runs ls =
        let b = standing plan g k w in
        record {
          out = refl;
          losers = v.losers;
          shows = adopt_is ls;
          chosen = drain_chosen g plan v.losers b;
          dirs =
              subst Dirs (sym (drain_dirs g plan v.losers b))
              (scan_dirs g plan w.dev [] (reading plan g k w).heads (begin w.state) D);
        }

    pub surveyed_is : v ≡ S.scan (tab (header_at g w.dev) n k) (begin w.state)
    unfolding surveyed
    surveyed_is = ap (λ (r : Reads). S.scan r.heads (begin w.state)) reading_is

    pub settled : too_many k w ≡ false → adopt_m plan g k w ≡ cond crowded (only 8 left) (cond spent (only 9 left) (only 0 done))
    unfolding adopt_m after_reads settle reading surveyed standing
    settled t = let f : (reading plan g k w).failed ≡ false = ap (λ (r : Reads). r.failed) reading_is in rw (t, f)

  pub not_many : n + k ≤ w.state.chosen.rows → n + k ≤ length w.dev.phys → too_many k w ≡ false
  unfolding too_many
  not_many a b = rw (le-ltb (w.state.chosen.rows - n) k (omega arith), le-ltb (length w.dev.phys - n) k (omega arith))

  -- where the model accepts it, so does the pool
  module _ (slots : ℕ) (ls : List ℕ) (a : slots ≤ w.state.chosen.rows) (b : slots ≤ length w.dev.phys)
      (A : M.Accepts K slots w.state.chosen.dir_rows k (shown_w g plan ls w)) where
    fit : n + k ≤ slots
    fit = omega (arith, length-map w.state.rows plain, A.slots_fit)

    pub accepted_is : adopt_m plan g k w ≡ only 0 done
    accepted_is =
        let l = fit in
        let room : n + k ≤ length w.dev.phys = omega arith in
        let e = survey_is room ls in
        let x : crowded ≡ false =
        le-ltb w.state.chosen.dir_rows (length v.dirs) (omega (arith, ap (λ (z : M.State K). length z.dirs) e, A.dirs_fit)) in
        let y : spent ≡ false =
        le-ltb last_counter (v.counter + length v.losers)
        (omega (arith, ap (λ (z : M.State K). z.counter + length z.losers) e, A.gens_fit)) in
        settled room (not_many (omega arith) room) ∙ rw (x, y)

    pub accepted_runs : Runs g plan w (adopt_m plan g k w) (M.adopt K k (shown_w g plan ls w))
    accepted_runs =
        let l = fit in
        subst (λ (c : Outcome None World). Runs g plan w c (M.adopt K k (shown_w g plan ls w))) (sym accepted_is)
        (done_runs (omega arith) ls)

  -- and where it came to 0, the model accepts it

  refused : too_many k w ≡ true → (adopt_m plan g k w).out ≡ 12
  unfolding adopt_m
  refused t = rw t

  fits : n ≤ w.state.chosen.rows → n ≤ length w.dev.phys → too_many k w ≡ false
      → n + k ≤ min w.state.chosen.rows (length w.dev.phys)
  fits a b t = let c = room_for k w t in omega (arith, c.0, c.1)

  pub came_accepts : (ls : List ℕ) → n ≤ w.state.chosen.rows → n ≤ length w.dev.phys → (adopt_m plan g k w).out ≡ 0
      → M.Accepts K (min w.state.chosen.rows (length w.dev.phys)) w.state.chosen.dir_rows k (shown_w g plan ls w)
  came_accepts ls a b z = go (too_many k w) refl
    where
      fewer : (p q : Bool) → (cond p (only 8 left) (cond q (only 9 left) (only 0 done))).out ≡ 0 → (p ≡ false) × (q ≡ false)
      fewer true q e = absurd (omega (arith, e))
      fewer false true e = absurd (omega (arith, e))
      fewer false false e = (refl, refl)

      go : (t : Bool) → too_many k w ≡ t
          → M.Accepts K (min w.state.chosen.rows (length w.dev.phys)) w.state.chosen.dir_rows k (shown_w g plan ls w)
      go true t = absurd (omega (arith, refused t, z))
      go false t =
          let l = fits a b t in
          let room : n + k ≤ length w.dev.phys = omega arith in
          let e = survey_is room ls in
          let c = fewer (crowded) (spent) (ap (λ (x : Outcome None World). x.out) (sym (settled room t)) ∙ z) in
          record {
            slots_fit = omega (arith, length-map w.state.rows plain);
            dirs_fit =
                let few = ltb-false w.state.chosen.dir_rows (length v.dirs) c.0 in
                omega (arith, ap (λ (x : M.State K). length x.dirs) e, few);
            gens_fit =
                let low = ltb-false last_counter (v.counter + length v.losers) c.1 in
                omega (arith, ap (λ (x : M.State K). x.counter + length x.losers) e, low);
          }
