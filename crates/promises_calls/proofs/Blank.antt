-- `blank_card`: each header read of a blank slot says nothing, whole or cut short (`given_blank`), so the survey finds k spare slots and
-- nothing else (`scan_blank`), and there is nothing to register and nothing to release.
use Prim.Native.Nat.{ℕ, zero, suc, ◌+◌, ◌-◌, ◌/◌, ◌≤◌, ◌<◌}
use native.Mathlib.Omega.{arith}
use mathlib.Core.Path.{◌≡◌, refl, sym, ap, ap₂, ◌∙◌}
use mathlib.Core.Logic.{◌≢◌}
use mathlib.Core.Bool.{Bool, true, false, cond, false≢true}
use mathlib.Core.List.{List, [], ◌∷◌, ◌++◌, append-nil, append_assoc}
use lib.Dec.{eqb, ltb}
use lib.ListN.{length, get_or, take, replicate, length-append, length-replicate, length-take, get_or-eq_default}
use borrow.Author.Tests.{ltb-false, le-ltb, ne_eqb}
use Rattle.lists.specs.Runs.{range}
use Rattle.device.specs.declared.Place.{Place}
use Rattle.device.specs.declared.Geometry.{Geometry}
use Rattle.device.specs.Device.{Dev, dev, Shape, shape_b, turn, onward, given, seen}
use Rattle.device.specs.AnyDevice.{look}
use Rattle.device.specs.Calls.{whole_m, failed_m, given_by, block_of}
use Rattle.device.proofs.CallByCall.{be_may, look_given, half_given, block_long}
use Rattle.device.proofs.Shapes.{both, shape_means}
use Rattle.slot_rows.specs.Rows.{Row, none, at, is_bound}
use Rattle.pool_state.specs.declared.Chosen.{Chosen}
use Rattle.pool_state.specs.State.{State}
use Rattle.pool_steps.specs.World.{World, world, Lent, view_w}
use Rattle.pool_steps.specs.Outcome.{Outcome, None, only}
use Rattle.mount_survey.proofs.Staging.{short_said}
use Rattle.mount_survey.specs.Heads.{Head, absent, head_of, Reads, behind, looked, reads_m}
use Rattle.mount_survey.specs.Survey.{Survey, survey, step, scan}
use Rattle.mount.specs.Mount.{begin, installed, drain, moved, settle, after_reads, too_many, adopt_m, empty_state, mount_m, mounted}
use Rattle.mount.proofs.Stays.{room_for}
use Rattle.calls_gate.specs.declared.Call.TheVariants.{Mount}
use Rattle.calls_gate.specs.Table.{chosen_of, mountable}
use Rattle.calls_gate.specs.Replies.{Came}
use Rattle.calls_gate.specs.Calls.{call_p}
use Rattle.calls_gate.specs.Refusals.{moved_by}
use Rattle.promises_calls.specs.Blank.{Blank, Ample, Fresh, BlankCard}
use Rattle.calls_gate.proofs.Inward.{mount_call, mount_fits, mount_accepted, mount_left}
use Rattle.calls_gate.proofs.Refusals.{reads_place}

-- ---- what is read

module _ (plan : List ℕ) (g : Geometry) where
  -- A read of a blank slot says nothing: a whole one is the block, and one cut short is too short for a header.
  given_blank : (d : Dev) (i : ℕ) → Shape g d.bytes d.phys → i < length d.phys → Blank g d i → eqb (turn plan d.place) 1 ≡ false
      → head_of (given plan g i 0 512 d) ≡ absent
  unfolding seen onward
  given_blank d i s r b f = go (whole_m plan g d (look i)) refl
    where
      is_given : given_by plan g d (look i) ≡ given plan g i 0 512 d
      is_given = rw (be_may plan g d (look i) s r refl)

      not_failed : failed_m plan g d (look i) ≡ false
      not_failed = rw (be_may plan g d (look i) s r refl, f) refl

      go : (t : Bool) → whole_m plan g d (look i) ≡ t → head_of (given plan g i 0 512 d) ≡ absent
      go true e = ap head_of (sym is_given ∙ look_given plan g d i e) ∙ b
      go false e =
          let k = length (block_of g i d) / 2 in
          let n : length (take k (block_of g i d)) < 512 = simp length-take (omega (arith, block_long plan g d i s r)) in
          ap head_of (sym is_given ∙ half_given plan g d i e not_failed) ∙ short_said (take k (block_of g i d)) n

  reads_blank : (i k : ℕ) (d : Dev) → Shape g d.bytes d.phys → i + k ≤ length d.phys → ((j : ℕ) → i ≤ j → j < i + k → Blank g d j)
      → (reads_m plan g i k d).failed ≡ false → (reads_m plan g i k d).heads ≡ replicate k absent
  unfolding reads_m looked
  reads_blank i zero d s r b f = refl
  reads_blank i (suc k) d s r b f =
      go (eqb (turn plan d.place) 1) refl
      (reads_blank (suc i) k (looked plan d) s (omega arith) (λ j x y. b j (omega arith) (omega arith))) f
    where
      later : Reads
      later = reads_m plan g (suc i) k (looked plan d)

      ends : Bool → Reads
      ends t = cond t (record { failed = true; heads = []; place = (looked plan d).place }) (behind (head_of (given plan g i 0 512 d)) later)

      go : (t : Bool) → eqb (turn plan d.place) 1 ≡ t → (later.failed ≡ false → later.heads ≡ replicate k absent)
          → (ends t).failed ≡ false → (ends t).heads ≡ absent ∷ replicate k absent
      go true e rest h = absurd (false≢true (sym h))
      go false e rest h =
          ap₂ (λ (x : Head) (l : List Head). x ∷ l) (given_blank d i s (omega arith) (b i (omega arith) (omega arith)) e) (rest h)

  -- No read fails where the plan has no 1 for it.
  none_fails : (i k : ℕ) (d : Dev) → ((j : ℕ) → j < k → get_or plan (d.place.at + j) 0 ≢ 1) → (reads_m plan g i k d).failed ≡ false
  unfolding reads_m looked turn onward
  none_fails i zero d h = refl
  none_fails i (suc k) d h =
      let z : d.place.at + 0 ≡ d.place.at = omega arith in
      let f : eqb (get_or plan d.place.at 0) 1 ≡ false = ne_eqb _ _ (λ e. h 0 (omega arith) (ap (λ (n : ℕ). get_or plan n 0) z ∙ e)) in
      goes_on (eqb (get_or plan d.place.at 0) 1) f
      (none_fails (suc i) k (looked plan d) (λ j l. go j l (ltb d.place.at (length plan)) refl))
    where
      later : Reads
      later = reads_m plan g (suc i) k (looked plan d)

      ends : Bool → Reads
      ends t = cond t (record { failed = true; heads = []; place = (looked plan d).place }) (behind (head_of (given plan g i 0 512 d)) later)

      goes_on : (t : Bool) → t ≡ false → later.failed ≡ false → (ends t).failed ≡ false
      goes_on true e q = absurd (false≢true (sym e))
      goes_on false e q = q

      go : (j : ℕ) → j < k → (t : Bool) → ltb d.place.at (length plan) ≡ t
          → get_or plan (cond t (d.place.at + 1) d.place.at + j) 0 ≢ 1
      go j l true e q =
          let z : d.place.at + suc j ≡ d.place.at + 1 + j = omega arith in
          h (suc j) (omega arith) (ap (λ (n : ℕ). get_or plan n 0) z ∙ q)
      go j l false e q =
          let n : length plan ≤ d.place.at + j = omega (arith, ltb-false d.place.at (length plan) e) in
          omega (arith, get_or-eq_default plan 0 n)

-- ---- what is found

scan_blank : (k : ℕ) (rs : List Row) (fs : List ℕ) → scan (replicate k absent) (survey rs fs [] [] 1)
    ≡ survey (rs ++ replicate k none) (fs ++ range (length rs) k) [] [] 1
unfolding scan step range
scan_blank zero rs fs = rw (append-nil rs, append-nil fs)
scan_blank (suc k) rs fs =
    let n : length (rs ++ (none ∷ [])) ≡ suc (length rs) = length-append rs (none ∷ []) ∙ omega arith in
    scan_blank k (rs ++ (none ∷ [])) (fs ++ (length rs ∷ []))
    ∙ rw (n, append_assoc rs (none ∷ []) (replicate k none), append_assoc fs (length rs ∷ []) (range (suc (length rs)) k))

-- The pool of k free slots.
abbrev blank_state : Chosen → ℕ → State
blank_state h k = record { chosen = h; rows = replicate k none; dirs = []; queue = range 0 k; counter = 1 }

module _ (plan : List ℕ) (g : Geometry) (h : Chosen) (k : ℕ) (d : Dev) (s : Shape g d.bytes d.phys)
    (b : (i : ℕ) → i < k → Blank g d i) where
  abbrev w : World
  w = world d (empty_state h)

  abbrev r : Reads
  r = reads_m plan g 0 k d

  abbrev after : World
  after = world (dev d.bytes d.phys (moved_by plan k d.place)) (blank_state h k)

  blank_survey : k ≤ length d.phys → r.failed ≡ false
      → scan r.heads (begin (empty_state h)) ≡ survey (replicate k none) (range 0 k) [] [] 1
  unfolding empty_state
  blank_survey l f =
      let e = reads_blank plan g 0 k d s (omega arith) (λ j x y. b j (omega arith)) f in
      ap (λ (hs : List Head). scan hs (survey [] [] [] [] 1)) e ∙ scan_blank k [] []

  blank_settles : (p : Place) → settle plan g (survey (replicate k none) (range 0 k) [] [] 1) (moved p w)
      ≡ only 0 (world (dev d.bytes d.phys p) (blank_state h k))
  unfolding settle installed drain empty_state
  blank_settles p = rw (le-ltb h.dir_rows 0 (omega arith)) refl

  blank_adopts : too_many k w ≡ false → k ≤ length d.phys → r.failed ≡ false → adopt_m plan g k w ≡ only 0 after
  unfolding adopt_m after_reads empty_state
  blank_adopts t l f =
      rw (t, f)
      (ap (λ (v : Survey). settle plan g v (moved r.place w)) (blank_survey l f) ∙ blank_settles r.place
      ∙ ap (λ (p : Place). only 0 (world (dev d.bytes d.phys p) (blank_state h k))) (reads_place plan g 0 k d f))

  blank_done : (adopt_m plan g k w).out ≡ 0 → adopt_m plan g k w ≡ only 0 after
  unfolding adopt_m after_reads empty_state
  blank_done z = go (too_many k w) r.failed refl refl z
    where
      ends : Bool → Bool → Outcome None World
      ends t f =
          cond t (only 12 w)
          (cond f (only 10 (moved r.place w)) (settle plan g (scan r.heads (begin (empty_state h))) (moved r.place w)))

      go : (t f : Bool) → too_many k w ≡ t → r.failed ≡ f → (ends t f).out ≡ 0 → adopt_m plan g k w ≡ only 0 after
      go true f e u q = absurd (omega arith)
      go false true e u q = absurd (omega arith)
      go false false e u q = blank_adopts e (omega (arith, (room_for k w e).1)) u

  enough : k ≤ h.rows → k ≤ length d.phys → too_many k w ≡ false
  unfolding too_many empty_state
  enough n m = rw (le-ltb (h.rows - 0) k (omega arith), le-ltb (length d.phys - 0) k (omega arith)) refl

no_row : (k i : ℕ) → at (replicate k none) i ≡ none
no_row zero i = refl
no_row (suc k) zero = refl
no_row (suc k) (suc i) = no_row k i

-- ---- the public call

module _ (plan : List ℕ) (g : Geometry) (k : ℕ) (one two buf : List ℕ) (l : Lent) (b : (i : ℕ) → i < k → Blank g l.dev i) where
  abbrev chosen : Chosen
  chosen = chosen_of l.bufs

  accepted : Ample plan g k l → (call_p plan g (Mount k) one two buf l).number ≡ 0
  unfolding mountable mounted mount_m
  accepted A =
      let s = (shape_means g l.dev.bytes l.dev.phys).0 (both (shape_b g l.dev.bytes l.dev.phys) _ A.shape).0 in
      ap (λ (x : Came). x.number) (mount_call plan g k one two buf l A.shape)
      ∙ ap (λ (o : Outcome None World). o.out)
      (blank_adopts plan g chosen k l.dev s b (enough plan g chosen k l.dev s b A.rows A.slots) A.slots
      (none_fails plan g 0 k l.dev A.reads))

  fresh : (call_p plan g (Mount k) one two buf l).number ≡ 0 → Fresh plan k l (call_p plan g (Mount k) one two buf l)
  unfolding mount_m view_w is_bound
  fresh z =
      let o = blank_done plan g chosen k l.dev (mount_fits plan g k one two buf l z).0 b (mount_accepted plan g k one two buf l z) in
      let e = mount_left plan g k one two buf l z ∙ ap (λ (x : Outcome None World). x.left) o in
      record {
        held = ap (λ (w : World). length w.state.rows) e ∙ length-replicate k none;
        files = λ i. ap (λ (w : World). is_bound (at w.state.rows i)) e ∙ ap is_bound (no_row k i);
        dirs = ap (λ (w : World). w.state.dirs) e;
        free = ap (λ (w : World). w.state.queue) e;
        counter = ap (λ (w : World). w.state.counter) e;
        device = ap (λ (w : World). w.dev) e;
      }

pub blank_card : BlankCard
blank_card plan g k one two buf l b = (accepted plan g k one two buf l b, fresh plan g k one two buf l b)
