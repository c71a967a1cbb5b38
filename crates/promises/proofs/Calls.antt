-- The rows of table P that a call on a pool decides: P1, P4 and P5, and the open that finds no generation left (P6). Each call is first
-- worked out on the pool that the buffers hold, and then it is the public call by calls_gate (Inward) and Face.antt.
use Prim.Native.Nat.{ℕ, ◌+◌, ◌-◌, ◌*◌, ◌≤◌, ◌<◌, ◌^◌, min}
use native.Mathlib.Omega.{arith}
use mathlib.Core.Path.{◌≡◌, refl, sym, ap, ap₂, subst, ◌∙◌}
use mathlib.Core.Logic.{◌≢◌}
use mathlib.Core.Bool.{Bool, true, false, cond, not, false≢true}
use mathlib.Core.List.{List, [], ◌∷◌, ◌++◌}
use lib.Dec.{eqb, ltb, leb, lit≤}
use lib.ListN.{length, get_or, take, drop, length-take, take-append-drop}
use lib.Seq.{get_or-set_same, length-take-le}
use borrow.Author.Tests.{eqb-true, ne_eqb, ltb-true, lt-ltb, le-ltb, le-leb, lt-leb}
use Rattle.limits.specs.Limits.{max_path, last_counter}
use Rattle.lists.specs.Same.{same}
use Rattle.text.specs.Text.{lead_of, step_of, walk_of, is_text}
use Rattle.path.specs.Path.{grow, cut, split, idle, names, opening, components, same_path}
use Rattle.device.specs.declared.Geometry.{Geometry}
use Rattle.le.specs.Le.{laid}
use Rattle.le.proofs.Parts.{laid_append, laid_front}
use Rattle.device.specs.Device.{Dev, dev, Shape, turn, onward, share, stops, phys_of, given, seen, read_m, data_read_m, data_truncate_m}
use Rattle.device.specs.Slots.{part_of, share_le}
use Rattle.device.specs.AnyDevice.{truncate, load}
use Rattle.device.proofs.CallByCall.{acts, be_may}
use Rattle.device.proofs.Memory.{memory}
use Rattle.slot_rows.specs.Rows.{file, bound, none, at, is_bound, gen_of, len_of}
use Rattle.dir_rows.specs.Dirs.{registered}
use Rattle.pool_state.specs.State.{State, Bufs, view}
use Rattle.pool_state.specs.Queue.{spent, unqueued}
use Rattle.pool_state.specs.Changes.{with_row, with_dirs}
use Rattle.pool_state.specs.InBuffers.{view_flat}
use Rattle.pool_steps.specs.World.{World, world, lent, view_w, flat_w, Fit, Ready}
use Rattle.pool_steps.specs.Steps.{fine_m}
use Rattle.pool_steps.proofs.Stays.{ready_fit}
use Rattle.pool_steps.specs.Outcome.{Outcome, outcome, flat_o}
use Rattle.inner_handle.specs.Handles.{is_live, Filling, filling, read_part, read_at_m}
use Rattle.inner_handle.proofs.Stays.{stays}
use Rattle.inner_open.specs.Files.{is_file, room_for, registers, binds, Handle, handle, no_handle}
use Rattle.inner_open.specs.Files.{created, create_m, admits_new, open_new_m, open_write_m}
use Rattle.inner_open.proofs.Stays.{first_held_lem, open_write_fit}
use Rattle.inner_rename.specs.Rename.{front_m, rename_m}
use Rattle.calls_gate.specs.declared.Call.{Call}
use Rattle.calls_gate.specs.declared.Call.TheVariants.{OpenWrite, ReadAt, Rename}
use Rattle.calls_gate.specs.Table.{opening as Opening-of, takes_of, text_if}
use Rattle.calls_gate.specs.Replies.{telling, Came, came}
use Rattle.calls_gate.specs.Calls.{quiet, opened, filled, inner_m}
use Rattle.pool.specs.Face.{Asked, lent_of}
use Rattle.promises.specs.Face.{came_of}
use Rattle.promises.specs.Edges.{Setting, state, Unchanged, Spared, NewFile, Able, Opens, P1, wanted, gives, P4, Unmoved, P5}
use Rattle.calls_gate.proofs.Inward.{on_pool}
use Rattle.promises.proofs.Face.{as_call}

-- ---- an open, on what the buffers hold

module _ (plan : List ℕ) (g : Geometry) (path : List ℕ) (keep : Bool) (w : World) where
  abbrev s : State
  s = w.state

  too_long_lem : max_path < length path → open_write_m plan g path keep w ≡ outcome 4 no_handle w
  unfolding open_write_m
  too_long_lem h = rw (lt-ltb max_path (length path) h)

  module _ (short : length path ≤ max_path) (new : is_file path s ≡ false) (room : length (registered s.dirs path) ≤ s.chosen.dir_rows)
      (free : 0 < length s.queue) where
    opens_new : open_write_m plan g path keep w ≡ open_new_m plan g path w
    unfolding open_write_m
    opens_new = rw (le-ltb max_path (length path) short, new)

    admits : admits_new path s ≡ cond (ltb last_counter (s.counter + 1)) 9 0
    unfolding admits_new room_for
    admits = rw (ne_eqb (length s.queue) 0 (λ e. omega arith), le-ltb s.chosen.dir_rows (length (registered s.dirs path)) room)

    none_left : s.counter ≡ last_counter → open_write_m plan g path keep w ≡ outcome 9 no_handle w
    unfolding open_new_m
    none_left e =
        let a : admits_new path s ≡ 9 = admits ∙ rw (lt-ltb last_counter (s.counter + 1) (omega arith)) in
        opens_new ∙ rw a

    module _ (f : Fit g w) (left : s.counter < last_counter) (calm : Spared plan w.dev.place) where
      abbrev i : ℕ
      i = get_or s.queue 0 0

      abbrev shorter : Dev
      shorter = data_truncate_m plan g i 0 w.dev

      inside : i < length w.dev.phys
      inside = omega (arith, first_held_lem path s f.valid free left, f.slots)

      -- the truncate is done
      done : fine_m shorter ≡ true
      unfolding stops
      done =
          let n = calm in
          let c = truncate i 0 in
          let q : not (stops (turn plan w.dev.place)) ≡ true =
          rw (ne_eqb (turn plan w.dev.place) 1 n.0, ne_eqb (turn plan w.dev.place) 2 n.1) in
          let a = acts plan g w.dev c f.shape inside refl in
          ap fine_m (sym a) ∙ sym ((memory plan g).last_ok w.dev c f.shape inside refl refl)
          ∙ (memory plan g).calm_ok w.dev c f.shape inside refl q f.shape.least

      opens : open_write_m plan g path keep w ≡ outcome 0 (handle i s.counter 0) (world shorter (created path true s))
      unfolding open_new_m create_m
      opens =
          let a : admits_new path s ≡ 0 = admits ∙ rw (le-ltb last_counter (s.counter + 1) (omega arith)) in
          let z : shorter.place.last ≡ 0 = eqb-true shorter.place.last 0 done in
          opens_new ∙ rw (a, z)

      row_is : at (created path true s).rows i ≡ bound path (file s.counter 0 true)
      unfolding created binds registers with_dirs with_row spent unqueued
      row_is = get_or-set_same s.rows i (bound path (file s.counter 0 true)) none (first_held_lem path s f.valid free left)

-- ---- a read and a rename

module _ (plan : List ℕ) (g : Geometry) (w : World) where
  module _ (i generation pos : ℕ) (buf : List ℕ) (live : is_live i generation w.state.rows ≡ true) where
    past : len_of (at w.state.rows i) ≤ pos → read_at_m plan g i generation pos buf w ≡ outcome 0 (filling 0 buf) w
    unfolding read_at_m
    past h = let z : leb (len_of (at w.state.rows i)) pos ≡ true = le-leb (len_of (at w.state.rows i)) pos h in rw (live, z)

    -- before the length it is the device's read
    abbrev want : ℕ
    want = min (length buf) (len_of (at w.state.rows i) - pos)

    abbrev bs : List ℕ
    bs = given plan g i (512 + pos) want w.dev

    few : length bs ≤ want
    unfolding given
    few = go (eqb (turn plan w.dev.place) 1)
      where
        n : ℕ
        n = share (turn plan w.dev.place) (min want (phys_of i w.dev - (512 + pos)))

        go : (t : Bool) → length (cond t [] (take n (drop (i * g.size + (512 + pos)) w.dev.bytes))) ≤ want
        go true = omega arith
        go false =
            let s = share_le (turn plan w.dev.place) (min want (phys_of i w.dev - (512 + pos))) in
            omega (arith, length-take n (drop (i * g.size + (512 + pos)) w.dev.bytes), s)

    wide : length (take want buf) ≡ want
    wide = length-take-le want buf (omega arith)

    filled_with : laid (take want buf) 0 bs ++ drop want buf ≡ bs ++ drop (length bs) buf
    filled_with =
        sym (laid_append (take want buf) (drop want buf) bs 0 (omega (arith, few, wide)))
        ∙ ap (λ (l : List ℕ). laid l 0 bs) (take-append-drop want buf)
        ∙ laid_front buf bs

    before : pos < len_of (at w.state.rows i)
        → read_at_m plan g i generation pos buf w
        ≡ outcome (seen plan w.dev.place).last (filling (length bs) (bs ++ drop (length bs) buf))
        (world (dev w.dev.bytes w.dev.phys (seen plan w.dev.place)) w.state)
    unfolding read_at_m read_part data_read_m read_m
    before h =
        let z : leb (len_of (at w.state.rows i)) pos ≡ false = lt-leb (len_of (at w.state.rows i)) pos h in
        rw (live, z, wide, filled_with)

  equal_paths : (from to : List ℕ) → length to ≤ max_path → same_path from to ≡ true
      → rename_m plan g from to w ≡ outcome (cond (is_file from w.state) 0 5) tt w
  unfolding rename_m front_m
  equal_paths from to short same = let z : ltb max_path (length to) ≡ false = le-ltb max_path (length to) short in rw (z, same)

-- a read that the plan leaves alone
module _ (plan : List ℕ) (g : Geometry) (i pos n : ℕ) (d : Dev) where
  seen_fine : turn plan d.place ≢ 1 → (seen plan d.place).last ≡ 0
  unfolding seen onward
  seen_fine one = rw (ne_eqb (turn plan d.place) 1 one)

  spared_gives : Shape g d.bytes d.phys → i < length d.phys → Spared plan d.place
      → given plan g i (512 + pos) n d ≡ take n (drop (512 + pos) (take (phys_of i d) (part_of g.size i d.bytes)))
  unfolding stops
  spared_gives s r u =
      let calm : not (stops (turn plan d.place)) ≡ true =
      rw (ne_eqb (turn plan d.place) 1 u.0, ne_eqb (turn plan d.place) 2 u.1) in
      rw (be_may plan g d (load i pos n) s r refl) at
      ((memory plan g).loaded d i pos n ((memory plan g).calm_ok d (load i pos n) s r refl calm tt))

-- ---- the rows

module _ (c : Setting) where
  abbrev x : Asked
  x = c.ask

  abbrev w : World
  w = view_w (lent_of x)

  abbrev R : Ready x.geometry (lent_of x)
  R = c.ready

  -- a call that no test refuses is the inner one
  pub goes : (a : Call) → x.call ≡ a → (takes_of a).mounts ≡ false → text_if (takes_of a).first x.first ≡ true
      → text_if (takes_of a).second x.second ≡ true
      → came_of c.left ≡ inner_m x.plan x.geometry a x.first x.second x.buf (lent_of x)
  goes a e m t u =
      as_call x c.left a c.made e ∙ on_pool x.plan x.geometry a x.first x.second x.buf (lent_of x) R m t u

  -- a call that changes nothing, in the buffers
  still : {A : Type 0} (n : ℕ) (r : A) (o : Outcome A World) → o ≡ outcome n r w → flat_o o ≡ outcome n r (lent_of x)
  still n r o e = ap flat_o e ∙ sym (stays n r (lent_of x) R.pool)

  module _ (keep : Bool) (is : x.call ≡ OpenWrite (Opening-of keep)) (t : is_text x.first ≡ true) where
    abbrev inner : Outcome Handle World
    inner = open_write_m x.plan x.geometry x.first keep w

    open_is : came_of c.left ≡ opened x.buf (flat_o inner)
    unfolding takes_of text_if inner_m
    open_is = goes (OpenWrite (Opening-of keep)) is refl t refl

    -- an open that is refused
    open_refused : (n : ℕ) → inner ≡ outcome n no_handle w → Unchanged c n
    open_refused n e = open_is ∙ ap (opened x.buf) (still n no_handle inner e)

  module _ (keep : Bool) (is : x.call ≡ OpenWrite (Opening-of keep)) (short : length x.first ≤ max_path)
      (N : NewFile x.first (state c)) where
    -- no generation is left
    pub open_nine : 0 < length (state c).queue → (state c).counter ≡ last_counter → Unchanged c 9
    unfolding view_w
    open_nine free e =
        open_refused keep is N.text 9 (none_left x.plan x.geometry x.first keep w short N.new N.dirs free e)

    open_done : Able c → Opens c
    unfolding view_w flat_o flat_w
    open_done A =
        let g = x.geometry in
        let path = x.first in
        let i = get_or (state c).queue 0 0 in
        let public = open_is keep is N.text in
        let f = ready_fit g (lent_of x) R in
        let e = opens x.plan g path keep w short N.new N.dirs A.free f A.left A.calm in
        let F = open_write_fit x.plan g w f path keep N.text in
        record {
          answer = ap (λ (x : Came). x.number) public ∙ ap (λ (o : Outcome Handle World). o.out) e;
          told = ap (λ (x : Came). x.told) public ∙ ap (λ (o : Outcome Handle World). (opened x.buf (flat_o o)).told) e;
          file =
              ap (λ (x : Came). at (view x.left.bufs).rows i) public
              ∙ ap (λ (t : State). at t.rows i) (view_flat (open_write_m x.plan g path keep w).left.state F.valid)
              ∙ ap (λ (o : Outcome Handle World). at o.left.state.rows i) e
              ∙ row_is x.plan g path keep w short N.new N.dirs A.free f A.left A.calm;
          buf = ap (λ (x : Came). x.buf) public;
        }

  pub p1 : P1 c
  unfolding P1
  p1 keep is = (
    λ short N A. open_done keep is short N A,
    λ long t. open_refused keep is t 4 (too_long_lem x.plan x.geometry x.first keep w long),
  )

  -- a live handle's slot is one of the device's
  live_inside : (i generation : ℕ) → is_live i generation (state c).rows ≡ true → i < length x.phys
  unfolding is_live view_w
  live_inside i generation live =
      let f = ready_fit x.geometry (lent_of x) R in
      omega (arith, f.slots, go (ltb i (length (state c).rows)) refl live)
    where
      go : (t : Bool) → ltb i (length (state c).rows) ≡ t
          → cond t (cond (is_bound (at (state c).rows i)) (eqb (gen_of (at (state c).rows i)) generation) false) false ≡ true
          → i < length (state c).rows
      go true e h = ltb-true i (length (state c).rows) e
      go false e h = absurd (false≢true h)

  pub p4 : P4 c
  unfolding P4 view_w flat_o flat_w takes_of text_if inner_m
  p4 i generation pos is live =
      let g = x.geometry in
      let b = x.buf in
      let e = goes (ReadAt i generation pos) is refl refl refl in
      let d = (lent_of x).dev in (
        λ h. e ∙ ap filled (still 0 (filling 0 b) _ (past x.plan g w i generation pos b live h)),
        λ h. e ∙ ap (λ (o : Outcome Filling World). filled (flat_o o)) (before x.plan g w i generation pos b live h)
            ∙ ap (λ (k : Bufs). came (seen x.plan x.at).last (telling 0 0 0 (length (gives c i pos)) false)
            (lent (dev x.bytes x.phys (seen x.plan x.at)) k) (gives c i pos ++ drop (length (gives c i pos)) b))
            R.pool.canon,
        λ u. (
          seen_fine x.plan g i pos (wanted c i pos) d u.0,
          spared_gives x.plan g i pos (wanted c i pos) d R.shape (live_inside i generation live) u,
        ),
      )

  unmoved : x.call ≡ Rename → is_text x.first ≡ true → is_text x.second ≡ true → length x.second ≤ max_path
      → same_path x.first x.second ≡ true → Unmoved c
  unfolding view_w takes_of text_if inner_m
  unmoved is t u short same =
      let e = goes Rename is refl t u in
      let r = equal_paths x.plan x.geometry w x.first x.second short same in (
        λ h. e ∙ ap (quiet x.buf) (still 0 tt _ (r ∙ rw h)),
        λ h. e ∙ ap (quiet x.buf) (still 5 tt _ (r ∙ rw h)),
      )

  pub p5 : P5 c
  unfolding P5 is_text walk_of step_of lead_of same_path same components opening names idle split cut grow
  p5 is = (
    λ a b.
        unmoved is (ap is_text a) (ap is_text b) (subst (λ (l : List ℕ). length l ≤ max_path) (sym b) (lit≤ tt))
        (ap₂ (λ (l k : List ℕ). same_path l k) a b),
    unmoved is,
  )
