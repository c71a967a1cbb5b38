-- `what_was_written_is_read`: the device gives back what was written and keeps what lies beside it (device, WrittenRead); here, that the
-- handle is live still and the file as long.
use Prim.Native.Nat.{ℕ, ◌+◌, ◌-◌, ◌*◌, ◌≤◌, ◌<◌, min, max}
use native.Mathlib.Omega.{arith}
use mathlib.Core.Path.{◌≡◌, refl, sym, ap, ◌∙◌, subst}
use mathlib.Core.Logic.{◌≢◌, ◌⊎◌}
use mathlib.Core.Bool.{Bool, true, false, cond, false≢true}
use mathlib.Core.List.{List, [], ◌∷◌, append-nil}
use lib.Dec.{eqb, leb}
use lib.ListN.{length, get_or, set, take, drop, length-set, drop_of_length-le}
use lib.Seq.{get_or-set_same, get_or-set_other, take_all, drop-cons}
use borrow.Author.Tests.{lt-ltb, eq-eqb, leb-true, not-true}
use Rattle.lists.specs.Bools.{both}
use Rattle.le.proofs.Parts.{laid_whole}
use Rattle.device.specs.declared.Geometry.{Geometry}
use Rattle.device.specs.Device.{Dev, turn, onward, noted, phys_of, given, seen, stored}
use Rattle.device.specs.Device.{read_m, data_read_m, data_write_m}
use Rattle.device.specs.Slots.{part_of}
use Rattle.device.specs.AnyDevice.{store}
use Rattle.device.specs.Calls.{read_all}
use Rattle.device.proofs.CallByCall.{acts, part_size}
use Rattle.device.proofs.Memory.{memory}
use Rattle.device.proofs.WrittenRead.{wrote_is, given_back, byte_stays}
use Rattle.slot_rows.specs.Rows.{Row, unbound, bound, none, at, is_bound, gen_of, len_of, refiled, resized}
use Rattle.slot_rows.proofs.InBuffers.{resized_bound, resized_gen}
use Rattle.pool_state.specs.State.{view}
use Rattle.pool_state.specs.Changes.{with_row}
use Rattle.pool_steps.specs.World.{World, world, Lent, view_w, flat_w, Fit, Ready}
use Rattle.pool_steps.specs.Steps.{fine_m}
use Rattle.pool_steps.specs.Outcome.{Outcome, outcome, by_device, flat_o}
use Rattle.pool_steps.proofs.Stays.{ready_fit, world_is}
use Rattle.device.specs.Calls.{SlotStays}
use Rattle.inner_handle.specs.Handles.{is_live, Filling, filling, read_part, read_at_m, resized_m, write_at_m}
use Rattle.inner_handle.proofs.Stays.{live_means, write_at_fit}
use Rattle.calls_gate.specs.declared.Call.TheVariants.{ReadAt, WriteAt}
use Rattle.calls_gate.specs.Replies.{Came}
use Rattle.calls_gate.specs.Table.{takes_of, text_if}
use Rattle.calls_gate.specs.Calls.{filled, inner_m, call_p}
use Rattle.calls_gate.proofs.Passed.{is_ready}
use Rattle.promises_calls.specs.Bytes.{row_in, byte_at, Written, WhatWasWrittenIsRead}
use Rattle.calls_gate.proofs.Inward.{goes_in, not_refused, on_pool}

-- ---- bytes

-- Two lists with one run of a byte at place k have that byte.
byte_of : (p q : List ℕ) (k : ℕ) → k < length p → k < length q → take 1 (drop k p) ≡ take 1 (drop k q) → get_or p k 0 ≡ get_or q k 0
byte_of p q k h j e =
    let a : get_or (take 1 (drop k p)) 0 0 ≡ get_or p k 0 = rw (drop-cons p k 0 h) refl in
    let b : get_or (take 1 (drop k q)) 0 0 ≡ get_or q k 0 = rw (drop-cons q k 0 j) refl in
    sym a ∙ ap (λ (x : List ℕ). get_or x 0 0) e ∙ b

no_bytes : (l : List ℕ) → length l ≡ 0 → l ≡ []
no_bytes [] e = refl
no_bytes (x ∷ l) e = absurd (omega arith)

-- ---- the write, on what the buffers hold

resized_len : (n : ℕ) (e : Bool) (r : Row) → is_bound r ≡ true → len_of (resized n e r) ≡ n
unfolding resized refiled len_of is_bound
resized_len n e (unbound g) b = absurd (false≢true b)
resized_len n e (bound p f) b = refl

module _ (plan : List ℕ) (g : Geometry) (slot generation pos : ℕ) (b : List ℕ) (w : World) (F : Fit g w)
    (z : (write_at_m plan g slot generation pos b w).out ≡ 0) where
  abbrev d' : Dev
  d' = data_write_m plan g slot pos b w.dev

  abbrev row : Row
  row = at w.state.rows slot

  abbrev len : ℕ
  len = max (len_of row) (pos + length b)

  abbrev after : World
  after = world d' (with_row slot (resized len true row) w.state)

  -- The handle is live, and the device call was done.
  took : (is_live slot generation w.state.rows ≡ true) × (d'.place.last ≡ 0)
  unfolding write_at_m resized_m
  took = go (is_live slot generation w.state.rows) refl z
    where
      go : (t : Bool) → is_live slot generation w.state.rows ≡ t
          → (cond t (by_device (resized_m d' slot len w.state)) (outcome 6 tt w)).out ≡ 0
          → (is_live slot generation w.state.rows ≡ true) × (d'.place.last ≡ 0)
      go true e q = (e, q)
      go false e q = absurd (omega arith)

  left_is : (write_at_m plan g slot generation pos b w).left ≡ after
  unfolding write_at_m resized_m
  left_is = let y : fine_m d' ≡ true = eq-eqb d'.place.last 0 took.1 in rw (took.0, y) refl

  live : (slot < length w.state.rows) × (is_bound row ≡ true) × (gen_of row ≡ generation)
  live = live_means slot generation w.state.rows took.0

  inside : slot < length w.dev.phys
  inside = omega (arith, live.0, F.slots)

  stored_is : (d' ≡ noted plan 0 (stored g slot (512 + pos) b w.dev)) × (512 + pos + length b ≤ g.size)
  unfolding data_write_m
  stored_is = wrote_is plan g slot (512 + pos) b w.dev took.1

  rows_then_lem : at after.state.rows slot ≡ resized len true row
  unfolding with_row
  rows_then_lem = get_or-set_same w.state.rows slot (resized len true row) none live.0

  still_live : is_live slot generation after.state.rows ≡ true
  unfolding is_live with_row
  still_live =
      let rs = set w.state.rows slot (resized len true row) in
      let n : slot < length rs = rw length-set live.0 in
      let i : is_bound (at rs slot) ≡ true = ap is_bound rows_then_lem ∙ resized_bound len true row ∙ live.1 in
      let k : gen_of (at rs slot) ≡ generation = ap gen_of rows_then_lem ∙ resized_gen len true row ∙ live.2 in
      rw (lt-ltb _ _ n, i, eq-eqb _ _ k)

  long : len_of (at after.state.rows slot) ≡ len
  long = ap len_of rows_then_lem ∙ resized_len len true row live.1

  fit_then : Fit g after
  fit_then = subst (Fit g) left_is (write_at_fit plan g slot generation w F pos b)

  inside_then : slot < length d'.phys
  unfolding with_row
  inside_then = omega (arith, fit_then.slots, length-set w.state.rows slot (resized len true row), live.0)

  -- ---- a read of the range

  module _ (plan' into : List ℕ) (n : length into ≡ length b) (calm : read_all (turn plan' d'.place) (length b) ≡ true) where
    abbrev byte : ℕ
    byte = turn plan' d'.place

    given_is : given plan' g slot (512 + pos) (length b) d' ≡ b
    given_is =
        given_back g w.dev slot F.shape inside pos b stored_is.1 plan' plan d' stored_is.0 fit_then.shape inside_then calm

    Gives : Outcome Filling World → Type 0
    Gives o = (o.out ≡ 0) × (o.results.count ≡ length b) × (o.results.buf ≡ b)

    part_gives : Gives (read_part plan' g slot pos into after)
    unfolding Gives read_part data_read_m read_m seen onward read_all
    part_gives =
        let want : min (length into) (len_of (at after.state.rows slot) - pos) ≡ length into = omega (arith, long, n) in
        let one : eqb byte 1 ≡ false = not-true (eqb byte 1) (both _ _ calm).0 in
        let t : take (length into) into ≡ into = take_all (length into) into (omega arith) in
        let k : length into ≤ length into = omega arith in
        let r : drop (length into) into ≡ [] = drop_of_length-le into k in
        rw (want, t, r, n, given_is, one) (refl, refl, append-nil _ ∙ laid_whole into b (sym n))

    read_gives : Gives (read_at_m plan' g slot generation pos into after)
    unfolding Gives read_at_m
    read_gives = rw still_live (go (leb (len_of (at after.state.rows slot)) pos) refl)
      where
        go : (t : Bool) → leb (len_of (at after.state.rows slot)) pos ≡ t
            → Gives (cond t (outcome 0 (filling 0 into) after) (read_part plan' g slot pos into after))
        go true e =
            let k : len ≤ pos = omega (arith, long, leb-true (len_of (at after.state.rows slot)) pos e) in
            let z : length b ≡ 0 = omega arith in
            (refl, sym z, no_bytes into (n ∙ z) ∙ sym (no_bytes b z))
        go false e = part_gives

-- ---- the public calls

module _ (plan : List ℕ) (g : Geometry) (slot generation pos : ℕ) (b : List ℕ) (l : Lent) (F : Fit g (view_w l))
    (y : (write_at_m plan g slot generation pos b (view_w l)).out ≡ 0) where
  abbrev then : World
  then = after plan g slot generation pos b (view_w l) F y

  held : (view_w (flat_w then) ≡ then) × Ready g (flat_w then)
  held = world_is g then (flat_w then) (fit_then plan g slot generation pos b (view_w l) F y) refl

  rest_stays : (k : ℕ) → k < phys_of slot l.dev → (k < 512 + pos) ⊎ (512 + pos + length b ≤ k)
      → byte_at g then.dev slot k ≡ byte_at g l.dev slot k
  unfolding view_w
  rest_stays k h e =
      let w = view_w l in
      let r = inside plan g slot generation pos b w F y in
      let q = stored_is plan g slot generation pos b w F y in
      let s = (fit_then plan g slot generation pos b w F y).shape in
      let n = part_size plan g l.dev slot F.shape r in
      let m = part_size plan g then.dev slot s (inside_then plan g slot generation pos b w F y) in
      byte_of _ _ k (omega (arith, m, F.shape.within slot r)) (omega (arith, n, F.shape.within slot r))
      (ap (λ (x : Dev). take 1 (drop k (part_of g.size slot x.bytes))) q.0
      ∙ byte_stays g l.dev slot F.shape r (512 + pos) b q.1 k h e)

  slot_stays : (j : ℕ) → j ≢ slot → SlotStays g j l.dev then.dev
  unfolding view_w
  slot_stays j ne =
      let c = store slot pos b in
      let r = inside plan g slot generation pos b (view_w l) F y in
      subst (SlotStays g j l.dev) (acts plan g l.dev c F.shape r refl) ((memory plan g).other_stays l.dev c j ne)

  row_stays : (j : ℕ) → j ≢ slot → row_in (flat_w then) j ≡ row_in l j
  unfolding view_w with_row
  row_stays j ne =
      ap (λ (v : World). at v.state.rows j) held.0
      ∙ get_or-set_other (view l.bufs).rows slot j (resized (len plan g slot generation pos b (view_w l) F y) true _) none ne

  done : Written g slot generation pos b l (flat_w then)
  unfolding inner_m takes_of text_if flat_o flat_w Gives
  done = record {
    reads = λ plan' one two into n calm.
        let q = on_pool plan' g (ReadAt slot generation pos) one two into (flat_w then) held.1 refl refl refl
        ∙ ap (λ (v : World). filled (flat_o (read_at_m plan' g slot generation pos into v))) held.0 in
        let G = read_gives plan g slot generation pos b (view_w l) F y plan' into n calm in
        (ap (λ (x : Came). x.number) q ∙ G.0, ap (λ (x : Came). x.told.count) q ∙ G.1, ap (λ (x : Came). x.buf) q ∙ G.2);
    rest = rest_stays;
    others = λ j ne. (slot_stays j ne, row_stays j ne);
  }

pub what_was_written_is_read : WhatWasWrittenIsRead
unfolding inner_m takes_of text_if flat_o flat_w view_w Gives with_row
what_was_written_is_read plan g slot generation pos b two buf l z =
    let c = WriteAt slot generation pos in
    let no = not_refused plan g c b two buf l z in
    let e = goes_in plan g c b two buf l no in
    let w = view_w l in
    let F = ready_fit g l (is_ready g c b two l no refl) in
    let y : (write_at_m plan g slot generation pos b w).out ≡ 0 = sym (ap (λ (x : Came). x.number) e) ∙ z in
    let left : (call_p plan g c b two buf l).left ≡ flat_w (after plan g slot generation pos b w F y) =
    ap (λ (x : Came). x.left) e ∙ ap flat_w (left_is plan g slot generation pos b w F y) in
    rw left (done plan g slot generation pos b l F y)
