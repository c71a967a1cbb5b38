-- The statements of specs/SlotOutcomes.antt: what a refusal leaves, what was written is read, and what was synced is decoded.
use Rattle.std.specs.Prelude.{Some}
use Prim.Native.Nat.{ℕ, ◌+◌, ◌≤◌, ◌<◌}
use native.Mathlib.Omega.{arith}
use mathlib.Core.Path.{◌≡◌, refl, sym, ap, ◌∙◌}
use mathlib.Core.Logic.{◌⊎◌, inl, inr}
use mathlib.Core.Bool.{Bool, true, false, cond, ◌||◌, false≢true}
use mathlib.Core.List.{List, []}
use borrow.Author.Tests.{eq-eqb, eqb-true}
use lib.Dec.{eqb, ltb}
use lib.ListN.{length, take}
use Rattle.le.proofs.Parts.{laid_whole}
use Rattle.header.specs.Block.{block_len, encoded, path_of, decoded}
use Rattle.header.specs.RoundTrip.{Fits}
use Rattle.header.proofs.BlockLaws.{length_encoded}
use Rattle.header.proofs.RoundTrip.{decode_encode, encoded_path}
use Rattle.device.specs.declared.Geometry.{Geometry}
use Rattle.device.specs.Device.{Dev, Shape, Read, read, turn, onward, noted, share, stops, short, stores}
use Rattle.device.specs.Device.{given, seen, read_m}
use Rattle.device.specs.Device.{stored, write_m, cut, truncate_m, flushed, flush_m, header_read_m, header_write_m}
use Rattle.device.specs.Device.{shape_b, data_read_m, data_write_m, data_truncate_m}
use Rattle.device.specs.AnyDevice.{header, flush, look, store}
use Rattle.device.specs.Calls.{block_of, read_all}
use Rattle.device.proofs.Shapes.{shape_means}
use Rattle.device.proofs.CallByCall.{be_may, call_shape, call_slots, call_calm, look_given}
use Rattle.device.proofs.WrittenRead.{wrote_is, given_back}
use Rattle.device_lent.specs.Put.{put_m, fine_m}
use Rattle.device_lent.proofs.Puts.{put_block}
use Rattle.slot_calls.specs.SlotCalls.{SlotDone, slot_done, slot_read, done_by, read_by, slot_refusal, unless_refused, synced_header}
use Rattle.slot_calls.specs.SlotCalls.{read_slot_m, write_slot_m, sync_slot_m, flush_slot_m, truncate_slot_m}
use Rattle.slot_calls.specs.SlotOutcomes.{Refusing, ReadRefusedStays, WriteRefusedStays, SyncRefusedStays, FlushRefusedStays}
use Rattle.slot_calls.specs.SlotOutcomes.{TruncateRefusedStays, ReadBack, SyncedDecodes}
use Rattle.slot_calls.proofs.Ways.{Passed, passed, not_refused}

-- ---- what a device call comes to is no refusal

-- 0, or 10 and more.
abbrev Comes : ℕ → Type 0
Comes n = (n ≡ 0) ⊎ (10 ≤ n)

no_refusal : (n : ℕ) → Comes n → Refusing n → ⊥
no_refusal n c r = go c (few r)
  where
    few : Refusing n → (2 ≤ n) × (n ≤ 6)
    few (inl e) = (omega arith, omega arith)
    few (inr (inl e)) = (omega arith, omega arith)
    few (inr (inr (inl e))) = (omega arith, omega arith)
    few (inr (inr (inr e))) = (omega arith, omega arith)

    go : Comes n → (2 ≤ n) × (n ≤ 6) → ⊥
    go (inl e) f = omega (arith, f.0)
    go (inr l) f = omega (arith, f.1)

ten_or_none : (t : Bool) → Comes (cond t 10 0)
ten_or_none true = inr (omega arith)
ten_or_none false = inl refl

module _ (plan : List ℕ) (g : Geometry) where
  write_comes : (slot pos : ℕ) (src : List ℕ) (d : Dev) → Comes (write_m plan g slot pos src d).place.last
  unfolding write_m onward short
  write_comes slot pos src d =
      go (eqb (turn plan d.place) 1) (ltb g.size pos) (ltb (stores (turn plan d.place) g.size pos (length src)) (length src))
    where
      go : (s t u : Bool) → Comes (cond s (noted plan 10 d) (cond t (noted plan 10 d) (noted plan (cond u 11 0)
          (stored g slot pos (take (stores (turn plan d.place) g.size pos (length src)) src) d)))).place.last
      go true t u = inr (omega arith)
      go false true u = inr (omega arith)
      go false false true = inr (omega arith)
      go false false false = inl refl

  flush_comes : (d : Dev) → Comes (flush_m plan d).place.last
  unfolding flush_m flushed onward
  flush_comes d = ten_or_none (stops (turn plan d.place))

  read_comes : (slot pos : ℕ) (dst : List ℕ) (d : Dev) → Comes (read_m plan g slot pos dst d).got.place.last
  unfolding read_m seen onward
  read_comes slot pos dst d = ten_or_none (eqb (turn plan d.place) 1)

  cut_comes : (slot len : ℕ) (d : Dev) → Comes (truncate_m plan g slot len d).place.last
  unfolding truncate_m onward
  cut_comes slot len d = go (stops (turn plan d.place)) (ltb g.size len)
    where
      go : (s t : Bool) → Comes (cond s (noted plan 10 d) (cond t (noted plan 10 d) (noted plan 0 (cut g slot len d)))).place.last
      go true t = inr (omega arith)
      go false true = inr (omega arith)
      go false false = inl refl

  put_comes : (slot : ℕ) (block : List ℕ) (d : Dev) → Comes (put_m plan g slot block d).place.last
  unfolding put_m header_write_m
  put_comes slot block d = go (fine_m (write_m plan g slot 0 block d))
    where
      go : (t : Bool) → Comes (cond t (flush_m plan (write_m plan g slot 0 block d)) (write_m plan g slot 0 block d)).place.last
      go true = flush_comes (write_m plan g slot 0 block d)
      go false = write_comes slot 0 block d

-- ---- what a refusal leaves

stays : (g : Geometry) (path : List ℕ) (slot : ℕ) (d : Dev) (made : SlotDone) → Comes made.number
    → Refusing (unless_refused g path slot d made).number → (unless_refused g path slot d made).dev ≡ d
stays g path slot d made c = go (eqb (slot_refusal g d.bytes d.phys path slot) 0)
  where
    go : (t : Bool) → Refusing (cond t made (slot_done (slot_refusal g d.bytes d.phys path slot) d)).number
        → (cond t made (slot_done (slot_refusal g d.bytes d.phys path slot) d)).dev ≡ d
    go true r = absurd (no_refusal made.number c r)
    go false r = refl

pub read_refused_stays : ReadRefusedStays
unfolding read_slot_m data_read_m
read_refused_stays plan g slot at buf d = go (eqb n 0)
  where
    n : ℕ
    n = slot_refusal g d.bytes d.phys [] slot

    go : (t : Bool) → Refusing (cond t (read_by d (read_m plan g slot (512 + at) buf d)) (slot_read n 0 buf d)).number
        → cond t (read_by d (read_m plan g slot (512 + at) buf d)) (slot_read n 0 buf d)
        ≡ slot_read (cond t (read_by d (read_m plan g slot (512 + at) buf d)) (slot_read n 0 buf d)).number 0 buf d
    go true r = absurd (no_refusal _ (read_comes plan g slot (512 + at) buf d) r)
    go false r = refl

pub write_refused_stays : WriteRefusedStays
unfolding write_slot_m data_write_m
write_refused_stays plan g slot at src d = stays g [] slot d _ (write_comes plan g slot (512 + at) src d)

pub sync_refused_stays : SyncRefusedStays
unfolding sync_slot_m
sync_refused_stays plan g slot in_use path len generation d = stays g path slot d _ (put_comes plan g slot _ d)

pub flush_refused_stays : FlushRefusedStays
unfolding flush_slot_m
flush_refused_stays plan g slot d = stays g [] slot d _ (flush_comes plan g d)

pub truncate_refused_stays : TruncateRefusedStays
unfolding truncate_slot_m data_truncate_m
truncate_refused_stays plan g slot len d = stays g [] slot d _ (cut_comes plan g slot (512 + len) d)

-- ---- a call that answers 0

-- It was not refused, the device is the made call's, and that came to 0.
record Went (g : Geometry) (path : List ℕ) (slot : ℕ) (d made w : Dev) : Type 0 where
  let-in : Passed g d.bytes d.phys path slot
  is_made : w ≡ made
  fine : made.place.last ≡ 0

went : (g : Geometry) (path : List ℕ) (slot : ℕ) (d made w : Dev) → w ≡ (unless_refused g path slot d (done_by made)).dev
    → (unless_refused g path slot d (done_by made)).number ≡ 0 → Went g path slot d made w
went g path slot d made w e z = go (eqb n 0) refl e z
  where
    n : ℕ
    n = slot_refusal g d.bytes d.phys path slot

    go : (t : Bool) → eqb n 0 ≡ t → w ≡ (cond t (done_by made) (slot_done n d)).dev → (cond t (done_by made) (slot_done n d)).number ≡ 0
        → Went g path slot d made w
    go true q f k = record { let-in = passed g d.bytes d.phys path slot (sym (eqb-true n 0 q)); is_made = f; fine = k }
    go false q f k = absurd (false≢true (sym q ∙ eq-eqb n 0 k))

-- what the plan leaves alone
calm : (byte : ℕ) → stops byte ≡ false → (eqb byte 1 ≡ false) × (eqb byte 2 ≡ false)
unfolding stops
calm byte = go (eqb byte 1) (eqb byte 2)
  where
    go : (t u : Bool) → (t || u) ≡ false → (t ≡ false) × (u ≡ false)
    go true u e = absurd (false≢true (sym e))
    go false true e = absurd (false≢true (sym e))
    go false false e = (refl, refl)

-- ---- what was written is read

-- a read that the plan leaves alone gives all
calm_all : (byte n : ℕ) → stops byte ≡ false → read_all byte n ≡ true
unfolding read_all share
calm_all byte n c = let a = calm byte c in rw (a.0, a.1) (eq-eqb n n refl)

-- a read that gives all of ys into a buffer of that length
read_all_lem : (plan : List ℕ) (g : Geometry) (slot pos : ℕ) (ys dst : List ℕ) (w : Dev) → length ys ≡ length dst
    → given plan g slot pos (length dst) w ≡ ys
    → read_m plan g slot pos dst w ≡ read ys (record { count = length ys; place = seen plan w.place })
unfolding read_m
read_all_lem plan g slot pos ys dst w l e =
    rw e (ap (λ (x : List ℕ). read x (record { count = length ys; place = seen plan w.place })) (laid_whole dst ys l))

pub read_back : ReadBack
unfolding write_slot_m data_write_m data_read_m read_slot_m seen onward
read_back plan g slot at src buf d w e z l c =
    let x = went g [] slot d (write_m plan g slot (512 + at) src d) w e z in
    let y = wrote_is plan g slot (512 + at) src d x.fine in
    let t = call_shape plan g d (store slot at src) x.let-in.shape x.let-in.row in
    let k = call_slots plan g d (store slot at src) in
    let i = x.is_made in
    let sh : shape_b g w.bytes w.phys ≡ true = rw i ((shape_means g _ _).1 t) in
    let r : slot < length w.phys = rw i (omega (arith, k, x.let-in.row)) in
    let nr = not_refused g w.bytes w.phys [] slot sh x.let-in.text x.let-in.short r in
    let a = calm_all (turn plan w.place) (length src) c in
    let gs : Shape g w.bytes w.phys = rw i t in
    let gv : given plan g slot (512 + at) (length src) w ≡ src =
    given_back g d slot x.let-in.shape x.let-in.row at src y.1 plan plan w (i ∙ y.0) gs r a in
    let ra = read_all_lem plan g slot (512 + at) src buf w (sym l) (rw l gv) in
    let o = (calm (turn plan w.place) c).0 in
    rw (← nr, ra, o)

-- ---- what was synced is decoded

module _ (plan : List ℕ) (g : Geometry) (slot : ℕ) (d : Dev) (path ys : List ℕ)
    (p : Passed g d.bytes d.phys path slot) (o : length ys ≡ 512) where
  abbrev stored_header : Dev
  stored_header = header_write_m plan g slot ys d

  -- a header put with all done was written whole, and then flushed
  was_written : (put_m plan g slot ys d).place.last ≡ 0 → fine_m stored_header ≡ true
  unfolding put_m
  was_written = go (fine_m stored_header) refl
    where
      go : (t : Bool) → fine_m stored_header ≡ t → (cond t (flush_m plan stored_header) stored_header).place.last ≡ 0 → t ≡ true
      go false q z = sym q ∙ eq-eqb _ _ z
      go true q z = refl

  put_is : fine_m stored_header ≡ true → put_m plan g slot ys d ≡ flush_m plan stored_header
  unfolding put_m
  put_is f = rw f

  -- a header read that the plan leaves alone gives it
  looks : (into : List ℕ) (w : Dev) → w ≡ put_m plan g slot ys d → fine_m stored_header ≡ true → length into ≡ block_len
      → stops (turn plan w.place) ≡ false
      → header_read_m plan g slot into w ≡ read ys (record { count = length ys; place = seen plan w.place })
  unfolding header_read_m
  looks into w e f l c =
      let k = e ∙ put_is f in
      let s₁ = call_shape plan g d (header slot ys) p.shape p.row in
      let r₁ : slot < length stored_header.phys = omega (arith, call_slots plan g d (header slot ys), p.row) in
      let s : Shape g w.bytes w.phys = rw k (call_shape plan g stored_header (flush slot) s₁ r₁) in
      let r : slot < length w.phys = rw k (omega (arith, call_slots plan g stored_header (flush slot), r₁)) in
      let bw : block_of g slot w ≡ ys = ap (block_of g slot) e ∙ put_block plan g slot d p.shape p.row ys o f in
      let m = be_may plan g w (look slot) s r refl in
      let ok = call_calm plan g w (look slot) s refl c tt in
      let v : given plan g slot 0 512 w ≡ block_of g slot w = rw m at (look_given plan g w slot (rw m ok)) in
      read_all_lem plan g slot 0 ys into w (o ∙ sym l) (rw l (v ∙ bw))

pub synced_decodes : SyncedDecodes
unfolding sync_slot_m
synced_decodes plan g slot in_use path len generation into d w e ln gn z l c =
    let h = synced_header in_use path len generation in
    let ys = encoded h path in
    let x = went g path slot d (put_m plan g slot ys d) w e z in
    let p = x.let-in in
    let f : Fits h path = record { same_length = refl; short = p.short; len_fits = ln; generation_fits = gn } in
    let o : length ys ≡ 512 = length_encoded h path p.short in
    let q = was_written plan g slot d path ys p o x.fine in
    let r = looks plan g slot d path ys p o into w x.is_made q l c in
    let dec : decoded ys block_len ≡ Some h = decode_encode h path f p.text in
    record {
      header = ap (λ (y : Read). decoded y.dst y.got.count) r ∙ ap (decoded ys) o ∙ dec;
      path_bytes = ap (λ (y : Read). path_of y.dst) r ∙ encoded_path h path f p.text;
    }
