-- `what_was_synced_is_found`: a header that was put whole is the slot's block (`put_block`), and an encoded header decodes to itself.
use Rattle.std.specs.Prelude.{Some}
use Prim.Native.Nat.{ℕ, ◌^◌, ◌≤◌, ◌<◌}
use native.Mathlib.Omega.{arith}
use mathlib.Core.Path.{◌≡◌, refl, sym, ap, ◌∙◌}
use mathlib.Core.Bool.{Bool, true, false, cond, false≢true}
use mathlib.Core.List.{List}
use lib.ListN.{length}
use borrow.Author.Tests.{eq-eqb, lt-ltb}
use Rattle.limits.specs.Limits.{max_path}
use Rattle.text.specs.Text.{is_text}
use Rattle.header.specs.Block.{block_len, decoded}
use Rattle.header.specs.Block as Block
use Rattle.header.specs.RoundTrip.{Fits}
use Rattle.header.proofs.BlockLaws.{length_encoded}
use Rattle.header.proofs.RoundTrip.{decode_encode, encoded_path}
use Rattle.device.specs.declared.Geometry.{Geometry}
use Rattle.device.specs.Device.{Dev, flush_m, header_write_m}
use Rattle.device.specs.Calls.{block_of}
use Rattle.slot_rows.specs.Rows.{Row, at, path_of, gen_of, len_of, is_dirty}
use Rattle.pool_steps.specs.World.{World, world, view_w, flat_w, Fit}
use Rattle.pool_steps.specs.Steps.{fine_m, put_m, row_header, row_block, sync_row_m}
use Rattle.pool_steps.specs.Outcome.{outcome, by_device, flat_o}
use Rattle.pool_steps.proofs.Stays.{ready_fit}
use Rattle.device_lent.proofs.Puts.{put_block, put_stopped}
use Rattle.mount_survey.specs.Heads.{said_of, head_of}
use Rattle.inner_handle.specs.Handles.{is_live, sync_m}
use Rattle.inner_handle.proofs.Stays.{live_means}
use Rattle.calls_gate.specs.declared.Call.TheVariants.{Sync}
use Rattle.calls_gate.specs.Replies.{Came}
use Rattle.calls_gate.specs.Table.{takes_of}
use Rattle.calls_gate.specs.Calls.{inner_m}
use Rattle.calls_gate.proofs.Passed.{is_ready}
use Rattle.promises_calls.specs.Bytes.{Synced, WhatWasSyncedIsFound}
use Rattle.calls_gate.proofs.Inward.{goes_in, not_refused}

-- ---- a row's block

-- The block of a row says the row.
module _ (g : Geometry) (slot : ℕ) (r : Row) (d : Dev) (block : block_of g slot d ≡ row_block r) (text : is_text (path_of r) ≡ true)
    (short : length (path_of r) ≤ max_path) (len : len_of r < 2 ^ 64) (gen : gen_of r < 2 ^ 64) where
  fits : Fits (row_header r) (path_of r)
  unfolding row_header
  fits = record { same_length = refl; short = short; len_fits = len; generation_fits = gen }

  long : length (row_block r) ≡ block_len
  long = length_encoded (row_header r) (path_of r) short

  decodes : decoded (block_of g slot d) (length (block_of g slot d)) ≡ Some (row_header r)
  decodes =
      ap (λ (b : List ℕ). decoded b (length b)) block ∙ ap (decoded (row_block r)) long ∙ decode_encode (row_header r) (path_of r) fits text

  path_is : Block.path_of (block_of g slot d) ≡ path_of r
  path_is = ap Block.path_of block ∙ encoded_path (row_header r) (path_of r) fits text

  row_synced : Synced g slot r d
  unfolding row_header head_of
  row_synced = record {
    decodes = decodes;
    path = path_is;
    claims = λ h. ap (said_of (block_of g slot d)) decodes ∙ rw (lt-ltb 0 (length (path_of r)) h, path_is) refl;
  }

-- ---- the sync, on what the buffers hold

module _ (plan : List ℕ) (g : Geometry) (slot generation : ℕ) (w : World) (F : Fit g w) (z : (sync_m plan g slot generation w).out ≡ 0)
    (dirty : is_dirty (at w.state.rows slot) ≡ true) where
  abbrev row : Row
  row = at w.state.rows slot

  abbrev put : Dev
  put = put_m plan g slot (row_block row) w.dev

  -- The handle is live, and the header was written and flushed.
  took : (is_live slot generation w.state.rows ≡ true) × (put.place.last ≡ 0)
  unfolding sync_m sync_row_m
  took = go (is_live slot generation w.state.rows) (is_dirty row) refl dirty z
    where
      go : (t u : Bool) → is_live slot generation w.state.rows ≡ t → u ≡ true
          → (cond t (by_device (cond u (sync_row_m plan g slot w) (world (flush_m plan w.dev) w.state))) (outcome 6 tt w)).out ≡ 0
          → (is_live slot generation w.state.rows ≡ true) × (put.place.last ≡ 0)
      go true true e k q = (e, q)
      go true false e k q = absurd (false≢true k)
      go false u e k q = absurd (omega arith)

  put_is : (sync_m plan g slot generation w).left.dev ≡ put
  unfolding sync_m sync_row_m
  put_is = rw (took.0, dirty) refl

  block_is : block_of g slot put ≡ row_block row
  block_is =
      let i = (live_means slot generation w.state.rows took.0).0 in
      let r : slot < length w.dev.phys = omega (arith, i, F.slots) in
      go r (fine_m (header_write_m plan g slot (row_block row) w.dev)) refl
    where
      long_row : length (row_block row) ≡ 512
      long_row = length_encoded (row_header row) (path_of row) (F.valid.slots.short slot)

      go : slot < length w.dev.phys → (t : Bool) → fine_m (header_write_m plan g slot (row_block row) w.dev) ≡ t
          → block_of g slot put ≡ row_block row
      go r true e = put_block plan g slot w.dev F.shape r (row_block row) long_row e
      go r false e =
          let p = (put_stopped plan g slot w.dev F.shape r (row_block row) long_row e).0 in
          absurd (false≢true (sym (ap fine_m p ∙ e) ∙ eq-eqb put.place.last 0 took.1))

  sync_finds : len_of row < 2 ^ 64 → Synced g slot row (sync_m plan g slot generation w).left.dev
  sync_finds len =
      rw put_is
      (row_synced g slot row put block_is (F.valid.slots.text slot) (F.valid.slots.short slot) len
      (omega (arith, F.valid.slots.young slot, F.valid.counts.counted)))

-- ---- the public call

pub what_was_synced_is_found : WhatWasSyncedIsFound
unfolding inner_m takes_of flat_o flat_w view_w
what_was_synced_is_found plan g slot generation one two buf l z dirty len =
    let c = Sync slot generation in
    let no = not_refused plan g c one two buf l z in
    let e = goes_in plan g c one two buf l no in
    let F = ready_fit g l (is_ready g c one two l no refl) in
    rw e (sync_finds plan g slot generation (view_w l) F (sym (ap (λ (x : Came). x.number) e) ∙ z) dirty len)
