-- The slot calls of sah.rs as public calls: what each comes to, for any input. d is the device, with the place in its plan.
use Rattle.std.specs.Prelude.{ℕ, cond, not, List, [], eqb, leb, ltb, length}
use Rattle.text.specs.Text.{is_text}
use Rattle.header.specs.declared.Header.{Header}
use Rattle.header.specs.Block.{max_path, header_of, encoded}
use Rattle.device.specs.declared.Geometry.{Geometry}
use Rattle.device.specs.Device.{Dev, dev, Read, shape_b, flush_m, data_read_m, data_write_m, data_truncate_m}
use Rattle.device_lent.specs.Put.{put_m}

-- ---- what comes back

-- The number, and the device as it is left.
pub record SlotDone : Type 0 where
  pub number : ℕ
  pub dev : Dev

abbrev pub slot_done : ℕ → Dev → SlotDone
slot_done n d = record { number = n; dev = d }

-- Of a read also the count, and the buffer.
pub record SlotRead : Type 0 where
  pub number : ℕ
  pub count : ℕ
  pub buf : List ℕ
  pub dev : Dev

abbrev pub slot_read : ℕ → ℕ → List ℕ → Dev → SlotRead
slot_read n k b d = record { number = n; count = k; buf = b; dev = d }

-- The number of a call that was made is what the device's call came to.
abbrev pub done_by : Dev → SlotDone
done_by d = slot_done d.place.last d

abbrev pub read_by : Dev → Read → SlotRead
read_by d r = slot_read r.got.place.last r.got.count r.dst (dev d.bytes d.phys r.got.place)

-- ---- what is refused

-- 2: "the device's shape alone (there is no pool)"; 3 and 4 of a path, which is empty where a call has none; 6: "slot at or above the
-- number of physical lengths". 0 where nothing is refused.
unfoldable pub slot_refusal : Geometry → List ℕ → List ℕ → List ℕ → ℕ → ℕ
slot_refusal g bytes phys path slot =
    cond (not (shape_b g bytes phys)) 2
    (cond (not (is_text path)) 3
    (cond (ltb max_path (length path)) 4
    (cond (leb (length phys) slot) 6 0)))

-- A call on the device d with this path and slot: refused it changes nothing, else it is made.
abbrev pub unless_refused : Geometry → List ℕ → ℕ → Dev → SlotDone → SlotDone
unless_refused g path slot d made =
    cond (eqb (slot_refusal g d.bytes d.phys path slot) 0) made (slot_done (slot_refusal g d.bytes d.phys path slot) d)

-- ---- the calls

-- "the device's read at 512 + at: count; the buffer behind the count stays; a refused call leaves it"
unfoldable pub read_slot_m : List ℕ → Geometry → ℕ → ℕ → List ℕ → Dev → SlotRead
read_slot_m plan g slot at buf d =
    cond (eqb (slot_refusal g d.bytes d.phys [] slot) 0)
    (read_by d (data_read_m plan g slot at buf d))
    (slot_read (slot_refusal g d.bytes d.phys [] slot) 0 buf d)

-- "the device's write"
unfoldable pub write_slot_m : List ℕ → Geometry → ℕ → ℕ → List ℕ → Dev → SlotDone
write_slot_m plan g slot at src d = unless_refused g [] slot d (done_by (data_write_m plan g slot at src d))

-- The header of these numbers: "in use: 0 is free, anything else in use; a free header keeps its path bytes".
abbrev pub synced_header : ℕ → List ℕ → ℕ → ℕ → Header
synced_header in_use path len generation = header_of (not (eqb in_use 0)) (length path) len generation

-- "the header's block written, then flushed"
unfoldable pub sync_slot_m : List ℕ → Geometry → ℕ → ℕ → List ℕ → ℕ → ℕ → Dev → SlotDone
sync_slot_m plan g slot in_use path len generation d =
    unless_refused g path slot d (done_by (put_m plan g slot (encoded (synced_header in_use path len generation) path) d))

-- The device's flush.
unfoldable pub flush_slot_m : List ℕ → Geometry → ℕ → Dev → SlotDone
flush_slot_m plan g slot d = unless_refused g [] slot d (done_by (flush_m plan d))

-- The device's truncate.
unfoldable pub truncate_slot_m : List ℕ → Geometry → ℕ → ℕ → Dev → SlotDone
truncate_slot_m plan g slot len d = unless_refused g [] slot d (done_by (data_truncate_m plan g slot len d))
