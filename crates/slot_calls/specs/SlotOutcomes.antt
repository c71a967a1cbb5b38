-- What holds of the slot calls, as statements. proofs/Outcomes.antt proves each under its name: `read_refused_stays`,
-- `write_refused_stays`, `sync_refused_stays`, `flush_refused_stays`, `truncate_refused_stays`, `read_back`, `synced_decodes`. That any
-- two ends which a contract allows are the same is said of the contracts themselves, in crate promises_tied.
use Rattle.std.specs.Prelude.{Some}
use Rattle.std.specs.Prelude.{ℕ, ◌^◌, ◌<◌, ◌≡◌, ◌⊎◌, false, List, length}
use Rattle.header.specs.Block.{block_len, path_of, decoded}
use Rattle.device.specs.declared.Geometry.{Geometry}
use Rattle.device.specs.Device.{Dev, dev, Read, turn, stops, seen, header_read_m}
use Rattle.slot_calls.specs.SlotCalls.{slot_read, read_slot_m, write_slot_m, sync_slot_m, flush_slot_m, truncate_slot_m}
use Rattle.slot_calls.specs.SlotCalls.{synced_header}

-- ---- "2, 3, 4 and 6 change nothing (10 and 11 may have written)"

-- One of the numbers of a call that is refused.
abbrev pub Refusing : ℕ → Type 0
Refusing n = (n ≡ 2) ⊎ ((n ≡ 3) ⊎ ((n ≡ 4) ⊎ (n ≡ 6)))

-- The buffer of a read stays too, and its count is 0.
abbrev pub ReadRefusedStays : Type 0
ReadRefusedStays =
    (plan : List ℕ) (g : Geometry) (slot at : ℕ) (buf : List ℕ) (d : Dev)
    → Refusing (read_slot_m plan g slot at buf d).number
    → read_slot_m plan g slot at buf d ≡ slot_read (read_slot_m plan g slot at buf d).number 0 buf d

abbrev pub WriteRefusedStays : Type 0
WriteRefusedStays =
    (plan : List ℕ) (g : Geometry) (slot at : ℕ) (src : List ℕ) (d : Dev)
    → Refusing (write_slot_m plan g slot at src d).number → (write_slot_m plan g slot at src d).dev ≡ d

abbrev pub SyncRefusedStays : Type 0
SyncRefusedStays =
    (plan : List ℕ) (g : Geometry) (slot in_use : ℕ) (path : List ℕ) (len generation : ℕ) (d : Dev)
    → Refusing (sync_slot_m plan g slot in_use path len generation d).number → (sync_slot_m plan g slot in_use path len generation d).dev ≡ d

abbrev pub FlushRefusedStays : Type 0
FlushRefusedStays =
    (plan : List ℕ) (g : Geometry) (slot : ℕ) (d : Dev) → Refusing (flush_slot_m plan g slot d).number → (flush_slot_m plan g slot d).dev ≡ d

abbrev pub TruncateRefusedStays : Type 0
TruncateRefusedStays =
    (plan : List ℕ) (g : Geometry) (slot len : ℕ) (d : Dev)
    → Refusing (truncate_slot_m plan g slot len d).number → (truncate_slot_m plan g slot len d).dev ≡ d

-- ---- what was written is read

-- What a write that answers 0 was given, a read of as many bytes at the same place gives, where the plan leaves that read alone.
abbrev pub ReadBack : Type 0
ReadBack =
    (plan : List ℕ) (g : Geometry) (slot at : ℕ) (src buf : List ℕ) (d w : Dev) → w ≡ (write_slot_m plan g slot at src d).dev
    → (write_slot_m plan g slot at src d).number ≡ 0 → length buf ≡ length src → stops (turn plan w.place) ≡ false
    → read_slot_m plan g slot at buf w ≡ slot_read 0 (length src) src (dev w.bytes w.phys (seen plan w.place))

-- What a header read says: the header h with this path.
pub record SaysHeader (r : Read) (in_use : ℕ) (path : List ℕ) (len generation : ℕ) : Type 0 where
  pub header : decoded r.dst r.got.count ≡ Some (synced_header in_use path len generation)
  pub path_bytes : path_of r.dst ≡ path

-- "what `sync_slot` wrote is what a header read decodes, where the plan leaves both alone". One way: "other flag bits and a tail are not
-- kept".
abbrev pub SyncedDecodes : Type 0
SyncedDecodes =
    (plan : List ℕ) (g : Geometry) (slot in_use : ℕ) (path : List ℕ) (len generation : ℕ) (into : List ℕ) (d w : Dev)
    → w ≡ (sync_slot_m plan g slot in_use path len generation d).dev → len < 2 ^ 64 → generation < 2 ^ 64
    → (sync_slot_m plan g slot in_use path len generation d).number ≡ 0 → length into ≡ block_len → stops (turn plan w.place) ≡ false
    → SaysHeader (header_read_m plan g slot into w) in_use path len generation
