-- The calls of AnyDevice on the device of document 01: the model's, but for one that the shape, the slot's number or a header's length rules out, which changes nothing and has failed.
use Rattle.std.specs.Prelude.{ℕ, ◌+◌, min, ◌≡◌, Bool, true, false, cond, not, ◌&&◌, List, [], length, take, ltb, eqb}
use Rattle.device.specs.declared.Geometry.{Geometry}
use Rattle.device.specs.Device.{Dev, dev, shape_b, turn, share, phys_of, given, seen, flush_m, header_write_m, data_write_m, data_truncate_m}
use Rattle.device.specs.Slots.{part_of}
use Rattle.device.specs.AnyDevice.{Call, look, header, flush, truncate, store, load, slot_of, sound}

-- Slot j has the bytes and the physical length that it had.
abbrev pub SlotStays : Geometry → ℕ → Dev → Dev → Type 0
SlotStays g j d e = (part_of g.size j e.bytes ≡ part_of g.size j d.bytes) × (phys_of j e ≡ phys_of j d)

-- The device is of the right shape, and the call of one of its slots.
unfoldable pub may : Geometry → Dev → Call → Bool
may g d c = shape_b g d.bytes d.phys && (ltb (slot_of c) (length d.phys) && sound c)

-- The model of each call.
abbrev pub call_m : List ℕ → Geometry → Call → Dev → Dev
call_m plan g (look i) d = dev d.bytes d.phys (seen plan d.place)
call_m plan g (header i ys) d = header_write_m plan g i ys d
call_m plan g (flush i) d = flush_m plan d
call_m plan g (truncate i n) d = data_truncate_m plan g i n d
call_m plan g (store i at ys) d = data_write_m plan g i at ys d
call_m plan g (load i at n) d = dev d.bytes d.phys (seen plan d.place)

abbrev pub given_m : List ℕ → Geometry → Call → Dev → List ℕ
given_m plan g (look i) d = given plan g i 0 512 d
given_m plan g (header i ys) d = []
given_m plan g (flush i) d = []
given_m plan g (truncate i n) d = []
given_m plan g (store i at ys) d = []
given_m plan g (load i at n) d = given plan g i (512 + at) n d

abbrev pub last_of : Dev → ℕ
last_of d = d.place.last

-- A read of n bytes that the plan neither fails nor halves.
unfoldable pub read_all : ℕ → ℕ → Bool
read_all byte n = not (eqb byte 1) && eqb (share byte n) n

abbrev pub ok_m : List ℕ → Geometry → Call → Dev → Bool
ok_m plan g (look i) d = read_all (turn plan d.place) 512
ok_m plan g (header i ys) d = eqb (last_of (header_write_m plan g i ys d)) 0
ok_m plan g (flush i) d = eqb (last_of (flush_m plan d)) 0
ok_m plan g (truncate i n) d = eqb (last_of (data_truncate_m plan g i n d)) 0
ok_m plan g (store i at ys) d = eqb (last_of (data_write_m plan g i at ys d)) 0
ok_m plan g (load i at n) d = read_all (turn plan d.place) n

-- The bytes below the physical length among the slot's first 512.
abbrev pub block_of : Geometry → ℕ → Dev → List ℕ
block_of g i d = take (min 512 (phys_of i d)) (part_of g.size i d.bytes)

-- The device after a call; the bytes that it gives; it failed; it is neither failed nor cut short.
abbrev pub act_m : List ℕ → Geometry → Dev → Call → Dev
act_m plan g d c = cond (may g d c) (call_m plan g c d) d

abbrev pub given_by : List ℕ → Geometry → Dev → Call → List ℕ
given_by plan g d c = cond (may g d c) (given_m plan g c d) []

abbrev pub failed_m : List ℕ → Geometry → Dev → Call → Bool
failed_m plan g d c = cond (may g d c) (eqb (last_of (call_m plan g c d)) 10) true

abbrev pub whole_m : List ℕ → Geometry → Dev → Call → Bool
whole_m plan g d c = cond (may g d c) (ok_m plan g c d) false
