-- The device as a value, and what each device call makes of it: 01, "The device (added)", in its order.
use Rattle.std.specs.Prelude.{ℕ, ◌+◌, ◌-◌, ◌*◌, ◌/◌, ◌%◌, ◌≤◌, ◌<◌, min, max, ◌≡◌, List, [], Bool, cond, ◌&&◌, ◌||◌, length, get_or, take, drop, set, replicate, ltb, leb, eqb}
use Rattle.lists.specs.Lends.{Run}
use Rattle.lists.specs.Runs.{all_of}
use Rattle.le.specs.Le.{laid}
use Rattle.device.specs.declared.Place.{Place}
use Rattle.device.specs.declared.Geometry.{Geometry}
use Rattle.device.specs.declared.Got.{Got}

-- the bytes of all slots, the physical length of each, and the place in the plan
pub record Dev : Type 0 where
  pub bytes : List ℕ
  pub phys : List ℕ
  pub place : Place

abbrev pub dev : List ℕ → List ℕ → Place → Dev
dev b h p = record { bytes = b; phys = h; place = p }

-- the device that a function was lent, and as it is left
abbrev pub dev_before : Run → Run → Place → Dev
dev_before bytes phys p = dev bytes phys p

abbrev pub dev_after : Run → Run → Place → Dev
dev_after bytes phys p = dev bytes phys p

-- "A lent byte slice cut into equal slots of a given size, 512 to 1,048,576 bytes each, a multiple of 512; a lent list of physical lengths, one a slot, at most the slot size"
pub record Shape (g : Geometry) (bytes phys : List ℕ) : Type 0 where
  pub least : 512 ≤ g.size
  pub most : g.size ≤ 1048576
  pub multiple : g.size % 512 ≡ 0
  pub slots : length bytes ≡ g.size * length phys
  pub within : (i : ℕ) → i < length phys → get_or phys i 0 ≤ g.size

-- the same as a test
unfoldable pub shape_b : Geometry → List ℕ → List ℕ → Bool
shape_b g bytes phys =
    leb 512 g.size && leb g.size 1048576 && eqb (g.size % 512) 0 && eqb (length bytes) (g.size * length phys) && all_of (λ i. leb (get_or phys i 0) g.size) 0 (length phys)

-- what the work on one slot asks of the device
pub record Slotted (size slot : ℕ) (bytes phys : List ℕ) : Type 0 where
  pub room : slot * size + size ≤ length bytes
  pub row : slot < length phys
  pub within : get_or phys slot 0 ≤ size

-- "a lent plan, one byte a device call, in order": the byte of the next call, 0 past the plan's end
unfoldable pub turn : List ℕ → Place → ℕ
turn plan p = get_or plan p.at 0

-- "one small record that each device call moves on; at or past the plan's end it stays as it is"; `o` is what the call came to
unfoldable pub onward : List ℕ → ℕ → Place → Place
onward plan o p = record { at = cond (ltb p.at (length plan)) (p.at + 1) p.at; last = o }

abbrev pub noted : List ℕ → ℕ → Dev → Dev
noted plan o d = dev d.bytes d.phys (onward plan o d.place)

-- "2: a write stores only the first half of the bytes that it would have stored (rounded down)": how many are moved of n
unfoldable pub share : ℕ → ℕ → ℕ
share byte n = cond (eqb byte 2) (n / 2) n

-- "flush and truncate act as for 1"
unfoldable pub stops : ℕ → Bool
stops byte = eqb byte 1 || eqb byte 2

-- the slot's physical length
abbrev pub phys_of : ℕ → Dev → ℕ
phys_of slot d = get_or d.phys slot 0

-- "Read gives what lies below the physical length": of `count` bytes from place `pos` of the slot on
unfoldable pub given : List ℕ → Geometry → ℕ → ℕ → ℕ → Dev → List ℕ
given plan g slot pos count d =
    cond (eqb (turn plan d.place) 1) [] (take (share (turn plan d.place) (min count (phys_of slot d - pos))) (drop (slot * g.size + pos) d.bytes))

-- the place after a read: it fails by byte 1 alone, and a start past the length gives no bytes
unfoldable pub seen : List ℕ → Place → Place
seen plan p = onward plan (cond (eqb (turn plan p) 1) 10 0) p

-- a buffer that was read into, with the answer
pub record Read : Type 0 where
  pub dst : List ℕ
  pub got : Got

abbrev pub read : List ℕ → Got → Read
read b r = record { dst = b; got = r }

unfoldable pub read_m : List ℕ → Geometry → ℕ → ℕ → List ℕ → Dev → Read
read_m plan g slot pos dst d =
    read (laid dst 0 (given plan g slot pos (length dst) d)) (record {
      count = length (given plan g slot pos (length dst) d);
      place = seen plan d.place;
    })

-- "the gap from the physical length is zeroed": in the slot that starts at base, from its length up to a place
unfoldable pub grown : ℕ → ℕ → ℕ → List ℕ → List ℕ
grown base phys to bytes = laid bytes (base + phys) (replicate (to - phys) 0)

-- ".. and what fits of the bytes it may store is stored"
unfoldable pub stored_bytes : ℕ → ℕ → ℕ → List ℕ → List ℕ → List ℕ
stored_bytes base phys pos src bytes = laid (grown base phys pos bytes) (base + pos) src

-- "the physical length then reaches at least the end of what was stored, which for no bytes is the write's start"
unfoldable pub stored_phys : ℕ → ℕ → ℕ → List ℕ → List ℕ
stored_phys slot pos n phys = set phys slot (max (get_or phys slot 0) (pos + n))

abbrev pub stored : Geometry → ℕ → ℕ → List ℕ → Dev → Dev
stored g slot pos src d = dev (stored_bytes (slot * g.size) (phys_of slot d) pos src d.bytes) (stored_phys slot pos (length src) d.phys) d.place

-- ".. and says so": 11 where n bytes are fewer than were asked
unfoldable pub short : ℕ → ℕ → ℕ
short n asked = cond (ltb n asked) 11 0

-- how many of `asked` bytes a write at pos stores: what fits, and half of that under 2
unfoldable pub stores : ℕ → ℕ → ℕ → ℕ → ℕ
stores byte size pos asked = share byte (min asked (size - pos))

-- "Write starting beyond the slot size fails and changes nothing; otherwise .."
unfoldable pub write_m : List ℕ → Geometry → ℕ → ℕ → List ℕ → Dev → Dev
write_m plan g slot pos src d =
    let n = stores (turn plan d.place) g.size pos (length src) in
    cond (eqb (turn plan d.place) 1) (noted plan 10 d)
    (cond (ltb g.size pos) (noted plan 10 d)
    (noted plan (short n (length src)) (stored g slot pos (take n src) d)))

-- "it cuts or adds zeros"
abbrev pub cut : Geometry → ℕ → ℕ → Dev → Dev
cut g slot len d = dev (grown (slot * g.size) (phys_of slot d) len d.bytes) (set d.phys slot len) d.place

-- "Truncate beyond the slot size fails; otherwise .."
unfoldable pub truncate_m : List ℕ → Geometry → ℕ → ℕ → Dev → Dev
truncate_m plan g slot len d =
    cond (stops (turn plan d.place)) (noted plan 10 d)
    (cond (ltb g.size len) (noted plan 10 d)
    (noted plan 0 (cut g slot len d)))

-- the place after a flush, and the device
unfoldable pub flushed : List ℕ → Place → Place
flushed plan p = onward plan (cond (stops (turn plan p)) 10 0) p

unfoldable pub flush_m : List ℕ → Dev → Dev
flush_m plan d = dev d.bytes d.phys (flushed plan d.place)

-- the header's calls are at the slot's start, and "file offset `at` is device place 512 + at"
unfoldable pub header_read_m : List ℕ → Geometry → ℕ → List ℕ → Dev → Read
header_read_m plan g slot dst d = read_m plan g slot 0 dst d

unfoldable pub header_write_m : List ℕ → Geometry → ℕ → List ℕ → Dev → Dev
header_write_m plan g slot block d = write_m plan g slot 0 block d

unfoldable pub data_read_m : List ℕ → Geometry → ℕ → ℕ → List ℕ → Dev → Read
data_read_m plan g slot at dst d = read_m plan g slot (512 + at) dst d

unfoldable pub data_write_m : List ℕ → Geometry → ℕ → ℕ → List ℕ → Dev → Dev
data_write_m plan g slot at src d = write_m plan g slot (512 + at) src d

unfoldable pub data_truncate_m : List ℕ → Geometry → ℕ → ℕ → Dev → Dev
data_truncate_m plan g slot len d = truncate_m plan g slot (512 + len) d
