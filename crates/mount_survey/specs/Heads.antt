-- What a slot's header says to a mount, and the reading of all headers before anything else: 01, "Mount, adopt".
use Rattle.std.specs.Prelude.{None, Option, Some}
use Rattle.header.specs.declared.Header.{Header}
use Rattle.std.specs.Prelude.{ℕ, zero, suc, Bool, true, false, cond, ◌&&◌, List, [], ◌∷◌, eqb, ltb, length}
use Rattle.header.specs.Block.{path_of, decoded}
use Rattle.device.specs.declared.Place.{Place}
use Rattle.device.specs.declared.Geometry.{Geometry}
use Rattle.device.specs.Device.{Dev, dev, turn, onward, given}

-- The device that a function was lent to read, as it was.
abbrev pub dev_before : List ℕ → List ℕ → Place → Dev
dev_before bytes phys p = dev bytes phys p

-- A slot's header: none that is valid; a valid one that claims nothing, with its generation; or a claim: path, generation, file length.
pub data Head : Type 0 where
  absent : Head
  idle : ℕ → Head
  claim : List ℕ → ℕ → ℕ → Head

-- "In use with non-empty path: a claim." The path lies in the block.
abbrev pub said_of : List ℕ → Option Header → Head
said_of b None = absent
said_of b (Some h) = cond (h.in_use && ltb 0 h.path_len) (claim (path_of b) h.generation h.len) (idle h.generation)

-- What the bytes that a header read gave say: fewer than 512 are no header.
unfoldable pub head_of : List ℕ → Head
head_of bs = said_of bs (decoded bs (length bs))

-- ---- "Read all headers first"

-- The heads of the slots that were read, the place after it, and whether a read failed: then the reads stop there.
pub record Reads : Type 0 where
  pub failed : Bool
  pub heads : List Head
  pub place : Place

-- One more head in front of what the later reads gave.
abbrev pub behind : Head → Reads → Reads
behind h r = record { failed = r.failed; heads = h ∷ r.heads; place = r.place }

-- The device after a header read: only the place has moved.
unfoldable pub looked : List ℕ → Dev → Dev
looked plan d = dev d.bytes d.phys (onward plan (cond (eqb (turn plan d.place) 1) 10 0) d.place)

-- k slots from i on.
unfoldable pub reads_m : List ℕ → Geometry → ℕ → ℕ → Dev → Reads
reads_m plan g i zero d = record { failed = false; heads = []; place = d.place }
reads_m plan g i (suc k) d =
    cond (eqb (turn plan d.place) 1)
    (record { failed = true; heads = []; place = (looked plan d).place })
    (behind (head_of (given plan g i 0 512 d)) (reads_m plan g (suc i) k (looked plan d)))
