-- A header written and flushed: what the one writer of headers comes to, and "it stops at the first failure" (01, "Release"), on which the steps above go on.
use Rattle.std.specs.Prelude.{ℕ, Bool, cond, List, eqb}
use Rattle.device.specs.declared.Geometry.{Geometry}
use Rattle.device.specs.Device.{Dev, flush_m, header_write_m}

-- The last device call was done: neither failed nor cut short.
abbrev pub fine_m : Dev → Bool
fine_m d = eqb d.place.last 0

-- "It stops at the first failure": the next call, if the last one was done.
abbrev pub and_then : Dev → (Dev → Dev) → Dev
and_then d next = cond (fine_m d) (next d) d

-- A block is written as the slot's header, and flushed.
unfoldable pub put_m : List ℕ → Geometry → ℕ → List ℕ → Dev → Dev
put_m plan g slot block d = and_then (header_write_m plan g slot block d) (flush_m plan)
