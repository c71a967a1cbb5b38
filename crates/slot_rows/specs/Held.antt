-- The rows that a function is lent to read, as one value.
use Rattle.std.specs.Prelude.{List}
use Rattle.slot_rows.specs.declared.Rows.{Rows}
use Rattle.slot_rows.specs.Rows.{Row, rows_of, Flat}

-- What the rows hold.
abbrev pub held : Rows → List Row
held r = rows_of r.nums.now r.names.now r.n

-- They lie in their buffers: these are the flat form of the first n rows.
abbrev pub Lie : Rows → Type 0
Lie r = Flat r.cap r.n r.nums.now r.names.now
