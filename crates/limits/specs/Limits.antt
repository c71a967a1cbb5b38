-- The numbers of the specification that more than one crate needs (src/lib.rt has the same for the code).
use Rattle.std.specs.Prelude.{ℕ, ◌^◌}

-- "a path above 480 bytes" is refused; the header has so much room for its path
abbrev pub max_path : ℕ
max_path = 480

-- a slot row in the lent numbers: mark, path length, file length, generation
abbrev pub row_width : ℕ
row_width = 4

-- a directory row in the lent bytes: its length in two bytes, then room for a path
abbrev pub dir_width : ℕ
dir_width = 482

-- "counter 1 to 2^63"
abbrev pub last_counter : ℕ
last_counter = 2 ^ 63
