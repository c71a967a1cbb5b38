-- 01, The header block: the bytes of a header, and what a block says.
use Rattle.std.specs.Prelude.{None, Option, Some}
use Rattle.std.specs.Prelude.{ℕ, ◌-◌, ◌%◌, ◌≡◌, refl, Bool, true, false, cond, not, List, ◌++◌, length, take, drop, replicate, eqb, ltb}
pub use Rattle.limits.specs.Limits.{max_path}
use Rattle.fnv.specs.Fnv.{fnv1a32}
use Rattle.le.specs.Le.{le, field}
use Rattle.text.specs.Text.{is_text}
use Rattle.header.specs.declared.Header.{Header}

-- The constants of the header type: the block's length, the magic, the longest path.
abbrev pub block_len : ℕ
block_len = 512

abbrev pub magic : ℕ
magic = 0x4F474552

-- A header by its fields: in use, path length, file length, generation.
abbrev pub header_of : Bool → ℕ → ℕ → ℕ → Header
header_of u p l g = record { in_use = u; path_len = p; len = l; generation = g }

-- The header of a free slot, and of one that holds a file.
abbrev pub free_header : ℕ → Header
free_header g = header_of false 0 0 g

abbrev pub bound_header : ℕ → ℕ → ℕ → Header
bound_header p l g = header_of true p l g

-- "Encoding writes flags 0 or 1."
abbrev pub flags_of : Bool → ℕ
flags_of t = cond t 1 0

-- "4 flags, bit 0 in use": bit 0 of a number is its remainder by 2.
abbrev pub in_use : ℕ → Bool
in_use flags = eqb (flags % 2) 1

bit_0_of_3 : in_use 3 ≡ true
bit_0_of_3 = refl

bit_0_of_2 : in_use 2 ≡ false
bit_0_of_2 = refl

-- ---- the bytes of a header

-- Bytes 0 to 27: the fields in front of the check.
unfoldable pub fixed : Header → List ℕ
fixed h =
    -- 0 magic
    le 4 magic
    -- 4 flags
    ++ le 4 (flags_of h.in_use)
    -- 8 path length
    ++ le 4 h.path_len
    -- 12 file length
    ++ le 8 h.len
    -- 20 generation
    ++ le 8 h.generation

-- The whole block, bytes 0 to 511.
unfoldable pub encoded : Header → List ℕ → List ℕ
encoded h path =
    fixed h
    -- 28 check, "over bytes 0 to 27 and then the path"
    ++ le 4 (fnv1a32 (fixed h ++ path))
    -- 32 path
    ++ path
    -- "zeros to 512"
    ++ replicate (max_path - length path) 0

-- ---- what a block says

-- The path's bytes.
abbrev pub path_of : List ℕ → List ℕ
path_of b = take (field b 8 4) (drop 32 b)

-- The check that b has to hold.
abbrev pub check_of : List ℕ → ℕ
check_of b = fnv1a32 (take 28 b ++ path_of b)

-- The header's fields. "Other flag bits and the bytes after the path are ignored."
abbrev pub fields_of : List ℕ → Header
fields_of b = header_of (in_use (field b 4 4)) (field b 8 4) (field b 12 8) (field b 20 8)

-- "Decoding says absent if fewer than 512 bytes were read, the magic differs, the path length passes 480, the check differs, or the path
-- isn't text." Of b, n bytes were read.
unfoldable pub decoded : List ℕ → ℕ → Option Header
decoded b n =
    cond (ltb n block_len) None
    (cond (not (eqb (field b 0 4) magic)) None
    (cond (ltb max_path (field b 8 4)) None
    (cond (not (eqb (field b 28 4) (check_of b))) None
    (cond (not (is_text (path_of b))) None (Some (fields_of b))))))
