-- What holds of the codec, as statements. proofs/RoundTrip.antt proves each under its name: `layout`, `decode_encode`, `encode_decode`,
-- `encode_one_outcome`, `decode_one_outcome`, `cut_short_decodes`, `cut_free_decodes`.
use Rattle.std.specs.Prelude.{Option, Some}
use Rattle.std.specs.Prelude.{ℕ, ◌+◌, ◌-◌, ◌^◌, ◌<◌, ◌≤◌, ◌≡◌, ◌↔◌, true, List, [], ◌++◌, length, take, drop, replicate}
use Rattle.fnv.specs.Fnv.{fnv1a32}
use Rattle.le.specs.Le.{field, Bytes}
use Rattle.text.specs.Text.{is_text}
use Rattle.header.specs.Block.{block_len, magic, max_path, free_header, flags_of, encoded, path_of, decoded}
use Rattle.header.specs.declared.Header.{Header}

-- A header and its path as the code has them: what `encode` requires, and numbers of 64 bits.
pub record Fits (h : Header) (path : List ℕ) : Type 0 where
  pub same_length : length path ≡ h.path_len
  pub short : h.path_len ≤ max_path
  pub len_fits : h.len < 2 ^ 64
  pub generation_fits : h.generation < 2 ^ 64

-- 01's table by its offsets, to the path's end: b holds the header h and its path.
pub record Table (b : List ℕ) (h : Header) (path : List ℕ) : Type 0 where
  pub at_0_magic : field b 0 4 ≡ magic
  pub at_4_flags : field b 4 4 ≡ flags_of h.in_use
  pub at_8_path_length : field b 8 4 ≡ h.path_len
  pub at_12_file_length : field b 12 8 ≡ h.len
  pub at_20_generation : field b 20 8 ≡ h.generation
  pub at_28_check : field b 28 4 ≡ fnv1a32 (take 28 b ++ path)
  pub at_32_path : take h.path_len (drop 32 b) ≡ path

-- "zeros to 512": b is zero behind a path of p bytes.
abbrev pub ZeroTail : List ℕ → ℕ → Type 0
ZeroTail b p = drop (32 + p) b ≡ replicate (max_path - p) 0

-- The block of a header is the one block of 512 bytes that is as the table says.
abbrev pub Layout : Type 0
Layout =
    (h : Header) (path b : List ℕ) → Fits h path → length b ≡ block_len → Bytes b
    → Table b h path × ZeroTail b h.path_len ↔ b ≡ encoded h path

-- "Decoding an encoded header gives it back". Its path has to be text: `encode` does not look.
abbrev pub DecodeEncode : Type 0
DecodeEncode = (h : Header) (path : List ℕ) → Fits h path → is_text path ≡ true → decoded (encoded h path) block_len ≡ Some h

-- "encoding a decoded one gives the block back exactly if its flags are 0 or 1 and its tail is zero."
abbrev pub EncodeDecode : Type 0
EncodeDecode =
    (b : List ℕ) (n : ℕ) (h : Header) → length b ≡ block_len → Bytes b → decoded b n ≡ Some h
    → encoded h (path_of b) ≡ b ↔ (field b 4 4 ≤ 1) × ZeroTail b h.path_len

-- Any two outcomes that the contract of `encode`, or of `decode`, allows are the same.
abbrev pub EncodeOneOutcome : Type 0
EncodeOneOutcome = (h : Header) (path r r' : List ℕ) → r ≡ encoded h path → r' ≡ encoded h path → r ≡ r'

abbrev pub DecodeOneOutcome : Type 0
DecodeOneOutcome = (b : List ℕ) (n : ℕ) (r r' : Option Header) → r ≡ decoded b n → r' ≡ decoded b n → r ≡ r'

-- A header write that was cut to its first half, over any old block, still says the header where the path lies in that half.
abbrev pub CutShortDecodes : Type 0
CutShortDecodes =
    (h : Header) (path old : List ℕ) → Fits h path → h.path_len ≤ 224 → is_text path ≡ true
    → decoded (take 256 (encoded h path) ++ drop 256 old) block_len ≡ Some h

-- A cut free header decodes as free.
abbrev pub CutFreeDecodes : Type 0
CutFreeDecodes = (g : ℕ) (old : List ℕ) → g < 2 ^ 64 → decoded (take 256 (encoded (free_header g) []) ++ drop 256 old) block_len ≡ Some (free_header g)
