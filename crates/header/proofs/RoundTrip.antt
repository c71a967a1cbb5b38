-- The statements of specs/RoundTrip.antt. `layout` carries them: a block is read field by field, and only one block reads so.
use Rattle.std.specs.Prelude.{Some}
use Prim.Native.Nat.{ℕ, zero, suc, ◌+◌, ◌-◌, ◌^◌, ◌<◌, ◌≤◌}
use mathlib.Core.Path.{◌≡◌, refl, sym, ap, ap₂, ◌∙◌, subst}
use mathlib.Core.Bool.{Bool, true, false}
use mathlib.Core.List.{List, [], ◌++◌}
use native.Mathlib.Omega.{arith}
use lib.Dec.{lit<, lit≤}
use lib.ListN.{length, take, drop, replicate, length-append, length-take, length-drop, length-replicate, take-append-drop}
use lib.Seq.{take_at, drop_at, take-append-le, take-take}
use Rattle.fnv.specs.Fnv.{start32, prime32, fnv1a32}
use Rattle.fnv.proofs.AnyWidth.{fnv1a_lt}
use Rattle.le.specs.Le.{le, field, Bytes}
use Rattle.le.proofs.Fields.{unle_le, unle_lt, bytes_take, bytes_drop, field_back}
use Rattle.le.proofs.Parts.{glue}
use Rattle.text.specs.Text.{is_text, none}
use Rattle.text.proofs.Grammar.{text_complete}
use Rattle.header.specs.Block.{block_len, max_path, header_of, free_header, flags_of, in_use, fixed, encoded, path_of, decoded}
use Rattle.header.proofs.BlockLaws.{length_fixed, found}
use Rattle.header.specs.RoundTrip.{Fits, Table, ZeroTail, Layout, DecodeEncode, EncodeDecode, EncodeOneOutcome, DecodeOneOutcome, CutShortDecodes, CutFreeDecodes}
use Rattle.header.specs.declared.Header.{Header}
use Rattle.header.proofs.Decode.{fields_are}

-- ---- flags

flag_back : (t : Bool) → in_use (flags_of t) ≡ t
flag_back true = refl
flag_back false = refl

flag_le : (t : Bool) → flags_of t ≤ 1
flag_le true = lit≤ tt
flag_le false = lit≤ tt

-- Flags of 0 or 1 are what bit 0 says.
flags_are : (x : ℕ) → x ≤ 1 → x ≡ flags_of (in_use x)
flags_are zero l = refl
flags_are (suc zero) l = refl
flags_are (suc (suc x)) l = omega arith

-- ---- a header's bytes are read as its fields

-- The block in front of its path.
abbrev front : Header → List ℕ → List ℕ
front h path = fixed h ++ le 4 (fnv1a32 (fixed h ++ path))

module _ (h : Header) (path : List ℕ) (f : Fits h path) where
  -- Whatever lies behind the path.
  table : (rest : List ℕ) → take h.path_len rest ≡ path → Table (front h path ++ rest) h path
  unfolding fixed
  table rest e = record {
    at_0_magic = refl;
    at_4_flags = unle_le 4 (flags_of h.in_use) (omega (arith, flag_le h.in_use));
    at_8_path_length = unle_le 4 h.path_len (omega (arith, f.short));
    at_12_file_length = unle_le 8 h.len f.len_fits;
    at_20_generation = unle_le 8 h.generation f.generation_fits;
    at_28_check = unle_le 4 (fnv1a32 (fixed h ++ path)) (fnv1a_lt prime32 32 start32 (fixed h ++ path) (lit< tt));
    at_32_path = e;
  }

  encoded_table : Table (encoded h path) h path
  unfolding encoded fixed
  encoded_table = table (path ++ replicate (max_path - length path) 0) (take_at path _ h.path_len f.same_length)

  encoded_tail : ZeroTail (encoded h path) h.path_len
  unfolding encoded
  encoded_tail =
      let n : length (front h path ++ path) ≡ 32 + h.path_len = simp (length-append, length_fixed) (omega (arith, f.same_length)) in
      drop_at (front h path ++ path) _ (32 + h.path_len) n ∙ ap (λ (k : ℕ). replicate (max_path - k) 0) f.same_length

-- ---- and no other block is read so

module _ (h : Header) (path b : List ℕ) (f : Fits h path) (n : length b ≡ block_len) (y : Bytes b) (t : Table b h path) (z : ZeroTail b h.path_len) where
  fixed_only : fixed h ≡ take 28 b
  unfolding fixed
  fixed_only =
      glue 20 8 b
      (glue 12 8 b
      (glue 8 4 b
      (glue 4 4 b
      (ap (le 4) (sym t.at_0_magic) ∙ field_back b 0 4 y (omega arith))
      (ap (le 4) (sym t.at_4_flags) ∙ field_back b 4 4 y (omega arith)))
      (ap (le 4) (sym t.at_8_path_length) ∙ field_back b 8 4 y (omega arith)))
      (ap (le 8) (sym t.at_12_file_length) ∙ field_back b 12 8 y (omega arith)))
      (ap (le 8) (sym t.at_20_generation) ∙ field_back b 20 8 y (omega arith))

  encoded_only : b ≡ encoded h path
  unfolding encoded
  encoded_only =
      let check : fnv1a32 (fixed h ++ path) ≡ field b 28 4 = ap (λ (s : List ℕ). fnv1a32 (s ++ path)) fixed_only ∙ sym t.at_28_check in
      let to-path : front h path ≡ take 32 b = glue 28 4 b fixed_only (ap (le 4) check ∙ field_back b 28 4 y (omega arith)) in
      let to-tail : front h path ++ path ≡ take (32 + h.path_len) b = glue 32 h.path_len b to-path (sym t.at_32_path) in
      let tail : replicate (max_path - length path) 0 ≡ drop (32 + h.path_len) b = ap (λ (k : ℕ). replicate (max_path - k) 0) f.same_length ∙ sym z in
      sym (ap₂ (λ (p q : List ℕ). p ++ q) to-tail tail ∙ take-append-drop (32 + h.path_len) b)

pub layout : Layout
layout h path b f n y = (
  λ t. encoded_only h path b f n y t.0 t.1,
  λ e. subst (λ (c : List ℕ). Table c h path × ZeroTail c h.path_len) (sym e) (encoded_table h path f, encoded_tail h path f),
)

-- ---- there and back

-- A block with the table of h says h.
says : (b : List ℕ) (h : Header) (path : List ℕ) → Fits h path → Table b h path → is_text path ≡ true → decoded b block_len ≡ Some h
says b h path f t x =
    let p : path_of b ≡ path = ap (λ (k : ℕ). take k (drop 32 b)) t.at_8_path_length ∙ t.at_32_path in
    let bit : h ≡ header_of (in_use (flags_of h.in_use)) h.path_len h.len h.generation =
    ap (λ (u : Bool). header_of u h.path_len h.len h.generation) (sym (flag_back h.in_use)) in
    (found b block_len h).1
    (record {
      whole = lit≤ tt;
      magic_same = t.at_0_magic;
      path_fits = omega (arith, t.at_8_path_length, f.short);
      check_same = t.at_28_check ∙ ap (λ (s : List ℕ). fnv1a32 (take 28 b ++ s)) (sym p);
      path_text = ap is_text p ∙ x;
      fields = bit ∙ fields_are b (sym t.at_4_flags) (sym t.at_8_path_length) (sym t.at_12_file_length) (sym t.at_20_generation);
    })

pub decode_encode : DecodeEncode
decode_encode h path f x = says (encoded h path) h path f (encoded_table h path f) x

-- A header that was decoded fits, with the path that its block has.
pub found_fits : (b : List ℕ) (n : ℕ) (h : Header) → length b ≡ block_len → Bytes b → decoded b n ≡ Some h → Fits h (path_of b)
found_fits b n h l y e =
    let p = (found b n h).0 e in
    let wide : (at : ℕ) → at + 8 ≤ block_len → field b at 8 < 2 ^ 64 =
    λ at k.
    let s : List ℕ = take 8 (drop at b) in
    let w : length s ≡ 8 = simp (length-take, length-drop) (omega arith) in
    rw w at (unle_lt s (bytes_take 8 (drop at b) (bytes_drop at b y))) in
    subst (λ (g : Header). Fits g (path_of b)) (sym p.fields)
    (record {
      same_length = simp (length-take, length-drop) (omega (arith, p.path_fits));
      short = p.path_fits;
      len_fits = wide 12 (lit≤ tt);
      generation_fits = wide 20 (lit≤ tt);
    })

pub encode_decode : EncodeDecode
encode_decode b n h l y e =
    let p = (found b n h).0 e in
    let f = found_fits b n h l y e in
    let whole = layout h (path_of b) b f l y in (
      λ r.
          let t = whole.1 (sym r) in
          (rw t.0.at_4_flags (flag_le h.in_use), t.1),
      λ a.
          let t : Table b h (path_of b) =
          subst (λ (g : Header). Table b g (path_of b)) (sym p.fields)
          (record {
            at_0_magic = p.magic_same;
            at_4_flags = flags_are (field b 4 4) a.0;
            at_8_path_length = refl;
            at_12_file_length = refl;
            at_20_generation = refl;
            at_28_check = p.check_same;
            at_32_path = refl;
          }) in
          sym (whole.0 (t, a.1)),
    )

-- ---- one outcome

pub encode_one_outcome : EncodeOneOutcome
encode_one_outcome h path r r' e e' = e ∙ sym e'

pub decode_one_outcome : DecodeOneOutcome
decode_one_outcome b n r r' e e' = e ∙ sym e'

-- ---- the path of a header's block

pub encoded_path : (h : Header) (path : List ℕ) → Fits h path → is_text path ≡ true → path_of (encoded h path) ≡ path
unfolding encoded fixed
encoded_path h path f x =
    let p = (found (encoded h path) block_len h).0 (decode_encode h path f x) in
    let e : field (encoded h path) 8 4 ≡ length path = sym (ap (λ (y : Header). y.path_len) p.fields) ∙ sym f.same_length in
    ap (λ (k : ℕ). take k (drop 32 (encoded h path))) e ∙ take_at path _ (length path) refl

-- ---- a header that was cut

pub cut_short_decodes : CutShortDecodes
unfolding encoded fixed
cut_short_decodes h path old f s x =
    let zeros : List ℕ = replicate (max_path - length path) 0 in
    let kept : List ℕ = take 224 (path ++ zeros) in
    let l : h.path_len ≤ length kept = simp (length-take, length-append, length-replicate) (omega (arith, f.same_length)) in
    let e : take h.path_len (kept ++ drop 256 old) ≡ path =
    take-append-le h.path_len kept (drop 256 old) l
    ∙ take-take h.path_len 224 (path ++ zeros) s
    ∙ take_at path zeros h.path_len f.same_length in
    says _ h path f (table h path f (kept ++ drop 256 old) e) x

pub cut_free_decodes : CutFreeDecodes
cut_free_decodes g old l =
    let f : Fits (free_header g) [] = record { same_length = refl; short = lit≤ tt; len_fits = lit< tt; generation_fits = l } in
    cut_short_decodes (free_header g) [] old f (lit≤ tt) (text_complete none)
