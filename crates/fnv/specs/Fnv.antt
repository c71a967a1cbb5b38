-- FNV-1a, as Fowler, Noll and Vo define it, over its prime and its width in bits; then the check of 01, its 32-bit form.
use Rattle.std.specs.Prelude.{ℕ, ◌*◌, ◌%◌, ◌^◌, ◌≡◌, refl, List, [], ◌∷◌}
use Rattle.std.specs.Int.Bits.{bit_xor}

-- One byte: exclusive or with the byte, then times the prime, modulo 2^width.
unfoldable pub stepped : ℕ → ℕ → ℕ → ℕ → ℕ
stepped prime width h b = (bit_xor h b * prime) % 2 ^ width

-- The state after a list of bytes, from the state h.
unfoldable pub fnv1a : ℕ → ℕ → ℕ → List ℕ → ℕ
fnv1a prime width h [] = h
fnv1a prime width h (b ∷ s) = fnv1a prime width (stepped prime width h b) s

-- 01, Check: "Start 2166136261; for each byte: exclusive or with the byte, then times 16777619, modulo 2^32".
abbrev pub start32 : ℕ
start32 = 2166136261

abbrev pub prime32 : ℕ
prime32 = 16777619

-- The 32-bit state after the bytes s, from the state h.
abbrev pub fnv_from : ℕ → List ℕ → ℕ
fnv_from h s = fnv1a prime32 32 h s

-- The 32-bit check of the bytes s.
abbrev pub fnv1a32 : List ℕ → ℕ
fnv1a32 s = fnv_from start32 s

-- Three of the FNV authors' vectors: nothing, "a", "foobar".
vector_nothing : fnv1a32 [] ≡ 0x811c9dc5
unfolding fnv1a
vector_nothing = refl

vector_a : fnv1a32 (0x61 ∷ []) ≡ 0xe40c292c
unfolding fnv1a stepped
vector_a = refl

vector_foobar : fnv1a32 (0x66 ∷ 0x6f ∷ 0x6f ∷ 0x62 ∷ 0x61 ∷ 0x72 ∷ []) ≡ 0xbf9cf968
unfolding fnv1a stepped
vector_foobar = refl
