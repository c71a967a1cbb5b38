-- The laws by which alone the pool speaks of a device: its calls as data, what each does to its slot's header block, and that all else stays.
-- Assumes nothing: a device is a record of a type, functions and their laws. The device of document 01 is `memory` of Memory.
use Prim.Native.Nat.{ℕ, suc, ◌+◌, ◌-◌, ◌/◌, ◌≤◌, ◌<◌, min, max}
use native.Mathlib.Omega.{arith}
use Rattle.std.specs.Prelude.{◌≡◌, ◌≢◌, ◌⊎◌, Bool, cond, length, drop, replicate, eqb}
use Rattle.std.proofs.Math.Path.{refl, ap}
use Rattle.std.proofs.Common.{sym, ap₂, subst, ◌∙◌}
use Rattle.std.proofs.Math.Bool.{true, false}
use mathlib.Core.List.{List, [], ◌∷◌, ◌++◌, append-nil}
use Rattle.std.proofs.Math.ListN.{take}
use Rattle.std.proofs.Math.Dec.{ltb}
use borrow.Author.Tests.{ltb-true, ltb-false, eqb-true}
use Rattle.lists.specs.Blocks.{pad, pad_fits}

-- A header read; a header write of a block; a flush; a truncate to a file length; a write of bytes and a read of so many from a file offset on. The slot comes first.
pub data Call : Type 0 where
  look : ℕ → Call
  header : ℕ → List ℕ → Call
  flush : ℕ → Call
  truncate : ℕ → ℕ → Call
  store : ℕ → ℕ → List ℕ → Call
  load : ℕ → ℕ → ℕ → Call

abbrev pub slot_of : Call → ℕ
slot_of (look i) = i
slot_of (header i ys) = i
slot_of (flush i) = i
slot_of (truncate i n) = i
slot_of (store i at ys) = i
slot_of (load i at n) = i

-- A header travels as 512 bytes.
abbrev pub sound : Call → Bool
sound (look i) = true
sound (header i ys) = eqb (length ys) 512
sound (flush i) = true
sound (truncate i n) = true
sound (store i at ys) = true
sound (load i at n) = true

-- Reads, which fail or succeed: one that gives less is a success.
abbrev pub reads : Call → Bool
reads (look i) = true
reads (header i ys) = false
reads (flush i) = false
reads (truncate i n) = false
reads (store i at ys) = false
reads (load i at n) = true

-- Reads and flushes change no byte and no length.
abbrev pub quiet : Call → Bool
quiet (look i) = true
quiet (header i ys) = false
quiet (flush i) = true
quiet (truncate i n) = false
quiet (store i at ys) = false
quiet (load i at n) = true

-- Writes and truncates of the file behind the header.
abbrev pub on_file : Call → Bool
on_file (look i) = false
on_file (header i ys) = false
on_file (flush i) = false
on_file (truncate i n) = true
on_file (store i at ys) = true
on_file (load i at n) = false

-- What the call asks for lies in a slot of this size.
abbrev pub Inside : ℕ → Call → Type 0
Inside size (look i) = Unit {0}
Inside size (header i ys) = Unit {0}
Inside size (flush i) = Unit {0}
Inside size (truncate i n) = 512 + n ≤ size
Inside size (store i at ys) = 512 + at + length ys ≤ size
Inside size (load i at n) = Unit {0}

-- No physical length lies from 1 to 511.
abbrev pub Whole : (ℕ → ℕ) → Type 0
Whole phys = (i : ℕ) → (phys i ≡ 0) ⊎ (512 ≤ phys i)

-- The place in a plan of n bytes moves on by one, and stays at or past the end.
unfoldable pub moved : ℕ → ℕ → ℕ
moved n a = cond (ltb a n) (a + 1) a

pub record Device : Type 1 where
  pub W : Type 0
  -- the slots' size, and the plan's length
  pub size : ℕ
  pub planned : ℕ
  -- of the right shape; how many slots; a slot's bytes, its physical length, and the header block that a read of it gives where the plan leaves it alone
  pub Fit : W → Type 0
  pub slots : W → ℕ
  pub slot_bytes : W → ℕ → List ℕ
  pub phys : W → ℕ → ℕ
  pub block : W → ℕ → List ℕ
  -- the place in the plan, what the last call came to, and that the plan leaves the next call alone
  pub place : W → ℕ
  pub last : W → ℕ
  pub calm : W → Bool
  -- a call; the bytes that a read gives; the call is neither failed nor cut short; it failed
  pub act : W → Call → W
  pub given : W → Call → List ℕ
  pub ok : W → Call → Bool
  pub failed : W → Call → Bool
  -- fewer than 512 bytes: short
  pub block_is : (w : W) (i : ℕ) → block w i ≡ take (min 512 (phys w i)) (slot_bytes w i)
  pub block_length : (w : W) (i : ℕ) → Fit w → i < slots w → length (block w i) ≡ min 512 (phys w i)
  -- (a) a header write that is whole, and one that is cut short
  pub written : (w : W) (i : ℕ) (ys : List ℕ) → ok w (header i ys) ≡ true → block (act w (header i ys)) i ≡ ys
  pub torn : (w : W) (i : ℕ) (ys : List ℕ) → ok w (header i ys) ≡ false → failed w (header i ys) ≡ false
      → block (act w (header i ys)) i ≡ take 256 ys ++ drop 256 (block w i)
  -- (a, b, d) a failed call, a call on another slot, a read and a flush leave a slot's bytes and length
  pub failed_stays : (w : W) (c : Call) (j : ℕ) → failed w c ≡ true → (slot_bytes (act w c) j ≡ slot_bytes w j) × (phys (act w c) j ≡ phys w j)
  pub other_stays : (w : W) (c : Call) (j : ℕ) → j ≢ slot_of c → (slot_bytes (act w c) j ≡ slot_bytes w j) × (phys (act w c) j ≡ phys w j)
  pub quiet_stays : (w : W) (c : Call) (j : ℕ) → quiet c ≡ true → (slot_bytes (act w c) j ≡ slot_bytes w j) × (phys (act w c) j ≡ phys w j)
  -- (c) the shape stays, with its number of slots and their sizes
  pub fit_stays : (w : W) (c : Call) → Fit w → Fit (act w c)
  pub slots_stay : (w : W) (c : Call) → slots (act w c) ≡ slots w
  pub within : (w : W) (i : ℕ) → Fit w → phys w i ≤ size
  pub slot_bytes_long : (w : W) (i : ℕ) → Fit w → i < slots w → length (slot_bytes w i) ≡ size
  -- (e) a write or a truncate of the file leaves the block, filled up with zeros to 512 bytes
  pub file_block : (w : W) (c : Call) → on_file c ≡ true → failed w c ≡ false → block (act w c) (slot_of c) ≡ pad 512 (block w (slot_of c))
  -- (f)
  pub whole : (w : W) (c : Call) → Whole (phys w) → ok w c ≡ true → Whole (phys (act w c))
  -- (g) every call moves the place, whatever comes of it
  pub moves : (w : W) (c : Call) → Fit w → slot_of c < slots w → sound c ≡ true → place (act w c) ≡ moved planned (place w)
  -- what a header read and a read of the file give: all, or the first half, or nothing
  pub looked : (w : W) (i : ℕ) → ok w (look i) ≡ true → given w (look i) ≡ block w i
  pub half_looked : (w : W) (i : ℕ) → ok w (look i) ≡ false → failed w (look i) ≡ false → given w (look i) ≡ take (length (block w i) / 2) (block w i)
  pub loaded : (w : W) (i at n : ℕ) → ok w (load i at n) ≡ true → given w (load i at n) ≡ take n (drop (512 + at) (take (phys w i) (slot_bytes w i)))
  pub none_given : (w : W) (c : Call) → failed w c ≡ true → given w c ≡ []
  -- a call that did not fail was of a slot that is there; one that is ok did not fail; the number that it came to says so
  pub did : (w : W) (c : Call) → failed w c ≡ false → Fit w × (slot_of c < slots w) × (sound c ≡ true)
  pub ok_did : (w : W) (c : Call) → ok w c ≡ true → failed w c ≡ false
  pub last_failed : (w : W) (c : Call) → Fit w → slot_of c < slots w → sound c ≡ true → failed w c ≡ eqb (last (act w c)) 10
  pub last_ok : (w : W) (c : Call) → Fit w → slot_of c < slots w → sound c ≡ true → reads c ≡ false → ok w c ≡ eqb (last (act w c)) 0
  -- what the plan leaves alone and lies in its slot is ok
  pub calm_ok : (w : W) (c : Call) → Fit w → slot_of c < slots w → sound c ≡ true → calm w ≡ true → Inside size c → ok w c ≡ true

-- ---- what follows for every device

module _ (D : Device) where
  open D use {W, Fit, slots, slot_bytes, phys, block, place, planned, act, ok, failed, block_is, block_length, failed_stays, other_stays, quiet_stays, fit_stays, slots_stay, file_block, moves, did, ok_did, written}

  -- where bytes and length stay, so does the block
  pub same_block : (w v : W) (j : ℕ) → (slot_bytes v j ≡ slot_bytes w j) × (phys v j ≡ phys w j) → block v j ≡ block w j
  same_block w v j s = block_is v j ∙ ap₂ (λ (n : ℕ) (l : List ℕ). take (min 512 n) l) s.1 s.0 ∙ sym (block_is w j)

  pub other_block : (w : W) (c : Call) (j : ℕ) → j ≢ slot_of c → block (act w c) j ≡ block w j
  other_block w c j ne = same_block w (act w c) j (other_stays w c j ne)

  pub quiet_block : (w : W) (c : Call) (j : ℕ) → quiet c ≡ true → block (act w c) j ≡ block w j
  quiet_block w c j q = same_block w (act w c) j (quiet_stays w c j q)

  -- a header write that failed leaves the block, and so does any failed call
  pub failed_block : (w : W) (c : Call) (j : ℕ) → failed w c ≡ true → block (act w c) j ≡ block w j
  failed_block w c j f = same_block w (act w c) j (failed_stays w c j f)

  -- a write or a truncate of a file leaves the block of a slot of 512 bytes or more, whatever comes of it
  pub file_keeps : (w : W) (c : Call) → on_file c ≡ true → 512 ≤ phys w (slot_of c) → block (act w c) (slot_of c) ≡ block w (slot_of c)
  file_keeps w c o l = go (failed w c) refl
    where
      go : (t : Bool) → failed w c ≡ t → block (act w c) (slot_of c) ≡ block w (slot_of c)
      go true f = failed_block w c (slot_of c) f
      go false f =
          let i = slot_of c in
          let n : length (block w i) ≡ min 512 (phys w i) = block_length w i (did w c f).0 (did w c f).1 in
          let z : 512 - length (block w i) ≡ 0 = omega arith in
          file_block w c o f ∙ pad_fits 512 (block w i) (omega arith) ∙ ap (λ (k : ℕ). block w i ++ replicate k 0) z ∙ append-nil (block w i)

  -- the block of an empty slot becomes 512 zeros, which is no header
  pub file_zeros : (w : W) (c : Call) → on_file c ≡ true → failed w c ≡ false → phys w (slot_of c) ≡ 0 → block (act w c) (slot_of c) ≡ replicate 512 0
  unfolding pad
  file_zeros w c o f z =
      let e : block w (slot_of c) ≡ [] = block_is w (slot_of c) ∙ ap (λ (n : ℕ). take (min 512 n) (slot_bytes w (slot_of c))) z in
      file_block w c o f ∙ ap (pad 512) e

  -- a slot whose header was written whole has 512 bytes or more
  pub header_phys : (w : W) (i : ℕ) (ys : List ℕ) → ok w (header i ys) ≡ true → 512 ≤ phys (act w (header i ys)) i
  header_phys w i ys o =
      let c = header i ys in
      let k = did w c (ok_did w c o) in
      let r : i < slots (act w c) = rw (slots_stay w c) k.1 in
      let e : 512 ≡ length ys = sym (eqb-true (length ys) 512 k.2) in
      omega (arith, e, ap length (written w i ys o), block_length (act w c) i (fit_stays w c k.0) r)

  -- after a whole header write a flush and a truncate of the file leave the block, whatever comes of them
  pub released : (w : W) (i n : ℕ) (ys : List ℕ) → ok w (header i ys) ≡ true
      → block (act (act (act w (header i ys)) (flush i)) (truncate i n)) i ≡ ys
  released w i n ys o =
      let v = act w (header i ys) in
      let u = act v (flush i) in
      let l : 512 ≤ phys u i = rw (quiet_stays v (flush i) i refl).1 (header_phys w i ys o) in
      file_keeps u (truncate i n) refl l ∙ quiet_block v (flush i) i refl ∙ written w i ys o

  -- some calls, one after the other
  abbrev pub run : W → List Call → W
  run w [] = w
  run w (c ∷ cs) = run (act w c) cs

  -- each is of a slot that is there
  abbrev pub There : ℕ → List Call → Type 0
  There n [] = Unit {0}
  There n (c ∷ cs) = (slot_of c < n) × (sound c ≡ true) × There n cs

  moved_more : (n a k : ℕ) → max (moved n a) (min (moved n a + k) n) ≡ max a (min (a + suc k) n)
  unfolding moved
  moved_more n a k = go (ltb a n) refl
    where
      go : (t : Bool) → ltb a n ≡ t → max (cond t (a + 1) a) (min (cond t (a + 1) a + k) n) ≡ max a (min (a + suc k) n)
      go true e = let l : a < n = ltb-true a n e in omega arith
      go false e = let l : n ≤ a = ltb-false a n e in omega arith

  -- the place after k calls: k further, and not past the plan's end; at or past it, it stays
  pub places : (w : W) (cs : List Call) → Fit w → There (slots w) cs → place (run w cs) ≡ max (place w) (min (place w + length cs) planned)
  places w [] f t = omega arith
  places w (c ∷ cs) f t =
      let v = act w c in
      let m = moves w c f t.0 t.1 in
      places v cs (fit_stays w c f) (subst (λ (n : ℕ). There n cs) (sym (slots_stay w c)) t.2)
      ∙ ap (λ (a : ℕ). max a (min (a + length cs) planned)) m
      ∙ moved_more planned (place w) (length cs)
