-- What is refused, way by way, and what a call that is let through may rely on; over plain values.
use Prim.Native.Nat.{ℕ, ◌≤◌, ◌<◌}
use mathlib.Core.Path.{◌≡◌, refl, sym, ap, ◌∙◌}
use mathlib.Core.Bool.{Bool, true, false, cond, not}
use mathlib.Core.List.{List, []}
use native.Mathlib.Omega.{arith}
use borrow.Author.Tests.{eq-eqb, ne_eqb, lt-ltb, le-ltb, le-leb, lt-leb, ltb-false, leb-false}
use lib.Dec.{leb, ltb}
use lib.ListN.{length}
use Rattle.text.specs.Text.{is_text}
use Rattle.header.specs.Block.{max_path}
use Rattle.device.specs.declared.Geometry.{Geometry}
use Rattle.device.specs.declared.Got.{Got}
use Rattle.device.specs.Device.{Dev, dev, Shape, shape_b, read, data_read_m}
use Rattle.device.proofs.Shapes.{shape_means}
use Rattle.slot_calls.specs.SlotCalls.{SlotDone, slot_done, slot_read, done_by, read_by, slot_refusal, unless_refused, read_slot_m}

-- ---- what is refused

module _ (g : Geometry) (bytes phys path : List ℕ) (slot : ℕ) where
  pub wrong_shape : shape_b g bytes phys ≡ false → 2 ≡ slot_refusal g bytes phys path slot
  unfolding slot_refusal
  wrong_shape a = rw a

  module _ (a : shape_b g bytes phys ≡ true) where
    pub no_text_lem : is_text path ≡ false → 3 ≡ slot_refusal g bytes phys path slot
    unfolding slot_refusal
    no_text_lem b = rw (a, b)

    module _ (b : is_text path ≡ true) where
      pub too_long_lem : max_path < length path → 4 ≡ slot_refusal g bytes phys path slot
      unfolding slot_refusal
      too_long_lem c = rw (a, b, lt-ltb _ _ c)

      module _ (c : length path ≤ max_path) where
        pub out_of_range : length phys ≤ slot → 6 ≡ slot_refusal g bytes phys path slot
        unfolding slot_refusal
        out_of_range d = rw (a, b, le-ltb _ _ c, le-leb _ _ d)

        pub not_refused : slot < length phys → 0 ≡ slot_refusal g bytes phys path slot
        unfolding slot_refusal
        not_refused d = rw (a, b, le-ltb _ _ c, lt-leb _ _ d)

  -- What a call that is let through may rely on.
  pub record Passed : Type 0 where
    pub shape : Shape g bytes phys
    pub text : is_text path ≡ true
    pub short : length path ≤ max_path
    pub row : slot < length phys

  pub passed : ◌≡◌ {A = ℕ} 0 (slot_refusal g bytes phys path slot) → Passed
  unfolding slot_refusal
  passed = go (shape_b g bytes phys) (is_text path) (ltb max_path (length path)) (leb (length phys) slot) refl refl refl refl
    where
      go : (a b c d : Bool) → shape_b g bytes phys ≡ a → is_text path ≡ b → ltb max_path (length path) ≡ c → leb (length phys) slot ≡ d
          → ◌≡◌ {A = ℕ} 0 (cond (not a) 2 (cond (not b) 3 (cond c 4 (cond d 6 0)))) → Passed
      go false b c d p q r s e = absurd (omega (arith, e))
      go true false c d p q r s e = absurd (omega (arith, e))
      go true true true d p q r s e = absurd (omega (arith, e))
      go true true false true p q r s e = absurd (omega (arith, e))
      go true true false false p q r s e =
          record { shape = (shape_means g bytes phys).0 p; text = q; short = ltb-false _ _ r; row = leb-false _ _ s }

-- ---- a call that is refused, and one that is made

module _ (g : Geometry) (path : List ℕ) (slot : ℕ) (d : Dev) (n : ℕ) (e : n ≡ slot_refusal g d.bytes d.phys path slot) where
  pub refused_is : (made : SlotDone) → (n ≡ 0 → ⊥) → slot_done n d ≡ unless_refused g path slot d made
  refused_is made ne = rw (← e, ne_eqb _ _ ne)

  pub made_is : (made x : Dev) → n ≡ 0 → x ≡ made → done_by x ≡ unless_refused g path slot d (done_by made)
  made_is made x z h = rw (← e, eq-eqb _ _ z) (ap done_by h)

  pub let_through : n ≡ 0 → Passed g d.bytes d.phys path slot
  let_through z = passed g d.bytes d.phys path slot (sym z ∙ e)

-- what the device call of a write and of a truncate asks: named at the two
module _ (g : Geometry) (bytes phys path : List ℕ) (slot n : ℕ) (e : n ≡ slot_refusal g bytes phys path slot) (z : n ≡ 0) where
  pub shaped : Shape g bytes phys
  shaped = (passed g bytes phys path slot (sym z ∙ e)).shape

  pub held : slot < length phys
  held = (passed g bytes phys path slot (sym z ∙ e)).row

module _ (plan : List ℕ) (g : Geometry) (slot at : ℕ) (buf : List ℕ) (d : Dev) (n : ℕ)
    (e : n ≡ slot_refusal g d.bytes d.phys [] slot) where
  pub read_refused : (n ≡ 0 → ⊥) → slot_read n 0 buf d ≡ read_slot_m plan g slot at buf d
  unfolding read_slot_m
  read_refused ne = rw (← e, ne_eqb _ _ ne)

  pub read_made : (b : List ℕ) (r : Got) → n ≡ 0 → read b r ≡ data_read_m plan g slot at buf d
      → slot_read r.place.last r.count b (dev d.bytes d.phys r.place) ≡ read_slot_m plan g slot at buf d
  unfolding read_slot_m
  read_made b r z h = rw (← e, eq-eqb _ _ z) (ap (read_by d) h)
