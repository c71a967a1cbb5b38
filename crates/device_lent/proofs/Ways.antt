-- Device calls one after the other until one is not done, and the two ways out of a header's write, over plain values.
use Prim.Native.Nat.{ℕ}
use mathlib.Core.Path.{◌≡◌, sym, ap, ◌∙◌}
use mathlib.Core.Bool.{true, false}
use mathlib.Core.List.{List}
use borrow.Author.Tests.{eq-eqb, ne_eqb}
use Rattle.device.specs.declared.Place.{Place}
use Rattle.device.specs.declared.Geometry.{Geometry}
use Rattle.device.specs.Device.{Dev, dev, flushed, flush_m, header_write_m}
use Rattle.device_lent.specs.Put.{fine_m, and_then, put_m}

-- the last call was not done: the next is not made
pub then_stopped : (d e : Dev) (next : Dev → Dev) → e ≡ d → (e.place.last ≡ 0 → ⊥) → e ≡ and_then d next
then_stopped d e next q ne =
    let f : fine_m d ≡ false = ne_eqb _ _ (λ z. ne (ap (λ (x : Dev). x.place.last) q ∙ z)) in
    rw f q

-- it was: the next is made
pub then_goes : (d e a : Dev) (next : Dev → Dev) → e ≡ d → e.place.last ≡ 0 → a ≡ next e → a ≡ and_then d next
then_goes d e a next q z h =
    let f : fine_m d ≡ true = eq-eqb _ _ (sym (ap (λ (x : Dev). x.place.last) q) ∙ z) in
    rw f (h ∙ ap next q)

-- the write of a header's block came to bytes b, lengths h and place p
module _ (plan : List ℕ) (g : Geometry) (i : ℕ) (d : Dev) (b h : List ℕ) (p : Place) (block : List ℕ) (w : dev b h p ≡ header_write_m plan g i block d) where
  pub put_stopped : (p.last ≡ 0 → ⊥) → dev b h p ≡ put_m plan g i block d
  unfolding put_m
  put_stopped ne = then_stopped (header_write_m plan g i block d) (dev b h p) (flush_m plan) w ne

  pub put_done : (r : Place) → p.last ≡ 0 → r ≡ flushed plan p → dev b h r ≡ put_m plan g i block d
  unfolding put_m flush_m
  put_done r z f = then_goes (header_write_m plan g i block d) (dev b h p) (dev b h r) (flush_m plan) w z (ap (dev b h) f)
