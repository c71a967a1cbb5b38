-- What the shape test means, and what keeps the shape.
use mathlib.Core.Path.{◌≡◌, ◌∙◌}
use mathlib.Core.Logic.{◌↔◌}
use mathlib.Core.Bool.{true}
use mathlib.Core.List.{List}
use Prim.Native.Nat.{ℕ, ◌+◌, ◌*◌, ◌%◌, ◌≤◌, ◌<◌, max}
use native.Mathlib.Nat.{mul-le-mul_left}
use native.Mathlib.Decide.{ℕ_discrete}
use native.Mathlib.Omega.{arith}
use lib.ListN.{length, get_or, set, length-set}
use lib.Seq.{get_or-set_same, get_or-set_other}
use lib.Dec.{leb}
use borrow.Author.Tests.{leb-true, le-leb, eqb-true, eq-eqb}
pub use Rattle.lists.specs.Bools.{both}
use Rattle.lists.specs.Runs.{all_at, all_intro}
use Rattle.device.specs.declared.Geometry.{Geometry}
use Rattle.device.specs.Device.{Shape, Slotted, shape_b, stored_phys}

-- The test says true just of the devices of the right shape.
pub shape_means : (g : Geometry) (bytes phys : List ℕ) → shape_b g bytes phys ≡ true ↔ Shape g bytes phys
unfolding shape_b
shape_means g bytes phys = (λ e. there e, λ s. back s)
  where
    there : shape_b g bytes phys ≡ true → Shape g bytes phys
    there e =
        let a = both _ _ e in
        let b = both _ _ a.0 in
        let c = both _ _ b.0 in
        let d = both _ _ c.0 in
        record {
          least = leb-true 512 g.size d.0;
          most = leb-true g.size 1048576 d.1;
          multiple = eqb-true (g.size % 512) 0 c.1;
          slots = eqb-true (length bytes) (g.size * length phys) b.1;
          within = λ i l. leb-true (get_or phys i 0) g.size (all_at (λ j. leb (get_or phys j 0) g.size) 0 (length phys) i a.1 (omega arith) (omega arith));
        }

    back : Shape g bytes phys → shape_b g bytes phys ≡ true
    back s =
        rw (le-leb 512 g.size s.least, le-leb g.size 1048576 s.most, eq-eqb (g.size % 512) 0 s.multiple, eq-eqb (length bytes) (g.size * length phys) s.slots)
        (all_intro (λ j. leb (get_or phys j 0) g.size) 0 (length phys) (λ j p q. le-leb (get_or phys j 0) g.size (s.within j (omega arith))))

-- What the work on one of its slots asks.
pub slotted : {g : Geometry} {slot : ℕ} {b h : List ℕ} → Shape g b h → slot < length h → Slotted g.size slot b h
slotted {g} s l =
    record {
      room = omega (arith, mul-le-mul_left g.size l, s.slots);
      row = l;
      within = s.within _ l;
    }

-- The shape stays where one length is set within the size.
within_set : (size : ℕ) (h : List ℕ) (slot v : ℕ) → v ≤ size → ((i : ℕ) → i < length h → get_or h i 0 ≤ size) → (i : ℕ) → i < length (set h slot v) → get_or (set h slot v) i 0 ≤ size
within_set size h slot v l w i k = go (ℕ_discrete i slot)
  where
    k' : i < length h
    k' = rw length-set at k

    go : Dec (i ≡ slot) → get_or (set h slot v) i 0 ≤ size
    go (yes e) = rw e (rw (get_or-set_same h slot v 0 (rw e at k')) l)
    go (no ne) = rw (get_or-set_other h slot i v 0 ne) (w i k')

pub shape_set : {g : Geometry} {b h : List ℕ} (b' h' : List ℕ) (slot v : ℕ) → Shape g b h → length b' ≡ length b → h' ≡ set h slot v → v ≤ g.size → Shape g b' h'
shape_set {g} {b} {h} b' h' slot v s l e k =
    record {
      least = s.least;
      most = s.most;
      multiple = s.multiple;
      slots = l ∙ rw (e, length-set) s.slots;
      within = rw e (within_set g.size h slot v k s.within);
    }

pub shape_stored : {g : Geometry} {b h : List ℕ} (b' h' : List ℕ) (slot pos n : ℕ) → Shape g b h → slot < length h → length b' ≡ length b → h' ≡ stored_phys slot pos n h → pos + n ≤ g.size → Shape g b' h'
unfolding stored_phys
shape_stored {h = h} b' h' slot pos n s k l e q = shape_set b' h' slot (max (get_or h slot 0) (pos + n)) s l e (omega (arith, s.within slot k))
