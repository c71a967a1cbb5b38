-- What the calls' proofs cite: parts that were lent are back, and one law for each way out of a call.
use mathlib.Core.Path.{◌≡◌, refl, sym, ap, ◌∙◌}
use mathlib.Core.List.{List, [], ◌++◌}
use mathlib.Core.Bool.{Bool, true, false, cond}
use Prim.Native.Nat.{ℕ, ◌+◌, ◌-◌, ◌*◌, ◌/◌, ◌≤◌, ◌<◌, min}
use native.Mathlib.Nat.{mul-div_right}
use native.Mathlib.Omega.{arith}
use lib.ListN.{length, take, drop, get_or, set, replicate, length-replicate, length-take, length-drop}
use lib.Seq.{drop-drop, length-take-le}
use lib.Dec.{eqb, ltb}
use borrow.Author.Tests.{eq-eqb, ne_eqb, lt-ltb, le-ltb, ltb-true, ltb-false}
use Rattle.le.specs.Le.{laid}
use Rattle.le.proofs.Parts.{mid_back, laid_nothing, laid_front}
use Rattle.device.specs.declared.Place.{Place}
use Rattle.device.specs.declared.Geometry.{Geometry}
use Rattle.device.specs.Slots.{share_le}
use Rattle.device.proofs.Shapes.{slotted}
use Rattle.device.specs.Device.{dev, turn, onward, noted, share, stops, short, stores, given, read, read_m, grown, stored_bytes, stored_phys, write_m, cut, truncate_m, flushed, seen}

-- a part that was lent to a copier of src as long as it, `&mut d[a..a + src.len()]`, is back
pub copied_back : (a : ℕ) (d src : List ℕ) {ys : List ℕ} → a + length src ≤ length d
    → ys ≡ src
    → take a d ++ (ys ++ drop (a + length src - a) (drop a d)) ≡ laid d a src
copied_back a d src h e = rw e (mid_back a (length src) d src refl)

-- places zeroed in a slot are back
pub zeroed_back : (base phys to : ℕ) (d : List ℕ) {ys : List ℕ} → phys < to → base + to ≤ length d
    → ys ≡ replicate (length (take (base + to - (base + phys)) (drop (base + phys) d))) 0
    → take (base + phys) d ++ (ys ++ drop (base + to - (base + phys)) (drop (base + phys) d)) ≡ grown base phys to d
unfolding grown laid
zeroed_back base phys to d h l e =
    let n : base + to - (base + phys) ≡ to - phys = omega arith in
    let m : length (take (base + to - (base + phys)) (drop (base + phys) d)) ≡ to - phys = simp (length-take, length-drop) (omega arith) in
    rw (e, m, n, drop-drop, length-replicate)

pub grown_none : (base phys to : ℕ) (d : List ℕ) → to ≤ phys → d ≡ grown base phys to d
unfolding grown
grown_none base phys to d h =
    let z : to - phys ≡ 0 = omega arith in
    rw z (sym (laid_nothing d (base + phys)))

-- ---- the plan

-- a flush that did not fail
pub flush_ok : (plan : List ℕ) (p : Place) {r : Place} → r ≡ flushed plan p → r.last ≡ 0 → (stops (turn plan p) ≡ false) × (r ≡ onward plan 0 p)
unfolding flushed onward
flush_ok plan p {r} e z = go (stops (turn plan p)) refl
  where
    go : (t : Bool) → stops (turn plan p) ≡ t → (stops (turn plan p) ≡ false) × (r ≡ onward plan 0 p)
    go true q =
        let k : ◌≡◌ {A = ℕ} 10 0 = sym (ap (λ (x : Place). x.last) e ∙ ap (λ (x : Bool). cond x 10 0) q) ∙ z in
        absurd (omega arith)
    go false q = (q, e ∙ ap (λ (x : Bool). onward plan (cond x 10 0) p) q)

-- ---- a read

-- nothing lies past the physical length
given_past : (plan : List ℕ) (g : Geometry) (slot pos count : ℕ) (b h : List ℕ) (p : Place) → get_or h slot 0 ≤ pos → given plan g slot pos count (dev b h p) ≡ []
unfolding given
given_past plan g slot pos count b h p l = go (eqb (turn plan p) 1)
  where
    none : share (turn plan p) (min count (get_or h slot 0 - pos)) ≡ 0
    none = omega (arith, share_le (turn plan p) (min count (get_or h slot 0 - pos)))

    go : (t : Bool) → cond t [] (take (share (turn plan p) (min count (get_or h slot 0 - pos))) (drop (slot * g.size + pos) b)) ≡ []
    go true = refl
    go false = rw none

module _ (plan : List ℕ) (g : Geometry) (slot pos : ℕ) (dst b h : List ℕ) (p : Place) {byte : ℕ} {r : Place} (t : byte ≡ turn plan p) where
  out : {dst' ys : List ℕ} {n : ℕ} (x : Bool) → given plan g slot pos (length dst) (dev b h p) ≡ ys → dst' ≡ laid dst 0 ys → n ≡ length ys
      → eqb byte 1 ≡ x → r ≡ onward plan (cond x 10 0) p → read dst' (record { count = n; place = r }) ≡ read_m plan g slot pos dst (dev b h p)
  unfolding read_m seen
  out x e f k q s = rw (e, ← t, q) (cc)

  pub read_failed : byte ≡ 1 → r ≡ onward plan 10 p → read dst (record { count = 0; place = r }) ≡ read_m plan g slot pos dst (dev b h p)
  unfolding given
  read_failed e s = out true (rw (← t, eq-eqb byte 1 e)) (sym (laid_nothing dst 0)) refl (eq-eqb byte 1 e) s

  pub read_past : (byte ≡ 1 → ⊥) → get_or h slot 0 ≤ pos → r ≡ onward plan 0 p → read dst (record { count = 0; place = r }) ≡ read_m plan g slot pos dst (dev b h p)
  read_past ne l s = out false (given_past plan g slot pos (length dst) b h p l) (sym (laid_nothing dst 0)) refl (ne_eqb byte 1 ne) s

  -- the part that was lent to the copier is laid over the front
  pub read_done : {dst' : List ℕ} {n m : ℕ} → (byte ≡ 1 → ⊥) → m ≡ min (length dst) (get_or h slot 0 - pos) → n ≡ share byte m → slot * g.size + pos + n ≤ length b
      → (let m : ℕ = slot * g.size + pos + n - (slot * g.size + pos) in dst' ≡ take m (drop (slot * g.size + pos) b) ++ drop m dst)
      → r ≡ onward plan 0 p → read dst' (record { count = n; place = r }) ≡ read_m plan g slot pos dst (dev b h p)
  unfolding given
  read_done {n = n} ne e f l d s =
      let from = slot * g.size + pos in
      let k : from + n - from ≡ n = omega arith in
      let w : length (take n (drop from b)) ≡ n = simp (length-take, length-drop) (omega arith) in
      out {ys = take n (drop from b)} false (rw (← t, ne_eqb byte 1 ne, ← e, ← f)) (d ∙ rw k (ap (λ (x : ℕ). take n (drop from b) ++ drop x dst) (sym w) ∙ sym (laid_front dst (take n (drop from b))))) (sym w) (ne_eqb byte 1 ne) s

-- how long the parts are that are copied
pub ruleset parts_read = (slotted, share_le, length-take, length-drop)

-- ---- a write

module _ (plan : List ℕ) (g : Geometry) (slot pos : ℕ) (src b h : List ℕ) (p : Place) {byte : ℕ} {r : Place} (t : byte ≡ turn plan p) where
  pub write_failed : byte ≡ 1 → r ≡ onward plan 10 p → dev b h r ≡ write_m plan g slot pos src (dev b h p)
  unfolding write_m
  write_failed e f = rw (← t, eq-eqb byte 1 e) (ap (λ (x : Place). dev b h x) f)

  pub write_beyond : (byte ≡ 1 → ⊥) → g.size < pos → r ≡ onward plan 10 p → dev b h r ≡ write_m plan g slot pos src (dev b h p)
  unfolding write_m
  write_beyond ne l f = rw (← t, ne_eqb byte 1 ne, lt-ltb g.size pos l) (ap (λ (x : Place). dev b h x) f)

  pub write_done : {b' h' : List ℕ} {n m o : ℕ} → (byte ≡ 1 → ⊥) → pos ≤ g.size → m ≡ min (length src) (g.size - pos) → n ≡ share byte m
      → (b' ≡ stored_bytes (slot * g.size) (get_or h slot 0) pos (take n src) b) × (h' ≡ stored_phys slot pos (length (take n src)) h)
      → o ≡ short n (length src) → r ≡ onward plan o p → dev b' h' r ≡ write_m plan g slot pos src (dev b h p)
  unfolding write_m stores
  write_done ne l e f s o q = rw (← t, ne_eqb byte 1 ne, le-ltb g.size pos l, ← e, ← f) (cc (s.0, s.1))

-- what is stored lies in the slot
pub stores_fit : (byte pos size : ℕ) (src : List ℕ) {n m : ℕ} → pos ≤ size → m ≡ min (length src) (size - pos) → n ≡ share byte m → (n ≤ length src) × (pos + length (take n src) ≤ size)
stores_fit byte pos size src {n} {m} l e f =
    let k : n ≤ m = omega (arith, share_le byte m) in
    let j : length (take n src) ≡ n = length-take-le n src (omega arith) in
    (omega arith, omega arith)

pub stored_out : (b src : List ℕ) (base phys pos : ℕ) {b' b'' : List ℕ} → b' ≡ grown base phys pos b → b'' ≡ laid b' (base + pos) src → b'' ≡ stored_bytes base phys pos src b
unfolding stored_bytes
stored_out b src base phys pos e f = f ∙ ap (λ (x : List ℕ). laid x (base + pos) src) e

-- ---- a truncate

module _ (plan : List ℕ) (g : Geometry) (slot len : ℕ) (b h : List ℕ) (p : Place) {done : Place} (f : done ≡ flushed plan p) where
  pub cut_failed : (done.last ≡ 0 → ⊥) → dev b h done ≡ truncate_m plan g slot len (dev b h p)
  unfolding truncate_m flushed onward
  cut_failed ne = go (stops (turn plan p)) refl
    where
      go : (t : Bool) → stops (turn plan p) ≡ t
          → dev b h done ≡ cond t (noted plan 10 (dev b h p)) (cond (ltb g.size len) (noted plan 10 (dev b h p)) (noted plan 0 (cut g slot len (dev b h p))))
      go true q = ap (λ (x : Place). dev b h x) (f ∙ ap (λ (x : Bool). onward plan (cond x 10 0) p) q)
      go false q = absurd (ne (ap (λ (x : Place). x.last) f ∙ ap (λ (x : Bool). cond x 10 0) q))

  pub cut_beyond : {r : Place} → done.last ≡ 0 → g.size < len → r ≡ onward plan 10 p → dev b h r ≡ truncate_m plan g slot len (dev b h p)
  unfolding truncate_m
  cut_beyond z l e = rw ((flush_ok plan p f z).0, lt-ltb g.size len l) (ap (λ (x : Place). dev b h x) e)

  pub cut_done : {b' : List ℕ} {end : ℕ} → done.last ≡ 0 → end ≡ len → len ≤ g.size → b' ≡ grown (slot * g.size) (get_or h slot 0) end b
      → dev b' (set h slot end) done ≡ truncate_m plan g slot len (dev b h p)
  unfolding truncate_m
  cut_done z k l e = rw ((flush_ok plan p f z).0, le-ltb g.size len l) (cc (flush_ok plan p f z).1)

-- ---- file offsets: beyond the slot one place is as another

pub read_clamped : (plan : List ℕ) (g : Geometry) (slot at : ℕ) (dst b h : List ℕ) (p : Place) {e : ℕ} → e ≡ min (512 + at) (g.size + 1) → get_or h slot 0 ≤ g.size
    → read_m plan g slot e dst (dev b h p) ≡ read_m plan g slot (512 + at) dst (dev b h p)
unfolding read_m
read_clamped plan g slot at dst b h p {e} c w = go (ltb g.size (512 + at)) refl
  where
    go : (t : Bool) → ltb g.size (512 + at) ≡ t → read_m plan g slot e dst (dev b h p) ≡ read_m plan g slot (512 + at) dst (dev b h p)
    go true q =
        let l : g.size < 512 + at = ltb-true g.size (512 + at) q in
        rw (given_past plan g slot e (length dst) b h p (omega arith), given_past plan g slot (512 + at) (length dst) b h p (omega arith))
    go false q =
        let l : 512 + at ≤ g.size = ltb-false g.size (512 + at) q in
        let k : e ≡ 512 + at = omega arith in
        rw k

pub write_clamped : (plan : List ℕ) (g : Geometry) (slot at : ℕ) (src b h : List ℕ) (p : Place) {e : ℕ} → e ≡ min (512 + at) (g.size + 1)
    → write_m plan g slot e src (dev b h p) ≡ write_m plan g slot (512 + at) src (dev b h p)
unfolding write_m
write_clamped plan g slot at src b h p {e} c = go (ltb g.size (512 + at)) refl
  where
    go : (t : Bool) → ltb g.size (512 + at) ≡ t → write_m plan g slot e src (dev b h p) ≡ write_m plan g slot (512 + at) src (dev b h p)
    go true q =
        let l : g.size < 512 + at = ltb-true g.size (512 + at) q in
        let k : g.size < e = omega arith in
        rw (lt-ltb g.size e k, q)
    go false q =
        let l : 512 + at ≤ g.size = ltb-false g.size (512 + at) q in
        let k : e ≡ 512 + at = omega arith in
        rw k

-- ---- the shape

pub quotient_less : (n size k : ℕ) → 0 < size → n / size < k → n ≡ size * k → ⊥
quotient_less n size k p l e =
    let q : n / size ≡ k = rw e (mul-div_right k p) in
    omega arith
