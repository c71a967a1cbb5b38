-- The device calls of a header write and of a release, as a list of which one is made after the other until one is not done.
use Prim.Native.Nat.{ℕ, ◌<◌}
use mathlib.Core.Path.{◌≡◌, refl, sym, ap, ◌∙◌}
use mathlib.Core.Bool.{Bool, true, false, cond}
use mathlib.Core.List.{List, [], ◌∷◌}
use lib.ListN.{length}
use borrow.Author.Tests.{eq-eqb}
use Rattle.device.specs.declared.Geometry.{Geometry}
use Rattle.device.specs.Device.{Dev, Shape, flush_m, header_write_m, data_truncate_m}
use Rattle.device.specs.AnyDevice.{Device, Call, header, flush, truncate, slot_of, sound, reads}
use Rattle.device.specs.Calls.{call_m}
use Rattle.device.proofs.CallByCall.{acts}
use Rattle.device.proofs.Memory.{memory}
use Rattle.pool_steps.specs.Steps.{fine_m, and_then, put_m, free_block, free_m}
use Rattle.pool_steps.proofs.Stays.{Kept, call_kept, length_free}

abbrev pub put_calls : ℕ → List ℕ → List Call
put_calls i block = header i block ∷ flush i ∷ []

abbrev pub free_calls : ℕ → ℕ → List Call
free_calls i generation = header i (free_block generation) ∷ flush i ∷ truncate i 0 ∷ []

-- "It stops at the first failure", on any device.
module _ (D : Device) where
  open D use {W, act, ok}

  abbrev pub until : W → List Call → W
  until w [] = w
  until w (c ∷ cs) = cond (ok w c) (until (act w c) cs) (act w c)

-- ---- `and_then` and `until` are the same

then_same : (d : Dev) (next : Dev → Dev) (e : Dev) → next d ≡ e → and_then d next ≡ cond (fine_m d) e d
then_same d next e q = ap (λ (x : Dev). cond (fine_m d) x d) q

then_nothing : (d : Dev) → and_then d (λ x. x) ≡ d
then_nothing d = go (fine_m d)
  where
    go : (t : Bool) → cond t d d ≡ d
    go true = refl
    go false = refl

then_then : (d : Dev) (f k : Dev → Dev) → and_then (and_then d f) k ≡ and_then d (λ x. and_then (f x) k)
then_then d f k = go (fine_m d) refl
  where
    go : (t : Bool) → fine_m d ≡ t → and_then (cond t (f d) d) k ≡ cond t (and_then (f d) k) d
    go true e = refl
    go false e = rw e

module _ (plan : List ℕ) (g : Geometry) (i : ℕ) (d : Dev) (s : Shape g d.bytes d.phys) (r : i < length d.phys) where
  abbrev runs : Dev → List Call → Dev
  runs = until (memory plan g)

  -- the first call, and the rest if it was done
  step : (c : Call) (cs : List Call) (e : Dev) → Kept g d e → slot_of c ≡ i → sound c ≡ true → reads c ≡ false
      → runs e (c ∷ cs) ≡ and_then (call_m plan g c e) (λ x. runs x cs)
  step c cs e k q o n =
      let l : slot_of c < length e.phys = rw (q, k.slots) r in
      let m = (memory plan g).last_ok e c k.shape l o n in
      rw m (ap (λ (x : Dev). cond (fine_m x) (runs x cs) x) (acts plan g e c k.shape l o))

  last_step : (c : Call) (e : Dev) → Kept g d e → slot_of c ≡ i → sound c ≡ true → reads c ≡ false → runs e (c ∷ []) ≡ call_m plan g c e
  last_step c e k q o n = step c [] e k q o n ∙ then_nothing (call_m plan g c e)

  module _ (block : List ℕ) (o : length block ≡ 512) where
    abbrev wrote : Dev
    wrote = header_write_m plan g i block d

    at_start : Kept g d d
    at_start = record { shape = s; slots = refl }

    wrote_kept : Kept g d wrote
    wrote_kept = call_kept plan g (header i block) d d at_start r

    first : (cs : List Call) → runs d (header i block ∷ cs) ≡ and_then wrote (λ x. runs x cs)
    first cs = step (header i block) cs d at_start refl (eq-eqb _ _ o) refl

    pub put_calls_lem : put_m plan g i block d ≡ runs d (put_calls i block)
    unfolding put_m
    put_calls_lem = sym (first (flush i ∷ []) ∙ then_same wrote (λ x. runs x (flush i ∷ [])) (flush_m plan wrote) (last_step (flush i) wrote wrote_kept refl refl refl))

  pub free_calls_lem : (generation : ℕ) → free_m plan g i generation d ≡ runs d (free_calls i generation)
  unfolding free_m put_m
  free_calls_lem generation =
      let block = free_block generation in
      let o = length_free generation in
      let w = wrote block o in
      let k = wrote_kept block o in
      let u = flush_m plan w in
      let j : Kept g d u = call_kept plan g (flush i) d w k r in
      let cut = data_truncate_m plan g i 0 in
      let rest : runs w (flush i ∷ truncate i 0 ∷ []) ≡ and_then u cut =
      step (flush i) (truncate i 0 ∷ []) w k refl refl refl
      ∙ then_same u (λ x. runs x (truncate i 0 ∷ [])) (cut u) (last_step (truncate i 0) u j refl refl refl) in
      then_then w (flush_m plan) cut ∙ sym (first block o (flush i ∷ truncate i 0 ∷ []) ∙ then_same w (λ x. runs x (flush i ∷ truncate i 0 ∷ [])) (and_then u cut) rest)
