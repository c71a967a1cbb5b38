-- A header written and flushed, on its slot: what the block is where it was written whole, and where it was not.
use Prim.Native.Nat.{ℕ, ◌≤◌, ◌<◌}
use mathlib.Core.Path.{◌≡◌, refl, ◌∙◌, subst}
use mathlib.Core.Logic.{◌⊎◌, inl, inr}
use mathlib.Core.Bool.{Bool, true, false}
use mathlib.Core.List.{List, ◌++◌}
use lib.ListN.{length, take, drop}
use borrow.Author.Tests.{eq-eqb}
use Rattle.device.specs.declared.Geometry.{Geometry}
use Rattle.device.specs.Device.{Dev, Shape, phys_of, flush_m, header_write_m}
use Rattle.device.specs.AnyDevice.{Call, header, header_phys, failed_block}
use Rattle.device.specs.Calls.{act_m, failed_m, whole_m, block_of}
use Rattle.device.proofs.CallByCall.{acts, be_may}
use Rattle.device.proofs.Memory.{memory}
use Rattle.device_lent.specs.Put.{fine_m, put_m}

module _ (plan : List ℕ) (g : Geometry) (i : ℕ) (d : Dev) (s : Shape g d.bytes d.phys) (r : i < length d.phys) (ys : List ℕ)
    (o : length ys ≡ 512) where
  abbrev stored : Dev
  stored = header_write_m plan g i ys d

  abbrev call : Call
  call = header i ys

  acted : act_m plan g d call ≡ stored
  acted = acts plan g d call s r (eq-eqb _ _ o)

  was_ok : whole_m plan g d call ≡ fine_m stored
  was_ok = rw (be_may plan g d call s r (eq-eqb _ _ o))

  -- a header that was written whole, flushed or not
  pub put_block : fine_m stored ≡ true → block_of g i (put_m plan g i ys d) ≡ ys
  unfolding put_m flush_m
  put_block f = rw f (subst (λ (x : Dev). block_of g i x ≡ ys) acted ((memory plan g).written d i ys (was_ok ∙ f)))

  pub put_phys : fine_m stored ≡ true → 512 ≤ phys_of i (put_m plan g i ys d)
  unfolding put_m flush_m
  put_phys f = rw f (subst (λ (x : Dev). 512 ≤ phys_of i x) acted (header_phys (memory plan g) d i ys (was_ok ∙ f)))

  -- one that was not: as before, or cut to its first half
  pub put_stopped : fine_m stored ≡ false → (put_m plan g i ys d ≡ stored)
      × ((block_of g i stored ≡ block_of g i d) ⊎ (block_of g i stored ≡ take 256 ys ++ drop 256 (block_of g i d)))
  unfolding put_m
  put_stopped f = (rw f, go (failed_m plan g d call) refl)
    where
      go : (t : Bool) → failed_m plan g d call ≡ t → (block_of g i stored ≡ block_of g i d) ⊎ (block_of g i stored ≡ take 256 ys ++ drop 256 (block_of g i d))
      go true e = inl (subst (λ (x : Dev). block_of g i x ≡ block_of g i d) acted (failed_block (memory plan g) d call i e))
      go false e = inr (subst (λ (x : Dev). block_of g i x ≡ take 256 ys ++ drop 256 (block_of g i d)) acted ((memory plan g).torn d i ys (was_ok ∙ f) e))
