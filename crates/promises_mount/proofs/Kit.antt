-- The real paths, headers and device as a kit of the model: `real_kit`. Its laws are those of paths, and what Free says of a release.
use Prim.Native.Nat.{ℕ, zero, suc, ◌≤◌}
use native.Mathlib.Omega.{arith}
use mathlib.Core.Path.{◌≡◌, refl, ap}
use mathlib.Core.Logic.{inl, inr, ⊎_elim}
use mathlib.Core.List.{List}
use lib.ListN.{length}
use Rattle.lists.specs.Same.{same_bytes, same_bytes_eq, same_bytes_refl}
use Rattle.path.specs.Path.{same_path, ancestors}
use Rattle.path.proofs.Theorems.{same_path_lem, same_path_refl, same_path_sym, same_path_trans}
use Rattle.path.proofs.Ancestors.{ancestors_same}
use Rattle.device.specs.declared.Geometry.{Geometry}
use Rattle.device.specs.Device.{Dev, Shape}
use Rattle.pool_steps.specs.Steps.{fine_m, free_m}
use Rattle.pool_steps.proofs.Stays.{free_kept}
use Rattle.mount_survey.specs.Heads.{Head, absent, idle, claim, looked}
use Rattle.promises_model.specs.Model.{Claim, Kit}
use Rattle.promises_model.specs.Model as M
use Rattle.promises_mount.specs.Words.{header_at}
use Rattle.promises_mount.proofs.Free.{free_keeps, free_frees, free_stays}

-- a device with its plan
pub record Planned : Type 0 where
  pub plan : List ℕ
  pub dev : Dev

abbrev pub planned : List ℕ → Dev → Planned
planned plan d = record { plan = plan; dev = d }

abbrev pub claim_of : List ℕ → ℕ → ℕ → Claim (List ℕ)
claim_of p e l = record { path = p; gen = e; len = l }

-- a header in the model's words
abbrev pub said : Head → M.Head (List ℕ)
said absent = M.absent
said (idle e) = M.idle e
said (claim p e l) = M.claim (claim_of p e l)

-- the device after m header reads
unfoldable pub looks : List ℕ → ℕ → Dev → Dev
looks plan zero d = d
looks plan (suc m) d = looks plan m (looked plan d)

-- a header read changes no byte and no length
pub looks_shape : (g : Geometry) (plan : List ℕ) (m : ℕ) (d : Dev) → Shape g d.bytes d.phys
    → Shape g (looks plan m d).bytes (looks plan m d).phys
unfolding looks looked
looks_shape g plan zero d s = s
looks_shape g plan (suc m) d s = looks_shape g plan m (looked plan d) s

pub looks_slots : (plan : List ℕ) (m : ℕ) (d : Dev) → length (looks plan m d).phys ≡ length d.phys
unfolding looks looked
looks_slots plan zero d = refl
looks_slots plan (suc m) d = looks_slots plan m (looked plan d)

pub looks_header : (g : Geometry) (plan : List ℕ) (m : ℕ) (d : Dev) (i : ℕ) → header_at g (looks plan m d) i ≡ header_at g d i
unfolding looks looked header_at
looks_header g plan zero d i = refl
looks_header g plan (suc m) d i = looks_header g plan m (looked plan d) i

abbrev pub real_kit : Geometry → Kit
real_kit g =
    record {
      Path = List ℕ;
      same = same_path;
      same_refl = same_path_refl;
      same_sym = same_path_sym;
      same_trans = same_path_trans;
      Dir = List ℕ;
      eq_dir = same_bytes;
      eq_dir_true = same_bytes_eq;
      eq_dir_refl = same_bytes_refl;
      ancestors = ancestors;
      ancestors_same = λ p q h. ancestors_same p q ((same_path_lem p q).0 h);
      Device = Planned;
      Has = λ w n. Shape g w.dev.bytes w.dev.phys × (n ≤ length w.dev.phys);
      head = λ w i. said (header_at g w.dev i);
      seen = λ w k m. planned w.plan (looks w.plan m w.dev);
      has_seen = λ w n k m h. (looks_shape g w.plan m w.dev h.0, omega (arith, looks_slots w.plan m w.dev, h.1));
      sees = λ w k m i. ap said (looks_header g w.plan m w.dev i);
      free = λ w i e. planned w.plan (free_m w.plan g i e w.dev);
      fine = λ w i e. fine_m (free_m w.plan g i e w.dev);
      has_free = λ w n i e h l.
          let k = free_kept w.plan g i w.dev h.0 (omega (arith, h.1)) e in
          (k.shape, omega (arith, k.slots, h.1));
      keeps = λ w n i e j h l u ne. ap said (free_keeps w.plan g i e w.dev h.0 (omega (arith, h.1)) j ne);
      frees = λ w n i e h l t f. ap said (free_frees w.plan g i e w.dev h.0 (omega (arith, h.1)) t f);
      stays =
          λ w n i e h l t f. ⊎_elim (λ u. inl (ap said u)) (λ u. inr (ap said u))
          (free_stays w.plan g i e w.dev h.0 (omega (arith, h.1)) t);
    }
