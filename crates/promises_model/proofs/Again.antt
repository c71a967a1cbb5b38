-- Mounting again, whatever failed: the same files and directories, by the holders of the headers as they are now (`now_holders`).
-- It is accepted where the counter has room for the losers that it finds.
use Prim.Native.Nat.{ℕ, ◌+◌, ◌≤◌, ◌<◌, ◌^◌}
use native.Mathlib.Omega.{arith}
use mathlib.Core.Path.{◌≡◌, ap}
use lib.ListN.{length}
use Rattle.limits.specs.Limits.{last_counter}
use Rattle.lists.specs.Distinct.{In, distinct_le}
use Rattle.promises_model.specs.Model.{Head, unbound, bound, Kit}
use Rattle.promises_model.specs.Model as M
use Rattle.promises_model.specs.Best.{Registered}
use Rattle.promises_model.specs.Promise.{SameFiles, SameDirs}
use Rattle.promises_model.proofs.Loops.{bound≢unbound}
use Rattle.promises_model.proofs.Rows.{inside}
use Rattle.promises_model.proofs.Invariant.{Holders, Held}
use Rattle.promises_model.proofs.Pool.{Pool, mount_pool}
use Rattle.promises_model.proofs.Dirs.{dirs_of_registered, mount_dirs, adopt_dirs}
use Rattle.promises_model.proofs.Split.{same_files}
use Rattle.promises_model.proofs.Count.{highest_le}
use Rattle.promises_model.proofs.Accept.{first_counter}
use Rattle.promises_model.proofs.Card.{Card, now_holders, still_claim}

module _ (K : Kit) where
  open K use {Path, Dir, ancestors_same, Device, head}

  pub mount_registered : (n : ℕ) (w : Device) → Registered K (head w) n (M.mount K n w).dirs
  mount_registered n w = rw (mount_dirs K n w) (dirs_of_registered K (head w) n)

  pub mount_survey_dirs : (n : ℕ) (w : Device) → (M.mount K n w).dirs ≡ (M.survey K n (M.empty K w)).dirs
  unfolding M.mount
  mount_survey_dirs n w = adopt_dirs K n (M.empty K w)

  module _ (N : ℕ) (H : ℕ → Head Path) (k : ℕ) (s : M.State K) (p : Pool K N H k s) (C : Card K H s) (R : Registered K H k s.dirs) where
    -- the pool's device, mounted again
    abbrev t : M.State K
    t = M.mount K k s.device

    pub now : Holders K (head s.device) s.rows
    now = now_holders K H s p.fit.holders C

    pub again_pool : Pool K N (head s.device) k t
    again_pool = mount_pool K N k s.device p.fit.has (omega (arith, p.size, p.fit.room))

    pub again_files : SameFiles K s t
    again_files = let q = again_pool in same_files K s t (omega (arith, p.size, q.size)) now q.fit.holders

    -- a directory stays: some claim asked for it, and that path's holder still does; none is new: each claim was there before
    dirs_to : (d : Dir) → In d s.dirs → In d t.dirs
    dirs_to d h =
        let u = R.only d h in
        let v : Held K s.rows u.0 u.1 = p.fit.holders.held u.0 u.1 (omega (arith, u.2, p.size)) u.3 in
        let l : v.slot < k = omega (arith, inside (unbound 0) s.rows (bound v.by) v.slot bound≢unbound v.holds, p.size) in
        (mount_registered k s.device).each d v.slot v.by l (now.sound _ _ v.holds) (rw (ancestors_same _ _ v.like) at u.4)

    dirs_fro : (d : Dir) → In d t.dirs → In d s.dirs
    dirs_fro d h =
        let u = (mount_registered k s.device).only d h in
        R.each d u.0 u.1 u.2 (still_claim K H s C u.0 u.1 (omega (arith, u.2, p.size)) u.3) u.4

    pub again_dirs : SameDirs K s t
    unfolding SameDirs
    again_dirs d = (dirs_to d, dirs_fro d)

    pub again_accepts : (dir_rows : ℕ) → length s.dirs ≤ dir_rows → s.counter + length (M.survey K k (M.empty K s.device)).losers ≤ last_counter
        → M.Accepts K N dir_rows k (M.empty K s.device)
    again_accepts dir_rows dirs gens =
        record {
          slots_fit = omega (arith, p.size, p.fit.room);
          dirs_fit =
              omega (
                arith,
                ap length (mount_survey_dirs k s.device),
                distinct_le s.dirs (mount_registered k s.device).once dirs_fro,
              );
          gens_fit =
              omega (
                arith,
                first_counter K k s.device,
                C.started,
                highest_le K (head s.device) 0 s.counter k (λ i a l. C.under i (omega (arith, p.size))),
              );
        }
