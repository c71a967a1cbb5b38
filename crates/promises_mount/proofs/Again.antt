-- The next mount, under any plan: to the model a pool and its device are the same under another plan, since the headers are, and so the
-- model's next mount is one under that plan.
use Prim.Native.Nat.{ℕ}
use native.Mathlib.Nat.{zero-add}
use mathlib.Core.Path.{refl, sym, subst}
use mathlib.Core.List.{List, []}
use Rattle.device.specs.declared.Place.{Place}
use Rattle.device.specs.declared.Geometry.{Geometry}
use Rattle.device.specs.Device.{dev}
use Rattle.promises_model.specs.Model.{Kit}
use Rattle.promises_model.specs.Model as M
use Rattle.promises_model.specs.Best as B
use Rattle.promises_model.specs.Promise as P
use Rattle.promises_model.proofs.Pool.{Pool}
use Rattle.promises_model.proofs.Card.{Card}
use Rattle.promises_model.proofs.Again.{now, again_pool, again_files, again_dirs}
use Rattle.promises_model.proofs.Queue.{Calm, again_free}
use Rattle.promises_model.proofs.Theorem.{demand_of_all}
use Rattle.promises_mount.specs.Words.{header_at}
use Rattle.promises_mount.proofs.Kit.{Planned, planned, looks, real_kit}

module _ (g : Geometry) (plan : List ℕ) (p : Place) where
  abbrev K : Kit
  K = real_kit g

  -- the device under the plan, and a pool with it
  abbrev pub under : Planned → Planned
  under w = planned plan (dev w.dev.bytes w.dev.phys p)

  abbrev pub turned : M.State K → M.State K
  turned s =
      record { rows = s.rows; queue = s.queue; losers = s.losers; dirs = s.dirs; counter = s.counter; device = under s.device }

  module _ (N : ℕ) (H : ℕ → M.Head (List ℕ)) (k : ℕ) (s : M.State K) (Q : Pool K N H k s) (C : Card K H s)
      (R : B.Registered K H k s.dirs) where
    abbrev after : M.State K
    after = M.mount K k (under s.device)

    pool : Pool K N H k (turned s)
    unfolding header_at
    pool =
        let F = Q.fit in
        record {
          fit = record {
            holders = F.holders;
            has = F.has;
            room = F.room;
            ahead = F.ahead;
            listed = F.listed;
            claimed = F.claimed;
            queued = F.queued;
          };
          size = Q.size;
        }

    card : Card K H (turned s)
    unfolding header_at
    card = record { worn = C.worn; under = C.under; started = C.started }

    calm : Calm K s [] → Calm K (turned s) []
    unfolding Calm header_at
    calm c = c

    pub next_files : P.SameFiles K (turned s) after
    next_files = again_files K N H k (turned s) pool card R

    pub next_dirs : P.SameDirs K (turned s) after
    next_dirs = again_dirs K N H k (turned s) pool card R

    module _ (dir_rows : ℕ) (A : M.Accepts K N dir_rows k (M.empty K s.device)) where
      pub next_accepts : M.Accepts K N dir_rows k (M.empty K (under s.device))
      unfolding P.DemandOfAll header_at looks M.mount M.adopt M.survey M.scan M.drain
      next_accepts =
          let z = subst (λ (n : ℕ). M.Accepts K N dir_rows n (M.empty K s.device)) (sym (zero-add k)) A in
          (demand_of_all K N dir_rows 0 k s.device (under s.device) Q.fit.has Q.fit.has (λ i l. refl) z).both_accepted

      pub next_free : Calm K s [] → P.SameFree K (turned s) after
      next_free c =
          again_free K N H k (turned s) pool (now K N H k (turned s) pool card R) (calm c) dir_rows next_accepts next_files
          (again_pool K N H k (turned s) pool card R)
