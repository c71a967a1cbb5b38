-- Two pools of the same slots over the same headers have the same files and directories: by the winner rule, and by the fold that gives
-- the directories.
use Prim.Native.Nat.{ℕ, ◌+◌, ◌≤◌, ◌<◌}
use native.Mathlib.Omega.{arith}
use native.Mathlib.Nat.{zero-add}
use mathlib.Core.Path.{◌≡◌, refl, sym, ◌∙◌}
use mathlib.Core.Logic.{◌↔◌}
use mathlib.Core.List.{[]}
use lib.ListN.{length}
use Rattle.promises_model.specs.Model.{Claim, Head, Row, unbound, bound, Kit}
use Rattle.promises_model.specs.Model as M
use Rattle.promises_model.proofs.Loops as L
use Rattle.promises_model.proofs.Loops.{unbound≢bound}
use Rattle.promises_model.specs.Promise.{SameFiles}
use Rattle.promises_model.proofs.Invariant.{Holders}
use Rattle.promises_model.proofs.Winner.{holders_agree, holders_heads}
use Rattle.promises_model.proofs.Pool.{Pool, mount_pool, adopt_pool}
use Rattle.promises_model.proofs.Dirs.{dirs_of, dirs_of_heads, dirs_of_split, survey_dirs, adopt_dirs, mount_dirs}

module _ (K : Kit) where
  open K use {Path, Device, Has, head}

  holds_alike : (p : Path) (r t : Row Path) → ((c : Claim Path) → r ≡ bound c ↔ t ≡ bound c) → M.holds K p r ≡ M.holds K p t
  holds_alike p (unbound g) (unbound h) f = refl
  holds_alike p (unbound g) (bound c) f = absurd (unbound≢bound ((f c).1 refl))
  holds_alike p (bound c) (unbound g) f = absurd (unbound≢bound ((f c).0 refl))
  holds_alike p (bound c) (bound d) f = rw ((f d).1 refl)

  -- the holders of the same headers are the same files
  pub same_files : {H : ℕ → Head Path} (s t : M.State K) → length s.rows ≡ length t.rows → Holders K H s.rows → Holders K H t.rows → SameFiles K s t
  same_files s t e F G =
      let held = holders_agree K s.rows t.rows e F G in
      record {
        found = λ p. L.find_alike K p s.rows t.rows e (λ i. holds_alike p (M.row_at K s.rows i) (M.row_at K t.rows i) (held i));
        held = held;
      }

  -- mount n slots and adopt m more: a pool of n + m slots over the headers as they were, with the directories of one fold
  module _ (N n m : ℕ) (w : Device) (has : Has w N) (more : n + m ≤ N) where
    pub part_pool : Pool K N (head w) n (M.mount K n w)
    part_pool = mount_pool K N n w has (omega arith)

    pub both_pool : Pool K N (head w) (n + m) (M.adopt K m (M.mount K n w))
    both_pool = adopt_pool K N (head w) m n (M.mount K n w) part_pool more

    pub both_survey_dirs : (M.survey K m (M.mount K n w)).dirs ≡ dirs_of K (head w) 0 (n + m) []
    both_survey_dirs =
        let p = part_pool in
        rw (survey_dirs K m (M.mount K n w), p.size, mount_dirs K n w, dirs_of_split K (head w) 0 n m [], zero-add)
        (dirs_of_heads K (head (M.mount K n w).device) (head w) n m (dirs_of K (head w) 0 n []) (λ i l u. p.fit.ahead i (omega arith) (omega arith)))

    pub both_dirs : (M.adopt K m (M.mount K n w)).dirs ≡ dirs_of K (head w) 0 (n + m) []
    both_dirs = adopt_dirs K m (M.mount K n w) ∙ both_survey_dirs

  -- equal headers in the slots held count as the same headers
  pub pool_holders : (N k : ℕ) (one two : Device) (s : M.State K) → ((i : ℕ) → i < k → head one i ≡ head two i) → Pool K N (head two) k s → Holders K (head one) s.rows
  pool_holders N k one two s e p = holders_heads K s.rows (λ i l. sym (e i (omega (arith, p.size)))) p.fit.holders
