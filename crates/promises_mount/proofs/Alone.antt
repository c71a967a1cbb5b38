-- Where no two slots claim one path none loses, so that a mount or an adoption releases none (`no_loser`); and what a mount left none of
-- whose releases failed has no two such slots (`calm_apart`).
use Prim.Native.Nat.{ℕ, ◌+◌, ◌≤◌, ◌<◌}
use native.Mathlib.Omega.{arith}
use mathlib.Core.Path.{◌≡◌, refl, sym, subst, ◌∙◌}
use mathlib.Core.Bool.{true}
use mathlib.Core.List.Memᴰ
use mathlib.Core.List.{List, [], ◌∷◌}
use Rattle.lists.specs.Distinct.{In}
use Rattle.device.specs.declared.Geometry.{Geometry}
use Rattle.pool_steps.specs.World.{World}
use Rattle.promises_model.specs.Model.{Claim, Kit}
use Rattle.promises_model.specs.Model as M
use Rattle.promises_model.proofs.Loops.{bound≢unbound}
use Rattle.promises_model.proofs.Rows.{inside}
use Rattle.promises_model.proofs.Invariant.{Holders}
use Rattle.promises_model.proofs.Moves.{Place, held, pending, spare}
use Rattle.promises_model.proofs.Pool.{Pool, survey_fit}
use Rattle.promises_model.proofs.Queue.{Calm}
use Rattle.promises_mount.specs.Words.{AllFine}

module _ (K : Kit) where
  open K use {Path, same, head}

  -- no two of the first k headers claim one path
  abbrev pub Apart : (ℕ → M.Head Path) → ℕ → Type 0
  Apart H k =
      (i j : ℕ) (c d : Claim Path) → i < k → j < k → H i ≡ M.claim c → H j ≡ M.claim d → same c.path d.path ≡ true → i ≡ j

  -- a loser's path is claimed by its holder, too
  pub no_loser : (N : ℕ) (H : ℕ → M.Head Path) (n k : ℕ) (s : M.State K) → Pool K N H n s → n + k ≤ N → Apart H (n + k)
      → (i : ℕ) → In i (M.survey K k s).losers → ⊥
  no_loser N H n k s p more apart i m =
      let S = survey_fit K N H k n s p more in
      let F = S.fit in
      let rows = (M.survey K k s).rows in
      let c = F.claimed i m in
      let l = F.listed i m in
      let h = F.holders.held i c.0 l.0 c.1 in
      let in-k : h.slot < n + k =
      omega (arith, inside (M.unbound 0) rows (M.bound h.by) h.slot bound≢unbound h.holds, S.size) in
      let e =
      apart i h.slot c.0 h.by (omega (arith, l.0, S.size)) in-k c.1 (F.holders.sound h.slot h.by h.holds)
      h.like in
      l.1 h.by (subst (λ (x : ℕ). M.row_at K rows x ≡ M.bound h.by) (sym e) h.holds)

  pub calm_apart : (N : ℕ) (H : ℕ → M.Head Path) (k : ℕ) (s : M.State K) → Pool K N H k s → Holders K (head s.device) s.rows
      → Calm K s [] → Apart (head s.device) k
  unfolding Calm
  calm_apart N H k s p now C i j c d a b hi hj alike =
      now.uniq i j c d (bound_at i c hi (C i (omega (arith, p.size)))) (bound_at j d hj (C j (omega (arith, p.size)))) alike
    where
      bound_at : (x : ℕ) (e : Claim Path) → head s.device x ≡ M.claim e → Place K s.rows s.queue [] (head s.device x) x
          → M.row_at K s.rows x ≡ M.bound e
      bound_at x e h (held f l) = let g : head s.device x ≡ M.claim f = now.sound x f l in let q : e ≡ f = cc in rw q l
      bound_at x e h (pending l) = absurd (Memᴰ.not-nil l)
      bound_at x e h (spare l v) = absurd (v e h)

-- where none loses none is released
pub none_released : (plan : List ℕ) (g : Geometry) (ls : List ℕ) (w : World) → ((i : ℕ) → In i ls → ⊥) → AllFine plan g ls w
unfolding AllFine
none_released plan g [] w f = tt
none_released plan g (i ∷ is) w f = absurd (f i (Memᴰ.head refl))
