-- The rows of table P about the headers that a mount finds: P2, P3 and P8. The rule (`mount_rule`) carries P2 and what is unbound; that a
-- slot which claims nothing is queued is `scan_free` of survey.
use Rattle.std.specs.Prelude.{Option, Some}
use Prim.Native.Nat.{ℕ, zero, suc, ◌+◌, ◌≤◌, ◌<◌, min}
use native.Mathlib.Omega.{arith}
use native.Mathlib.Decide.{ℕ_discrete}
use mathlib.Core.Path.{◌≡◌, refl, sym, ap, subst, ◌∙◌}
use mathlib.Core.Logic.{◌≢◌, ◌⊎◌, inl, inr}
use mathlib.Core.Bool.{Bool, true, false, cond, ◌&&◌, false≢true}
use mathlib.Core.List.Memᴰ
use mathlib.Core.List.{List, [], ◌∷◌, ◌++◌, map}
use lib.Dec.{ltb}
use lib.ListN.{length, take, length-take}
use borrow.Author.Tests.{lt-ltb}
use Rattle.lists.specs.Runs.{tab}
use Rattle.lists.specs.Distinct.{In}
use Rattle.header.specs.declared.Header.{Header}
use Rattle.header.specs.Block.{decoded}
use Rattle.header.specs.Block as Block
use Rattle.path.specs.Path.{same_path}
use Rattle.path.proofs.Theorems.{same_path_refl, same_path_sym, same_path_trans}
use Rattle.device.specs.declared.Geometry.{Geometry}
use Rattle.device.specs.Device.{Shape, phys_of}
use Rattle.device.specs.Slots.{part_of}
use Rattle.device.proofs.Memory.{memory}
use Rattle.slot_rows.specs.Rows.{at, is_bound, path_of, gen_of, len_of, find}
use Rattle.dir_rows.specs.Dirs.{Dirs}
use Rattle.pool_state.specs.State.{State}
use Rattle.pool_state.specs.declared.Chosen.{Chosen}
use Rattle.pool_steps.specs.World.{World, world}
use Rattle.pool_steps.specs.Steps.{fine_m, free_m, release_m}
use Rattle.pool_steps.proofs.Stays.{release_is}
use Rattle.pool_steps.specs.Outcome.{Outcome, None}
use Rattle.mount_survey.specs.Heads.{Head, absent, idle, claim, said_of, head_of}
use Rattle.mount_survey.specs.Claims.{row_of}
use Rattle.mount_survey.specs.Staged.{spares, wants}
use Rattle.mount_survey.specs.Survey.{Survey}
use Rattle.mount_survey.proofs.Surveyed.{scan_free}
use Rattle.mount.specs.Mount.{installed, drain, empty_state, mount_m}
use Rattle.calls_gate.specs.declared.Call.TheVariants.{Mount}
use Rattle.calls_gate.specs.Table.{chosen_of}
use Rattle.calls_gate.specs.Replies.{Came}
use Rattle.calls_gate.specs.Calls.{call_p}
use Rattle.pool.specs.Face.{lent_of}
use Rattle.promises_mount.specs.Words.{header_at, Untouched, Best, Holds, Rule, surveyed, standing}
use Rattle.promises.specs.Face.{came_of, device_of}
use Rattle.promises.specs.Demand3.{MountRule}
use Rattle.promises.specs.Edges.{Mounting, head, block, Claimless, held_after, rows, Accepted, Free, FoundAt, P2, P3, front, P8}
use Rattle.mount_survey.proofs.Staging.{short_said}
use Rattle.promises_mount.proofs.Adopt.{surveyed_is}
use Rattle.promises_mount.proofs.Mount.{empty_dirs, from_first, mount_room, mount_is}
use Rattle.calls_gate.proofs.Inward.{mount_accepted}
use Rattle.promises.proofs.Face.{as_call}
use Rattle.promises.proofs.Demand3.{is_fit, state_is, mount_rule}

-- ---- what a header says

claim_alike : {p q : List ℕ} {e f l m : ℕ} → claim p e l ≡ claim q f m → (p ≡ q) × (e ≡ f)
claim_alike h = (cc, cc)

idle_no_claim : {e f l : ℕ} {p : List ℕ} → idle e ≢ claim p f l
idle_no_claim h = let z : ◌≡◌ {A = ℕ} 0 1 = cc in omega arith

pub absent_no_claim : {f l : ℕ} {p : List ℕ} → absent ≢ claim p f l
absent_no_claim h = let z : ◌≡◌ {A = ℕ} 0 1 = cc in omega arith

-- it claims nothing
abbrev NoClaim : Head → Type 0
NoClaim h = (p : List ℕ) (e l : ℕ) → h ≢ claim p e l

module _ (b : List ℕ) (h : Header) (e : decoded b (length b) ≡ Some h) where
  found_claim : h.in_use ≡ true → 0 < h.path_len → head_of b ≡ claim (Block.path_of b) h.generation h.len
  unfolding head_of
  found_claim u l = ap (said_of b) e ∙ rw (u, lt-ltb 0 h.path_len l)

  found_idle : h.in_use ≡ true → h.path_len ≡ 0 → head_of b ≡ idle h.generation
  unfolding head_of
  found_idle u z = ap (said_of b) e ∙ rw (u, z)

  pub found_wants : wants (head_of b) ≡ suc h.generation
  unfolding head_of wants
  found_wants = ap (λ (x : Option Header). wants (said_of b x)) e ∙ go (h.in_use && ltb 0 h.path_len)
    where
      go : (t : Bool) → wants (cond t (claim (Block.path_of b) h.generation h.len) (idle h.generation)) ≡ suc h.generation
      go true = refl
      go false = refl

-- ---- "Non-claims join the queue by index"

no_row : (h : Head) → NoClaim h → is_bound (row_of h) ≡ false
unfolding row_of is_bound
no_row absent n = refl
no_row (idle e) n = refl
no_row (claim p e l) n = absurd (n p e l refl)

-- a slot whose staged row is unbound is among those that join the queue
module _ (f : ℕ → Head) (i : ℕ) (n : is_bound (row_of (f i)) ≡ false) where
  spare_in : (k a : ℕ) → a ≤ i → i < a + k → In i (spares a (map row_of (tab f a k)))
  unfolding spares tab
  spare_in zero a l h = absurd (omega arith)
  spare_in (suc k) a l h = go (ℕ_discrete i a) (is_bound (row_of (f a))) refl (spare_in k (suc a))
    where
      rest : List ℕ
      rest = spares (suc a) (map row_of (tab f (suc a) k))

      go : Dec (i ≡ a) → (t : Bool) → is_bound (row_of (f a)) ≡ t → (suc a ≤ i → i < suc a + k → In i rest) → In i (cond t rest (a ∷ rest))
      go (yes e) false b more = Memᴰ.head e
      go (yes e) true b more = absurd (false≢true (sym n ∙ ap (λ (j : ℕ). is_bound (row_of (f j))) e ∙ b))
      go (no e) true b more = more (omega arith) (omega arith)
      go (no e) false b more = Memᴰ.tail (more (omega arith) (omega arith))

-- a release leaves those that are queued
module _ (g : Geometry) (plan : List ℕ) (i : ℕ) where
  release_queue : (j : ℕ) (w : World) → In i w.state.queue → In i (release_m plan g j w).state.queue
  release_queue j w m =
      subst (λ (s : State). In i s.queue) (sym (release_is plan g j w)) (go (fine_m (free_m plan g j w.state.counter w.dev)))
    where
      go : (t : Bool) → In i (cond t (w.state.queue ++ (j ∷ [])) w.state.queue)
      go true = Memᴰ.append_left (j ∷ []) m
      go false = m

  drain_queue : (is : List ℕ) (w : World) → In i w.state.queue → In i (drain plan g is w).state.queue
  unfolding drain
  drain_queue [] w m = m
  drain_queue (j ∷ is) w m = drain_queue is (release_m plan g j w) (release_queue j w m)

-- ---- P2, P3, P8

module _ (m : Mounting) where
  abbrev pub g : Geometry
  g = m.ask.geometry

  -- what is chosen, the pool before the mount, and the inner call
  abbrev pub chosen : Chosen
  chosen = chosen_of (lent_of m.ask).bufs

  abbrev pub w : World
  w = world (device_of m.ask) (empty_state chosen)

  abbrev pub inner : Outcome None World
  inner = mount_m m.ask.plan g chosen m.k (device_of m.ask)

  pub all : Untouched m.ask.plan 0 m.k (device_of m.ask)
      → Untouched m.ask.plan (length w.state.rows) m.k (device_of m.ask)
  all = from_first m.ask.plan chosen m.k (device_of m.ask)

  pub no_dirs : Dirs w.state.dirs
  no_dirs = empty_dirs chosen

  pub is_call : came_of m.left
      ≡ call_p m.ask.plan g (Mount m.k) m.ask.first m.ask.second m.ask.buf (lent_of m.ask)
  is_call = as_call m.ask m.left (Mount m.k) m.made m.mounts

module _ (m : Mounting) (D : Accepted m) where
  abbrev H : ℕ → Head
  H = head m

  shape : Shape (g m) m.ask.bytes m.ask.phys
  shape = (is_fit m.ask m.k m.left m.made m.mounts D.answer).0

  came_zero : (inner m).out ≡ 0
  came_zero =
      mount_accepted m.ask.plan (g m) m.k m.ask.first m.ask.second m.ask.buf (lent_of m.ask)
      (sym (ap (λ (x : Came). x.number) (is_call m)) ∙ D.answer)

  pub after_is : held_after m ≡ (inner m).left.state
  after_is = state_is m.ask m.k m.left m.made m.mounts D.answer

  pub rule : Rule H m.k (rows m)
  unfolding MountRule
  rule = (mount_rule m.ask m.k m.left m.made m.mounts D.reads D.answer).rule

  slots_there : m.k ≤ length m.ask.phys
  slots_there = mount_room (g m) m.ask.plan (chosen m) m.k (device_of m.ask) shape D.reads came_zero

  -- a bound slot is the best claim of its path
  bound_best : (i : ℕ) → is_bound (at (rows m) i) ≡ true
      → Best H m.k i (path_of (at (rows m) i)) (gen_of (at (rows m) i)) (len_of (at (rows m) i))
  bound_best i b = (rule.holder i _ _ _).0 (record { bound = b; path = refl; gen = refl; len = refl })

  not_bound : (i : ℕ) → (is_bound (at (rows m) i) ≡ true → ⊥) → is_bound (at (rows m) i) ≡ false
  not_bound i never = go (is_bound (at (rows m) i)) refl
    where
      go : (t : Bool) → is_bound (at (rows m) i) ≡ t → t ≡ false
      go true e = absurd (never e)
      go false e = refl

  -- of two slots, alone with their path, the first is better: it holds the path
  module _ (i j : ℕ) (p q : List ℕ) (e f l n : ℕ) (a : i < m.k) (b : j < m.k) (ne : j ≢ i) (hi : H i ≡ claim p e l)
      (hj : H j ≡ claim q f n) (same : same_path p q ≡ true)
      (no_more : (x : ℕ) (r : List ℕ) (u v : ℕ) → x < m.k → x ≢ i → x ≢ j → H x ≡ claim r u v → same_path p r ≡ false)
      (better : (f < e) ⊎ ((f ≡ e) × (i < j))) where
    over : (x : ℕ) (r : List ℕ) (u v : ℕ) → x < m.k → x ≢ i → H x ≡ claim r u v → same_path p r ≡ true → (u < e) ⊎ ((u ≡ e) × (i < x))
    over x r u v c apart h s = go (ℕ_discrete x j)
      where
        go : Dec (x ≡ j) → (u < e) ⊎ ((u ≡ e) × (i < x))
        go (yes z) =
            let t : u ≡ f = (claim_alike (sym h ∙ ap H z ∙ hj)).1 in
            subst (λ (y : ℕ). (u < e) ⊎ ((u ≡ e) × (i < y))) (sym z) (subst (λ (y : ℕ). (y < e) ⊎ ((y ≡ e) × (i < j))) (sym t) better)
        go (no z) = absurd (false≢true (sym (no_more x r u v c apart z h) ∙ s))

    holds : Holds (rows m) i p e l
    holds = (rule.holder i p e l).1 (record { among = a; claims = hi; over = over })

    loses : is_bound (at (rows m) j) ≡ false
    loses = not_bound j (λ t. go (bound_best j t))
      where
        worse : (x : ℕ) → f ≡ x → (e < x) ⊎ ((e ≡ x) × (j < i)) → (f < e) ⊎ ((f ≡ e) × (i < j)) → ⊥
        worse x z (inl u) (inl v) = omega arith
        worse x z (inl u) (inr v) = omega (arith, v.0)
        worse x z (inr u) (inl v) = omega (arith, u.0)
        worse x z (inr u) (inr v) = omega (arith, u.1, v.1)

        go : Best H m.k j (path_of (at (rows m) j)) (gen_of (at (rows m) j)) (len_of (at (rows m) j)) → ⊥
        go B =
            let c = claim_alike (sym hj ∙ B.claims) in
            let s : same_path (path_of (at (rows m) j)) p ≡ true =
            subst (λ (r : List ℕ). same_path r p ≡ true) c.0 (same_path_sym p q same) in
            worse (gen_of (at (rows m) j)) c.1 (B.over i p e l a (λ z. ne (sym z)) hi s) better

  pub p2 : P2 m
  unfolding P2
  p2 i j p q e f l n lt b hi hj same no_more = (
    λ le.
        let ne : j ≢ i = λ z. omega arith in
        let w = lower le in
        (holds i j p q e f l n (omega arith) b ne hi hj same no_more w, loses i j p q e f l n (omega arith) b ne hi hj same no_more w),
    λ more.
        let ne : i ≢ j = λ z. omega arith in
        let back = same_path_sym p q same in
        let others : (x : ℕ) (r : List ℕ) (u v : ℕ) → x < m.k → x ≢ j → x ≢ i → H x ≡ claim r u v → same_path q r ≡ false =
        λ x r u v c y z h. other_side r (no_more x r u v c z y h) in
        let w = inl more in
        (holds j i q p f e n l b (omega arith) ne hj hi back others w, loses j i q p f e n l b (omega arith) ne hj hi back others w),
  )
    where
      lower : f ≤ e → (f < e) ⊎ ((f ≡ e) × (i < j))
      lower le = go (ℕ_discrete f e)
        where
          go : Dec (f ≡ e) → (f < e) ⊎ ((f ≡ e) × (i < j))
          go (yes z) = inr (z, lt)
          go (no z) = inl (omega arith)

      other_side : (r : List ℕ) → same_path p r ≡ false → same_path q r ≡ false
      other_side r differ = go (same_path q r) refl
        where
          go : (t : Bool) → same_path q r ≡ t → t ≡ false
          go true z = absurd (false≢true (sym differ ∙ same_path_trans p q r same z))
          go false z = refl

  -- a slot that claims nothing is free
  pub claimless_free : (i : ℕ) → i < m.k → Claimless m i → Free m i
  unfolding standing installed surveyed empty_state
  claimless_free i l c =
      let z = mount_is (g m) m.ask.plan (chosen m) m.k (device_of m.ask) shape D.reads came_zero in
      let v = surveyed m.ask.plan (g m) m.k (w m) in
      let room : 0 + m.k ≤ length m.ask.phys = omega (arith, slots_there) in
      let same = ap (λ (x : Survey). x.free) (surveyed_is (g m) m.ask.plan m.k (w m) shape (no_dirs m) (all m D.reads) room) in
      let q : In i v.free =
      subst (In i) (sym (same ∙ scan_free (tab H 0 m.k) [] [] 1)) (spare_in H i (no_row (H i) c) m.k 0 (omega arith) (omega arith)) in
      record {
        unbound = not_bound i (λ b. c _ _ _ (bound_best i b).claims);
        queued =
            subst (λ (s : State). In i s.queue) (sym (after_is ∙ ap (λ (x : Outcome None World). x.left.state) z))
            (drain_queue (g m) m.ask.plan i v.losers (standing m.ask.plan (g m) m.k (w m)) q);
      }

  -- a path that a slot claims is found
  claimed_found : (i : ℕ) (p : List ℕ) (e l : ℕ) → i < m.k → H i ≡ claim p e l → FoundAt m p
  claimed_found i p e l a h =
      let r = rule.claimed p i p e l a h (same_path_refl p) in
      record { inside = r.4.among; held = (r.0, r.1, r.2, r.3, (rule.holder (find p (rows m)) r.0 r.1 r.2).1 r.4) }

  pub p3 : P3 m
  unfolding P3 header_at
  p3 i h l v u = (
    λ z. claimless_free i l (λ p e n k. idle_no_claim (sym (found_idle (block m i) h v u z) ∙ k)),
    λ s. claimed_found i _ _ _ l (found_claim (block m i) h v u s),
  )

  pub p8 : P8 m
  unfolding P8 header_at
  p8 i h l v u s = (λ z. claimless_free i l (λ p e n k. absent_no_claim (sym (short z) ∙ k)), λ z. claimed_found i _ _ _ l (long z))
    where
      part : List ℕ
      part = part_of m.ask.geometry.size i m.ask.bytes

      short : phys_of i (device_of m.ask) ≡ 511 → head_of (block m i) ≡ absent
      short z = short_said (block m i) (omega (arith, z, length-take (min 512 (phys_of i (device_of m.ask))) part))

      long : phys_of i (device_of m.ask) ≡ 512 → head_of (block m i) ≡ claim (Block.path_of (front m i)) h.generation h.len
      long z =
          let d = device_of m.ask in
          let k : min 512 (phys_of i d) ≡ 512 = omega arith in
          let same : block m i ≡ front m i = ap (λ (x : ℕ). take x part) k in
          let n : length (front m i) ≡ 512 =
          ap length (sym same) ∙ (memory m.ask.plan m.ask.geometry).block_length d i shape (omega (arith, slots_there)) ∙ k in
          ap head_of same ∙ found_claim (front m i) h (ap (decoded (front m i)) n ∙ v) u s
