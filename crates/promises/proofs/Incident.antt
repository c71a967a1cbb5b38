-- `TheCleanedTileWins` of specs/Incident.antt. The rule says which slot is bound (`mount_rule`), `mount_keeps_bytes` that its bytes stay,
-- and P4 what a read gives.
use Prim.Native.Nat.{ℕ, ◌+◌, ◌-◌, ◌≤◌, ◌<◌, min}
use native.Mathlib.Omega.{arith}
use native.Mathlib.Decide.{ℕ_discrete, dec_lt}
use mathlib.Core.Path.{◌≡◌, refl, sym, ap, ap₂, subst, ◌∙◌}
use mathlib.Core.Logic.{◌≢◌, ◌⊎◌, inl, inr}
use mathlib.Core.Bool.{true, false, false≢true}
use mathlib.Core.List.{List, [], ◌++◌}
use lib.ListN.{length, get_or, take, drop}
use borrow.Author.Tests.{lt-ltb, eq-eqb}
use Rattle.text.specs.Text.{is_text}
use Rattle.path.specs.Path.{same_path}
use Rattle.path.proofs.Theorems.{same_path_sym, same_path_trans}
use Rattle.device.specs.declared.Geometry.{Geometry}
use Rattle.device.specs.Device.{phys_of}
use Rattle.device.specs.Slots.{part_of}
use Rattle.slot_rows.specs.Rows.{at, is_bound, len_of, find}
use Rattle.pool_state.specs.State.{State, view}
use Rattle.pool_steps.specs.World.{Ready}
use Rattle.device.specs.Calls.{SlotStays}
use Rattle.mount_survey.specs.Heads.{Head, claim}
use Rattle.mount.proofs.SurveyKeeps.{Sane, head_sane}
use Rattle.inner_handle.specs.Handles.{is_live, file_len_m}
use Rattle.inner_open.specs.Files.{open_read_m}
use Rattle.calls_gate.specs.declared.Call.{Call}
use Rattle.calls_gate.specs.declared.Call.TheVariants.{OpenRead, ReadAt, FileLen}
use Rattle.calls_gate.specs.Table.{takes_of, text_if}
use Rattle.calls_gate.specs.Replies.{telling, Came}
use Rattle.calls_gate.specs.Calls.{reading, measured, inner_m}
use Rattle.pool.specs.Face.{lent_of}
use Rattle.promises_calls.proofs.Keeps.{mount_keeps_bytes}
use Rattle.promises_mount.specs.Words.{header_at, Best, Holds}
use Rattle.promises.specs.Face.{number, left_of, dev_of, came_of, device_of}
use Rattle.promises.specs.Demand3.{MountRule}
use Rattle.promises.specs.Edges.{Setting, state, Spared, Mounting, head, block, held_after, rows, Accepted, gives, P4}
use Rattle.promises.specs.Incident.{TwoTiles, Later, lay, TheCleanedTile, TheCleanedTileWins}
use Rattle.promises.proofs.Demand3.{mount_rule}
use Rattle.promises.proofs.Stays.{follows_ready, follows_state}
use Rattle.promises.proofs.Calls.{goes, p4}
use Rattle.promises.proofs.Edges.{is_call, rule}

claim_gen : {p q : List ℕ} {e f l n : ℕ} → claim p e l ≡ claim q f n → e ≡ f
claim_gen h = cc

module _ (m : Mounting) (D : Accepted m) (t : TwoTiles m) where
  abbrev H : ℕ → Head
  H = head m

  -- ---- slot j holds the path

  best : Best H m.k t.j t.cleaned t.new t.len
  best = record { among = t.j_mounted; claims = t.j_claims; over = over }
    where
      over : (x : ℕ) (p : List ℕ) (e l : ℕ) → x < m.k → x ≢ t.j → H x ≡ claim p e l → same_path t.cleaned p ≡ true
          → (e < t.new) ⊎ ((e ≡ t.new) × (t.j < x))
      over x p e l a ne h s = go (ℕ_discrete x t.i)
        where
          go : Dec (x ≡ t.i) → (e < t.new) ⊎ ((e ≡ t.new) × (t.j < x))
          go (yes z) = inl (omega (arith, claim_gen (sym h ∙ ap H z ∙ t.i_claims), t.newer))
          go (no z) = absurd (false≢true (sym (t.no_third x p e l a z ne h) ∙ s))

  holds : Holds (rows m) t.j t.cleaned t.new t.len
  holds = ((rule m D).holder t.j t.cleaned t.new t.len).1 best

  -- and is where a spelling of it is found
  found : (p : List ℕ) → same_path p t.cleaned ≡ true → find p (rows m) ≡ t.j
  found p s = go (ℕ_discrete (find p (rows m)) t.j)
    where
      worse : (x e : ℕ) → (e < t.new) ⊎ ((e ≡ t.new) × (t.j < x)) → (t.new < e) ⊎ ((t.new ≡ e) × (x < t.j)) → ⊥
      worse x e (inl a) (inl b) = omega arith
      worse x e (inl a) (inr b) = omega (arith, b.0)
      worse x e (inr a) (inl b) = omega (arith, a.0)
      worse x e (inr a) (inr b) = omega (arith, a.1, b.1)

      go : Dec (find p (rows m) ≡ t.j) → find p (rows m) ≡ t.j
      go (yes z) = z
      go (no z) =
          let r = (rule m D).claimed p t.j t.cleaned t.new t.len t.j_mounted t.j_claims s in
          let B = r.4 in
          let alike = same_path_trans t.cleaned p r.0 (same_path_sym p t.cleaned s) r.3 in
          absurd (worse (find p (rows m)) r.1 (best.over (find p (rows m)) r.0 r.1 r.2 B.among z B.claims alike)
          (B.over t.j t.cleaned t.new t.len t.j_mounted (λ k. z (sym k)) t.j_claims
          (same_path_sym t.cleaned r.0 alike)))

  inside : t.j < length (rows m)
  inside = omega (arith, t.j_mounted, (rule m D).size)

  -- ---- what the later calls find

  ready : Ready m.ask.geometry (left_of m.left)
  unfolding MountRule
  ready = (mount_rule m.ask m.k m.left m.made m.mounts D.reads D.answer).ready

  module _ (call : Call) (c : Later m t call) where
    abbrev setting : Setting
    setting =
        record {
          ask = c.ask;
          ready = follows_ready m.ask m.left c.ask c.follows ready;
          left = c.left;
          made = c.made;
        }

    finds : state setting ≡ held_after m
    finds = follows_state m.ask m.left c.ask c.follows

  -- ---- open_read

  reader : (p : List ℕ) → same_path p t.cleaned ≡ true → open_read_m p (held_after m) ≡ record { out = 0; slot = t.j; generation = t.new }
  unfolding open_read_m
  reader p s = rw (found p s, lt-ltb t.j (length (rows m)) inside, holds.gen)

  opened : (c : Later m t OpenRead) → is_text c.ask.first ≡ true → same_path c.ask.first t.cleaned ≡ true
      → (number c.left ≡ 0) × (c.left.reply.told ≡ telling t.j t.new 0 0 false)
  unfolding takes_of text_if inner_m
  opened c txt s =
      let x = c.ask in
      let e =
      goes (setting OpenRead c) OpenRead c.is refl txt refl
      ∙ ap (λ (b : State). reading x.buf (lent_of x) (open_read_m x.first b)) (finds OpenRead c)
      ∙ ap (reading x.buf (lent_of x)) (reader x.first s) in
      (ap (λ (a : Came). a.number) e, ap (λ (a : Came). a.told) e)

  -- ---- file_len

  live : is_live t.j t.new (rows m) ≡ true
  unfolding is_live
  live = rw (lt-ltb t.j (length (rows m)) inside, holds.bound, eq-eqb _ _ holds.gen)

  measure : file_len_m t.j t.new (held_after m) ≡ record { out = 0; len = t.len }
  unfolding file_len_m
  measure = rw (live, holds.len)

  length_told : (c : Later m t (FileLen t.j t.new)) → (number c.left ≡ 0) × (c.left.reply.told ≡ telling 0 0 t.len 0 false)
  unfolding takes_of text_if inner_m
  length_told c =
      let x = c.ask in
      let a = FileLen t.j t.new in
      let e =
      goes (setting a c) a c.is refl refl refl
      ∙ ap (λ (b : State). measured x.buf (lent_of x) (file_len_m t.j t.new b)) (finds a c)
      ∙ ap (measured x.buf (lent_of x)) measure in
      (ap (λ (a : Came). a.number) e, ap (λ (a : Came). a.told) e)

  -- ---- read_at

  -- the mount left slot j's bytes and physical length
  keeps : SlotStays m.ask.geometry t.j (device_of m.ask) (dev_of m.left)
  keeps =
      let x = m.ask in
      let Bound : Came → Type 0 = λ a. is_bound (at (view a.left.bufs).rows t.j) ≡ true in
      subst (λ (a : Came). Bound a → SlotStays x.geometry t.j (device_of x) a.left.dev) (sym (is_call m))
      ((mount_keeps_bytes x.plan x.geometry x.first x.second x.buf (lent_of x) m.k).0 t.j) holds.bound

  module _ (pos : ℕ) (c : Later m t (ReadAt t.j t.new pos)) (u : Spared c.ask.plan c.ask.at) where
    abbrev s : Setting
    s = setting (ReadAt t.j t.new pos) c

    abbrev bs : List ℕ
    bs = lay m t pos (length c.ask.buf)

    same : state s ≡ held_after m
    same = finds (ReadAt t.j t.new pos) c

    len_is : len_of (at (state s).rows t.j) ≡ t.len
    len_is = ap (λ (b : State). len_of (at b.rows t.j)) same ∙ holds.len

    live_now : is_live t.j t.new (state s).rows ≡ true
    live_now = ap (λ (b : State). is_live t.j t.new b.rows) same ∙ live

    phys_is : phys_of t.j (device_of c.ask) ≡ phys_of t.j (device_of m.ask)
    phys_is = ap (λ (l : List ℕ). get_or l t.j 0) c.follows.phys ∙ keeps.1

    part_is : part_of c.ask.geometry.size t.j c.ask.bytes ≡ part_of m.ask.geometry.size t.j m.ask.bytes
    part_is = ap₂ (λ (g : Geometry) (b : List ℕ). part_of g.size t.j b) c.follows.geometry c.follows.bytes ∙ keeps.0

    edges : P4 s
    edges = p4 s

    Gives : Came → Type 0
    Gives a = (a.number ≡ 0) × (a.told ≡ telling 0 0 0 (length bs) false) × (a.buf ≡ bs ++ drop (length bs) c.ask.buf)

    -- at or past the length it is none
    past : t.len ≤ pos → Gives (came_of c.left)
    unfolding P4 Gives
    past h =
        let e = (edges t.j t.new pos c.is live_now).0 (omega (arith, len_is)) in
        let z : min (length c.ask.buf) (t.len - pos) ≡ 0 = omega arith in
        let part = part_of m.ask.geometry.size t.j m.ask.bytes in
        let none : bs ≡ [] = ap (λ (n : ℕ). take n (drop (512 + pos) (take (phys_of t.j (device_of m.ask)) part))) z in
        subst (λ (l : List ℕ). ((came_of c.left).number ≡ 0) × ((came_of c.left).told ≡ telling 0 0 0 (length l) false)
        × ((came_of c.left).buf ≡ l ++ drop (length l) c.ask.buf)) (sym none)
        (ap (λ (a : Came). a.number) e, ap (λ (a : Came). a.told) e, ap (λ (a : Came). a.buf) e)

    -- before it, what lay there
    before : pos < t.len → Gives (came_of c.left)
    unfolding P4 Gives
    before h =
        let E = edges t.j t.new pos c.is live_now in
        let e = E.1 (omega (arith, len_is)) in
        let v = E.2 u in
        let n = length c.ask.buf in
        let w : gives s t.j pos ≡ bs =
        v.1
        ∙ ap (λ (k : ℕ). take (min n (k - pos)) (drop (512 + pos) (take (phys_of t.j (device_of c.ask))
        (part_of c.ask.geometry.size t.j c.ask.bytes)))) len_is
        ∙ ap₂ (λ (k : ℕ) (l : List ℕ). take (min n (t.len - pos)) (drop (512 + pos) (take k l))) phys_is part_is in
        subst (λ (l : List ℕ). ((came_of c.left).number ≡ 0) × ((came_of c.left).told ≡ telling 0 0 0 (length l) false)
        × ((came_of c.left).buf ≡ l ++ drop (length l) c.ask.buf)) w
        (ap (λ (a : Came). a.number) e ∙ v.0, ap (λ (a : Came). a.told) e, ap (λ (a : Came). a.buf) e)

    read : Gives (came_of c.left)
    read = go (dec_lt pos t.len)
      where
        go : Dec (pos < t.len) → Gives (came_of c.left)
        go (yes l) = before l
        go (no l) = past (omega arith)

  -- ---- a claim's path is text

  claim_text : (i : ℕ) (p : List ℕ) (e l : ℕ) → H i ≡ claim p e l → is_text p ≡ true
  unfolding header_at
  claim_text i p e l h = (subst Sane h (head_sane (block m i))).0

  tile : TheCleanedTile m t
  unfolding Gives
  tile = record {
    opens = opened;
    raw_text = claim_text t.i t.raw t.old t.raw_len t.i_claims;
    cleaned_text = claim_text t.j t.cleaned t.new t.len t.j_claims;
    length_is = length_told;
    reads = λ pos c u. read pos c u;
  }

pub the_cleaned_tile_wins : TheCleanedTileWins
unfolding TheCleanedTileWins
the_cleaned_tile_wins m D t = tile m D t
