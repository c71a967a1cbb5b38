-- P6 and P7, which go by the counter that the survey came to (Surveys), what a blank device gives, and the table: all its rows together.
use Rattle.std.specs.Prelude.{Some}
use Prim.Native.Nat.{ℕ, suc, ◌+◌, ◌≤◌, ◌<◌, ◌^◌}
use native.Mathlib.Omega.{arith}
use mathlib.Core.Path.{◌≡◌, refl, sym, ap, subst, ◌∙◌}
use mathlib.Core.Bool.{Bool, true, false, cond}
use mathlib.Core.List.Memᴰ
use mathlib.Core.List.{List, [], ◌∷◌}
use lib.Dec.{ltb}
use lib.ListN.{length}
use borrow.Author.Tests.{lt-ltb, le-ltb}
use Rattle.limits.specs.Limits.{last_counter}
use Rattle.lists.specs.Distinct.{In}
use Rattle.header.specs.declared.Header.{Header}
use Rattle.path.specs.Path.{ancestors}
use Rattle.device.proofs.Shapes.{shape_means}
use Rattle.slot_rows.specs.Rows.{find}
use Rattle.dir_rows.specs.Dirs.{registered}
use Rattle.dir_rows.proofs.Joined.{absent_few}
use Rattle.dir_rows.proofs.Registering.{length_registered}
use Rattle.pool_state.specs.State.{State}
use Rattle.pool_steps.specs.World.{World, Ready}
use Rattle.mount_survey.specs.Heads.{absent, claim}
use Rattle.mount_survey.specs.Staged.{wants}
use Rattle.mount_survey.specs.Survey.{Survey}
use Rattle.pool_steps.specs.Outcome.{Outcome, None, only}
use Rattle.mount.specs.Mount.{installed, drain, moved, empty_state, mount_m}
use Rattle.mount.specs.Mount as Mount
use Rattle.inner_open.specs.Files.{is_file}
use Rattle.calls_gate.specs.Table.{dir_rows}
use Rattle.calls_gate.specs.Replies as replies
use Rattle.promises_mount.specs.Words.{header_at, Registered, reading, surveyed, standing}
use Rattle.pool.specs.Face.{Asked, Left, lent_of}
use Rattle.promises.specs.Face.{number, left_of, device_of}
use Rattle.promises.specs.Demand3.{MountRule}
use Rattle.promises.specs.Edges.{Setting, state, Mounting, head, block, valid, Claimless, held_after, rows, Accepted, NewFile, HasRoom}
use Rattle.promises.specs.Edges.{Spared, Apart, NextOpen, P6, P7, TableP, FromBlank, P1}
use Rattle.promises_mount.proofs.Adopt.{not_many, settled}
use Rattle.promises_mount.proofs.Surveys.{Counts, first_counts, first_dirs, first_losers}
use Rattle.calls_gate.proofs.Inward.{mount_call}
use Rattle.promises.proofs.Mounting.{both_fine}
use Rattle.promises.proofs.Demand3.{mount_rule}
use Rattle.promises.proofs.Stays.{follows_ready, follows_state}
use Rattle.promises.proofs.Calls.{open_nine, p1, p4, p5}
use Rattle.promises.proofs.Edges.{absent_no_claim, found_wants, g, chosen, w, inner, all, no_dirs, is_call, after_is, rule}
use Rattle.promises.proofs.Edges.{claimless_free, p2, p3, p8}

-- ---- P6, P7

module _ (m : Mounting) (R : HasRoom m) where
  abbrev v : Survey
  v = surveyed m.ask.plan (g m) m.k (w m)

  abbrev spent : Bool
  spent = ltb last_counter (v.counter + length v.losers)

  abbrev moves : World
  moves = moved (reading m.ask.plan (g m) m.k (w m)).place (w m)

  abbrev done : World
  done = drain m.ask.plan (g m) v.losers (standing m.ask.plan (g m) m.k (w m))

  -- the directories that it found are the ancestors of the claims
  claims : Registered (head m) m.k v.dirs
  claims = first_dirs (g m) m.ask.plan (chosen m) m.k (device_of m.ask) R.shape R.reads R.slots.1

  -- 2, 12, 10 and 8 are not given
  inner_is : inner m ≡ cond spent (only 9 moves) (only 0 done)
  unfolding mount_m empty_state
  inner_is =
      let room : 0 + m.k ≤ length m.ask.phys = omega (arith, R.slots.1) in
      let dirs : ltb (dir_rows m.ask.dirs) (length v.dirs) ≡ false =
      le-ltb (dir_rows m.ask.dirs) (length v.dirs) (R.dirs v.dirs claims) in
      settled (g m) m.ask.plan m.k (w m) R.shape (no_dirs m) (all m R.reads) room
      (not_many (g m) m.ask.plan m.k (w m) R.shape (no_dirs m) (all m R.reads) (omega (arith, R.slots.0)) room)
      ∙ rw dirs

  out_is : number m.left ≡ (inner m).out
  unfolding Mount.mounted
  out_is =
      let x = m.ask in
      let s = (shape_means (g m) x.bytes x.phys).1 R.shape in
      ap (λ (a : replies.Came). a.number)
      (is_call m ∙ mount_call x.plan (g m) m.k x.first x.second x.buf (lent_of x) (both_fine (g m) (lent_of x) s R.lent))

  counts : Counts (head m) 0 m.k 1 v.counter
  counts = first_counts (g m) m.ask.plan (chosen m) m.k (device_of m.ask) R.shape R.reads R.slots.1

  -- the counter exceeds a valid header's generation
  exceeds : (i : ℕ) (h : Header) → i < m.k → valid m i ≡ Some h → suc h.generation ≤ v.counter
  unfolding header_at
  exceeds i h l e = omega (arith, counts.each i (omega arith) (omega arith), found_wants (block m i) h e)

  -- a mount with no loser, whose counter is not too high
  module _ (lost : v.losers ≡ []) (low : v.counter ≤ last_counter) where
    accepts : inner m ≡ only 0 done
    accepts =
        let y : spent ≡ false = le-ltb last_counter (v.counter + length v.losers) (omega (arith, ap length lost)) in
        inner_is ∙ rw y

    mounts : number m.left ≡ 0
    mounts = out_is ∙ ap (λ (x : Outcome None World). x.out) accepts

    D : Accepted m
    D = record { reads = R.reads; answer = mounts }

    state_after : held_after m ≡ installed (w m).state v
    unfolding drain standing
    state_after =
        after_is m D ∙ ap (λ (x : Outcome None World). x.left.state) accepts
        ∙ ap (λ (ls : List ℕ). (drain m.ask.plan (g m) ls (standing m.ask.plan (g m) m.k (w m))).state) lost

    counter_is : (held_after m).counter ≡ v.counter
    unfolding installed
    counter_is = ap (λ (s : State). s.counter) state_after

    -- a slot that claims nothing is in the queue
    some_free : (j : ℕ) → j < m.k → Claimless m j → 0 < length (held_after m).queue
    some_free j b c = go (held_after m).queue (claimless_free m D j b c).queued
      where
        go : (q : List ℕ) → In j q → 0 < length q
        go [] n = absurd (Memᴰ.not-nil n)
        go (x ∷ q) n = omega arith

    ready_after : Ready (g m) (left_of m.left)
    unfolding MountRule
    ready_after = (mount_rule m.ask m.k m.left m.made m.mounts R.reads mounts).ready

    -- the next call, an open
    module _ (ask : Asked) (left : Left) (N : NextOpen m ask left) where
      abbrev setting : Setting
      setting =
          record {
            ask = ask;
            ready = follows_ready m.ask m.left ask N.follows ready_after;
            left = left;
            made = N.made;
          }

      -- it finds what the mount left
      finds : state setting ≡ held_after m
      finds = follows_state m.ask m.left ask N.follows

  none_lost : Apart m → v.losers ≡ []
  none_lost = first_losers (g m) m.ask.plan (chosen m) m.k (device_of m.ask) R.shape R.reads R.slots.1

  p6 : P6 m
  unfolding P6
  p6 i h l e top most apart =
      let lost = none_lost apart in
      let c : v.counter ≡ last_counter =
      omega (arith, exceeds i h l e, counts.most last_counter (omega arith) (λ j a b. most j (omega arith))) in
      let low : v.counter ≤ last_counter = omega arith in (
        mounts lost low,
        λ ask left j N F b free.
            let s = setting lost low ask left N in
            let e = finds lost low ask left N in
            open_nine s N.keep N.opens N.short F
            (subst (λ (x : State). 0 < length x.queue) (sym e) (some_free lost low j b free))
            (ap (λ (x : State). x.counter) e ∙ counter_is lost low ∙ c),
      )

  p7 : P7 m
  unfolding P7
  p7 i h l e top =
      let y : spent ≡ true = lt-ltb last_counter (v.counter + length v.losers) (omega (arith, exceeds i h l e)) in
      let c : inner m ≡ only 9 moves = inner_is ∙ rw y in
      out_is ∙ ap (λ (x : Outcome None World). x.out) c

  -- ---- on a blank device

  module _ (some : 0 < m.k) (blank : (i : ℕ) → i < m.k → head m i ≡ absent) where
    claimless : (i : ℕ) → i < m.k → Claimless m i
    claimless i l p e n h = absent_no_claim (sym (blank i l) ∙ h)

    lost : v.losers ≡ []
    lost = none_lost (λ i j p q e f x n a b ne h. absurd (claimless i a p e x h))

    counter_one : v.counter ≡ 1
    unfolding wants
    counter_one = omega (arith, counts.start, counts.most 1 (omega arith) (λ i a b. omega (arith, ap wants (blank i (omega arith)))))

    low : v.counter ≤ last_counter
    low = omega (arith, counter_one)

    no_dir : v.dirs ≡ []
    no_dir = go v.dirs claims.only
      where
        go : (ds : List (List ℕ))
            → ((d : List ℕ) → In d ds
            → (j : ℕ) × (q : List ℕ) × (f : ℕ) × (n : ℕ) × (j < m.k) × (head m j ≡ claim q f n) × In d (ancestors q))
            → ds ≡ []
        go [] f = refl
        go (d ∷ ds) f = let r = f d (Memᴰ.head refl) in absurd (claimless r.0 r.4 r.1 r.2 r.3 r.5)

    fits : (path : List ℕ) → length (ancestors path) ≤ dir_rows m.ask.dirs
        → length (registered (held_after m).dirs path) ≤ (held_after m).chosen.dir_rows
    unfolding installed empty_state
    fits path h =
        let d : (held_after m).dirs ≡ [] = ap (λ (s : State). s.dirs) (state_after lost low) ∙ no_dir in
        let c : (held_after m).chosen.dir_rows ≡ dir_rows m.ask.dirs =
        ap (λ (s : State). s.chosen.dir_rows) (state_after lost low) in
        let n = ap (λ (ds : List (List ℕ)). length (registered ds path)) d in
        omega (arith, n, c, length_registered [] path, absent_few [] (ancestors path))

    not_there : (path : List ℕ) → is_file path (held_after m) ≡ false
    not_there path =
        let r = rule m (D lost low) in
        le-ltb (find path (rows m)) (length (rows m))
        (omega (arith, r.size, r.unclaimed path (λ j q f n l h. absurd (claimless j l q f n h))))

    blank_opens : (ask : Asked) (left : Left) → NextOpen m ask left → length (ancestors ask.first) ≤ dir_rows m.ask.dirs
        → Spared ask.plan ask.at → number left ≡ 0
    unfolding P1
    blank_opens ask left N h calm =
        let s = setting lost low ask left N in
        let e = finds lost low ask left N in
        let path = ask.first in
        ((p1 s N.keep N.opens).0 N.short
        (subst (NewFile path) (sym e) (record { text = N.text; new = not_there path; dirs = fits path h }))
        (record {
          free = subst (λ (x : State). 0 < length x.queue) (sym e) (some_free lost low 0 some (claimless 0 some));
          left = omega (arith, ap (λ (x : State). x.counter) e, counter_is lost low, counter_one);
          calm = calm;
        })
        ).answer

pub table_p : TableP
table_p = record { p1 = p1; p2 = p2; p3 = p3; p4 = p4; p5 = p5; p6 = p6; p7 = p7; p8 = p8 }

pub from_blank : FromBlank
unfolding FromBlank
from_blank m R some blank = (mounts m R (lost m R some blank) (low m R some blank), blank_opens m R some blank)
