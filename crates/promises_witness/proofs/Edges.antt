-- The statements of specs/Edges.antt, by table P: that its premises hold of these cards is computed.
use Rattle.std.specs.Prelude.{Some}
use Prim.Native.Nat.{ℕ, zero, suc, ◌+◌, ◌-◌, ◌*◌, ◌≤◌, ◌<◌, ◌^◌}
use native.Mathlib.Omega.{arith}
use mathlib.Core.Path.{◌≡◌, refl, sym, ap, subst, ◌∙◌}
use mathlib.Core.Logic.{◌≢◌}
use mathlib.Core.Bool.{true, false, false≢true}
use mathlib.Core.List.Memᴰ
use mathlib.Core.List.{List, [], ◌∷◌, ◌++◌}
use lib.ListN.{length, get_or, replicate, length-replicate}
use borrow.Author.Tests.{le-ltb}
use Rattle.limits.specs.Limits.{last_counter}
use Rattle.lists.specs.Distinct.{In}
use Rattle.lists.specs.Same as L
use Rattle.fnv.specs.Fnv as F
use Rattle.header.specs.Block.{bound_header}
use Rattle.header.specs.Block as B
use Rattle.text.specs.Text.{is_text}
use Rattle.text.specs.Text as T
use Rattle.path.specs.Path.{same_path, ancestors}
use Rattle.path.specs.Path as P
use Rattle.device.specs.declared.Place.{Place}
use Rattle.device.specs.Device as D
use Rattle.device.specs.Slots as Sl
use Rattle.slot_rows.specs.Rows.{find}
use Rattle.slot_records.specs.Records as Rec
use Rattle.slot_records.specs.SameNumbers.{length_nums}
use Rattle.lists.specs.Blocks as Bl
use Rattle.dir_rows.specs.Dirs.{registered}
use Rattle.dir_rows.specs.Dirs as Di
use Rattle.inner_open.specs.Files.{is_file}
use Rattle.mount_survey.specs.Heads.{Head, absent, claim}
use Rattle.mount_survey.specs.Heads as H
use Rattle.mount_survey.specs.Staged.{wants}
use Rattle.calls_gate.specs.Table as Ta
use Rattle.calls_gate.specs.Replies.{nothing, Came, came}
use Rattle.pool_steps.specs.World.{Ready}
use Rattle.pool.specs.Face.{Asked, Left, lent_of, Entered}
use Rattle.promises_mount.specs.Words.{Registered, Faultless}
use Rattle.promises_mount.specs.Words as W
use Rattle.promises_mount.proofs.Faultless.{faultless_untouched}
use Rattle.promises.specs.Face.{number, left_of, held, came_of, device_of, held_before}
use Rattle.promises.specs.Stays.{AMountMakesAPool}
use Rattle.promises.specs.Demand3.{Mounted, MountRule}
use Rattle.promises.specs.Edges.{Setting, Mounting, head, valid, Claimless, Spared, NewFile, P1, HasRoom, NextOpen, P6, P7, FromBlank}
use Rattle.promises.proofs.Stays.{a_mount_makes_a_pool}
use Rattle.promises.proofs.Demand3.{mount_rule}
use Rattle.promises.proofs.Table.{table_p, from_blank}
use Rattle.promises_witness.specs.TwoClaims.{start, small, claiming, rows}
use Rattle.promises_witness.specs.Edges.{row, blank, opens, OpensOf480, last, NineAfterTheLast, past, NineAtMount}

no_plan : (p : Place) → Faultless [] p
unfolding Faultless
no_plan p j = (λ e. omega (arith, e), λ e. omega (arith, e))

-- directories of claims that have no ancestors: none
none_registered : (H : ℕ → Head) (k : ℕ) (ds : List (List ℕ))
    → ((j : ℕ) (q : List ℕ) (f n : ℕ) → j < k → H j ≡ claim q f n → ancestors q ≡ []) → Registered H k ds → ds ≡ []
none_registered H k [] none R = refl
none_registered H k (d ∷ ds) none R =
    let r = R.only d (Memᴰ.head refl) in
    absurd (Memᴰ.not-nil (subst (In d) (none r.0 r.1 r.2 r.3 r.4 r.5) r.6))

absent_no_claim : {f l : ℕ} {p : List ℕ} → absent ≢ claim p f l
absent_no_claim h = let z : ◌≡◌ {A = ℕ} 0 1 = cc in omega arith

claim_path : {p q : List ℕ} {e f l m : ℕ} → claim p e l ≡ claim q f m → p ≡ q
claim_path h = cc

-- no ancestors of `a`
a_alone : ancestors (97 ∷ []) ≡ []
unfolding P.ancestors P.fronts P.components P.opening P.split P.cut P.grow P.names P.idle P.has_parent P.init P.normal P.join
a_alone = refl

module _ (m : Mounting) (only : (j : ℕ) (q : List ℕ) (f n : ℕ) → j < m.k → head m j ≡ claim q f n → q ≡ 97 ∷ []) where
  no_dirs : (ds : List (List ℕ)) → Registered (head m) m.k ds → ds ≡ []
  no_dirs ds R = none_registered (head m) m.k ds (λ j q f n l h. ap ancestors (only j q f n l h) ∙ a_alone) R

  dirs_fit : (x : ℕ) (ds : List (List ℕ)) → Registered (head m) m.k ds → length ds ≤ x
  dirs_fit x ds R = omega (arith, ap length (no_dirs ds R))

-- ---- the rows that are lent

row_nums_lem : length (Rec.nums_of row.rows) ≡ 4
row_nums_lem = length_nums row.rows

row_fine : Ta.rows_b (Rec.nums_of row.rows) row.names row.dirs ≡ true
unfolding Ta.rows_b Rec.nums_of Rec.slot_nums Bl.cat
row_fine = refl

rows_nums : length (Rec.nums_of rows.rows) ≡ 8
rows_nums = length_nums rows.rows

rows_fine : Ta.rows_b (Rec.nums_of rows.rows) rows.names rows.dirs ≡ true
unfolding Ta.rows_b Rec.nums_of Rec.slot_nums Bl.cat
rows_fine = refl

-- ---- P7

module _ (y : Left) (e : Entered past y) where
  abbrev mp : Mounting
  mp = record { ask = past; k = 1; mounts = refl; left = y; made = e }

  past_valid : valid mp 0 ≡ Some (bound_header 1 0 last_counter)
  unfolding W.header_at H.head_of B.decoded B.encoded B.fixed F.fnv1a F.stepped T.is_text T.walk_of T.step_of T.lead_of Sl.part_of
  past_valid = refl

  past_head : head mp 0 ≡ claim (97 ∷ []) last_counter 0
  unfolding W.header_at H.head_of B.decoded B.encoded B.fixed F.fnv1a F.stepped T.is_text T.walk_of T.step_of T.lead_of Sl.part_of
  past_head = refl

  past_only : (j : ℕ) (q : List ℕ) (f n : ℕ) → j < 1 → head mp j ≡ claim q f n → q ≡ 97 ∷ []
  past_only zero q f n l h = claim_path (sym h ∙ past_head)
  past_only (suc j) q f n l h = absurd (omega arith)

  past_within : (i : ℕ) → i < 1 → get_or (512 ∷ []) i 0 ≤ 512
  past_within zero l = omega arith
  past_within (suc i) l = absurd (omega arith)

  past_long : length (claiming last_counter) ≡ 512 * 1
  unfolding B.encoded B.fixed F.fnv1a F.stepped
  past_long = refl

  past_room : HasRoom mp
  past_room = record {
    shape = record { least = omega arith; most = omega arith; multiple = refl; slots = past_long; within = past_within };
    lent = row_fine;
    slots = (omega (arith, row_nums_lem), omega arith);
    reads = faultless_untouched [] 0 1 (device_of past) (no_plan start);
    dirs = dirs_fit mp past_only 0;
  }

  nine : number y ≡ 9
  unfolding P7
  nine = table_p.p7 mp past_room 0 (bound_header 1 0 last_counter) (omega arith) past_valid (omega arith)

pub nine_at_mount : NineAtMount
unfolding NineAtMount
nine_at_mount y e = nine y e

-- ---- P6

module _ (y : Left) (e : Entered last y) where
  abbrev ml : Mounting
  ml = record { ask = last; k = 2; mounts = refl; left = y; made = e }

  last_valid : valid ml 0 ≡ Some (bound_header 1 0 (last_counter - 1))
  unfolding W.header_at H.head_of B.decoded B.encoded B.fixed F.fnv1a F.stepped T.is_text T.walk_of T.step_of T.lead_of Sl.part_of
  last_valid = refl

  last_head : head ml 0 ≡ claim (97 ∷ []) (last_counter - 1) 0
  unfolding W.header_at H.head_of B.decoded B.encoded B.fixed F.fnv1a F.stepped T.is_text T.walk_of T.step_of T.lead_of Sl.part_of
  last_head = refl

  -- slot 1 is blank
  blank_head : head ml 1 ≡ absent
  unfolding W.header_at H.head_of B.decoded B.encoded B.fixed F.fnv1a F.stepped T.is_text T.walk_of T.step_of T.lead_of Sl.part_of
  blank_head = refl

  last_only : (j : ℕ) (q : List ℕ) (f n : ℕ) → j < 2 → head ml j ≡ claim q f n → q ≡ 97 ∷ []
  last_only zero q f n l h = claim_path (sym h ∙ last_head)
  last_only (suc zero) q f n l h = absurd (absent_no_claim (sym blank_head ∙ h))
  last_only (suc (suc j)) q f n l h = absurd (omega arith)

  last_within : (i : ℕ) → i < 2 → get_or (512 ∷ 0 ∷ []) i 0 ≤ 512
  last_within zero l = omega arith
  last_within (suc zero) l = omega arith
  last_within (suc (suc i)) l = absurd (omega arith)

  last_long : length (claiming (last_counter - 1) ++ replicate 512 0) ≡ 512 * 2
  unfolding B.encoded B.fixed F.fnv1a F.stepped
  last_long = refl

  last_room : HasRoom ml
  last_room = record {
    shape = record { least = omega arith; most = omega arith; multiple = refl; slots = last_long; within = last_within };
    lent = rows_fine;
    slots = (omega (arith, rows_nums), omega arith);
    reads = faultless_untouched [] 0 2 (device_of last) (no_plan start);
    dirs = dirs_fit ml last_only 0;
  }

  last_wants : (j : ℕ) → j < 2 → wants (head ml j) ≤ last_counter
  unfolding wants
  last_wants zero l = omega (arith, ap wants last_head)
  last_wants (suc zero) l = omega (arith, ap wants blank_head)
  last_wants (suc (suc j)) l = absurd (omega arith)

  last_apart : (i j : ℕ) (p q : List ℕ) (u f l n : ℕ) → i < 2 → j < 2 → i ≢ j → head ml i ≡ claim p u l → head ml j ≡ claim q f n
      → same_path p q ≡ false
  last_apart zero zero p q u f l n a b ne h k = absurd (ne refl)
  last_apart zero (suc zero) p q u f l n a b ne h k = absurd (absent_no_claim (sym blank_head ∙ k))
  last_apart zero (suc (suc j)) p q u f l n a b ne h k = absurd (omega arith)
  last_apart (suc zero) zero p q u f l n a b ne h k = absurd (absent_no_claim (sym blank_head ∙ h))
  last_apart (suc zero) (suc j) p q u f l n a b ne h k = absurd (absent_no_claim (sym blank_head ∙ h))
  last_apart (suc (suc i)) zero p q u f l n a b ne h k = absurd (omega arith)
  last_apart (suc (suc i)) (suc j) p q u f l n a b ne h k = absurd (omega arith)

  edge : (number y ≡ 0)
      × ((ask : Asked) (left : Left) (j : ℕ) → NextOpen ml ask left → NewFile ask.first (held_before ask) → j < 2 → Claimless ml j
      → came_of left ≡ came 9 nothing (lent_of ask) ask.buf)
  unfolding P6
  edge = table_p.p6 ml last_room 0 (bound_header 1 0 (last_counter - 1)) (omega arith) last_valid refl last_wants last_apart

  -- what it holds: `a` alone, and no directory
  so : Mounted last 2 y
  unfolding MountRule
  so = mount_rule last 2 y e refl last_room.reads edge.0

  b_apart : same_path (98 ∷ []) (97 ∷ []) ≡ false
  unfolding P.same_path P.components P.opening P.split P.cut P.grow P.names P.idle L.same
  b_apart = refl

  b_new : is_file (98 ∷ []) (held y) ≡ false
  b_new =
      let n = so.rule.unclaimed (98 ∷ []) (λ j q f k l h. ap (same_path (98 ∷ [])) (last_only j q f k l h) ∙ b_apart) in
      le-ltb (find (98 ∷ []) (held y).rows) (length (held y).rows) (omega (arith, n, so.rule.size))

  b_dirs : length (registered (held y).dirs (98 ∷ [])) ≤ (held y).chosen.dir_rows
  unfolding P.ancestors P.fronts P.components P.opening P.split P.cut P.grow P.names P.idle P.has_parent P.init P.normal P.join Di.joined
      Di.absent
  b_dirs =
      omega (arith, ap (λ (ds : List (List ℕ)). length (registered ds (98 ∷ []))) (no_dirs ml last_only (held y).dirs so.dirs))

  b_text : is_text (98 ∷ []) ≡ true
  unfolding T.is_text T.walk_of T.step_of T.lead_of
  b_text = refl

  nine_then : (z : Left) → Entered (opens (98 ∷ []) y) z → number z ≡ 9
  nine_then z f =
      ap (λ (c : Came). c.number)
      (edge.1 (opens (98 ∷ []) y) z 1
      (record {
        follows = record { geometry = refl; bytes = refl; phys = refl; rows = refl; names = refl; dirs = refl; pool = refl };
        made = f;
        keep = true;
        opens = refl;
        text = b_text;
        short = omega arith;
      })
      (record { text = b_text; new = b_new; dirs = b_dirs }) (omega arith) (λ p u l h. absent_no_claim (sym blank_head ∙ h)))

pub nine_after_the_last : NineAfterTheLast
unfolding NineAfterTheLast
nine_after_the_last y z e f = ((edge y e).0, nine_then y e z f)

-- ---- P1

long_text : is_text (replicate 480 97) ≡ true
unfolding T.is_text T.walk_of T.step_of T.lead_of
long_text = refl

longer_text : is_text (replicate 481 97) ≡ true
unfolding T.is_text T.walk_of T.step_of T.lead_of
longer_text = refl

long_alone : length (ancestors (replicate 480 97)) ≡ 0
unfolding P.ancestors P.fronts P.components P.opening P.split P.cut P.grow P.names P.idle P.has_parent P.init P.normal P.join
long_alone = refl

long_is : length {A = ℕ} (replicate 480 97) ≡ 480
long_is = length-replicate {A = ℕ} 480 97

longer_is : length {A = ℕ} (replicate 481 97) ≡ 481
longer_is = length-replicate {A = ℕ} 481 97

module _ (y : Left) (e : Entered blank y) where
  abbrev mb : Mounting
  mb = record { ask = blank; k = 1; mounts = refl; left = y; made = e }

  bare_head : (i : ℕ) → i < 1 → head mb i ≡ absent
  unfolding W.header_at H.head_of B.decoded B.encoded B.fixed F.fnv1a F.stepped T.is_text T.walk_of T.step_of T.lead_of Sl.part_of
  bare_head zero l = refl
  bare_head (suc i) l = absurd (omega arith)

  bare_within : (i : ℕ) → i < 1 → get_or (0 ∷ []) i 0 ≤ 512
  bare_within zero l = omega arith
  bare_within (suc i) l = absurd (omega arith)

  bare_only : (j : ℕ) (q : List ℕ) (f n : ℕ) → j < 1 → head mb j ≡ claim q f n → q ≡ 97 ∷ []
  bare_only j q f n l h = absurd (absent_no_claim (sym (bare_head j l) ∙ h))

  bare_long : length {A = ℕ} (replicate 512 0) ≡ 512 * 1
  bare_long = length-replicate {A = ℕ} 512 0

  bare_room : HasRoom mb
  bare_room = record {
    shape = record { least = omega arith; most = omega arith; multiple = refl; slots = bare_long; within = bare_within };
    lent = row_fine;
    slots = (omega (arith, row_nums_lem), omega arith);
    reads = faultless_untouched [] 0 1 (device_of blank) (no_plan start);
    dirs = dirs_fit mb bare_only 0;
  }

  opened : (number y ≡ 0)
      × ((ask : Asked) (left : Left) → NextOpen mb ask left → length (ancestors ask.first) ≤ 0 → Spared ask.plan ask.at
      → number left ≡ 0)
  unfolding FromBlank
  opened = from_blank mb bare_room (omega arith) bare_head

  spared : (p : Place) → Spared [] p
  unfolding D.turn
  spared p = (λ h. omega (arith, h), λ h. omega (arith, h))

  opens_480 : (z : Left) → Entered (opens (replicate 480 97) y) z → number z ≡ 0
  opens_480 z f =
      opened.1 (opens (replicate 480 97) y) z
      (record {
        follows = record { geometry = refl; bytes = refl; phys = refl; rows = refl; names = refl; dirs = refl; pool = refl };
        made = f;
        keep = true;
        opens = refl;
        text = long_text;
        short = omega (arith, long_is);
      })
      (omega (arith, long_alone)) (spared y.at)

  ready : Ready small (left_of y)
  unfolding AMountMakesAPool Ta.takes_of
  ready = a_mount_makes_a_pool blank y e refl opened.0

  four_481 : (z : Left) → Entered (opens (replicate 481 97) y) z → number z ≡ 4
  unfolding P1
  four_481 z f =
      let c : Setting = record { ask = opens (replicate 481 97) y; ready = ready; left = z; made = f } in
      ap (λ (a : Came). a.number) ((table_p.p1 c true refl).1 (omega (arith, longer_is)) longer_text)

pub opens_of_480 : OpensOf480
unfolding OpensOf480
opens_of_480 y e = ((opened y e).0, opens_480 y e, four_481 y e)
