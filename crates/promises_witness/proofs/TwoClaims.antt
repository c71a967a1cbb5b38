-- `Demand3Met` of specs/TwoClaims.antt. Each call has an end (`every_call_ends`); that the one mount is accepted, where the plan's place
-- then stands, and that the release fails is computed.
use Prim.Native.Nat.{ℕ, zero, suc, ◌+◌, ◌*◌, ◌≤◌, ◌<◌}
use native.Mathlib.Omega.{arith}
use mathlib.Core.Path.{◌≡◌, refl, ap, ◌∙◌}
use mathlib.Core.Logic.{◌≢◌}
use mathlib.Core.Bool.{false, false≢true}
use mathlib.Core.List.{List, [], ◌∷◌, ◌++◌}
use lib.ListN.{length, get_or}
use Rattle.fnv.specs.Fnv as F
use Rattle.header.specs.Block as B
use Rattle.text.specs.Text as T
use Rattle.path.specs.Path.{same_path}
use Rattle.path.specs.Path as P
use Rattle.path.proofs.Theorems.{same_path_refl}
use Rattle.lists.specs.Same as L
use Rattle.device.specs.Device.{Dev, dev, Shape}
use Rattle.device.specs.Device as D
use Rattle.device.specs.Slots as Sl
use Rattle.slot_rows.specs.Rows as R
use Rattle.dir_rows.specs.Dirs as Di
use Rattle.pool_steps.specs.World.{Lent, Ready}
use Rattle.pool_steps.specs.Outcome.{Outcome, None}
use Rattle.pool_steps.specs.Steps as St
use Rattle.mount_survey.specs.Heads.{claim}
use Rattle.mount_survey.specs.Heads as H
use Rattle.mount_survey.specs.Survey as S
use Rattle.mount.specs.Mount.{mounted, empty_state}
use Rattle.mount.specs.Mount as M
use Rattle.calls_gate.specs.declared.Call.TheVariants.{Mount, Adopt}
use Rattle.calls_gate.specs.Table.{takes_of}
use Rattle.pool.specs.Face.{Asked, Left, Entered}
use Rattle.promises_mount.specs.Words.{Untouched, Faultless, NoneFails}
use Rattle.promises_mount.specs.Words as W
use Rattle.promises_mount.specs.Mounts.{Trial, whole, first_part, QuietWhole, QuietBoth}
use Rattle.promises.specs.Face.{number, dev_of, left_of, EveryCallEnds, asking, ask_next}
use Rattle.promises.specs.Demand3.{MountRule, FaultlessIsQuiet, Demand3, Ways, Premises}
use Rattle.promises.specs.Stays.{APoolStaysAPool, AMountMakesAPool}
use Rattle.promises.specs.Edges.{Mounting, head}
use Rattle.promises.proofs.Mounting.{mounted_dev}
use Rattle.promises.proofs.Face.{flatly, mount_is}
use Rattle.promises.proofs.Total.{every_call_ends}
use Rattle.promises.proofs.Demand3.{quiet_one, quiet_two, mount_rule, demand_3, faultless_is_quiet}
use Rattle.promises.proofs.Stays.{a_pool_stays_a_pool, a_mount_makes_a_pool}
use Rattle.promises_witness.specs.TwoClaims.{start, small, claiming, failing, trial, rows, TwoTilesMet, Demand3Met}
use Rattle.promises_witness.specs.TwoClaims.{MountRuleMet, APoolIsMade, APoolStays, FaultlessMet}

abbrev t : Trial
t = trial

-- ---- computed

whole_done : (whole t).out ≡ 0
unfolding H.head_of B.decoded B.encoded B.fixed F.fnv1a F.stepped T.is_text T.walk_of T.step_of T.lead_of Sl.part_of M.mount_m M.adopt_m
    M.empty_state M.too_many M.after_reads M.settle M.installed M.drain H.reads_m H.looked D.turn D.onward D.given D.share S.scan S.step
    R.find R.holds P.same_path P.components P.opening P.split P.cut P.grow P.names P.idle P.ancestors P.fronts L.same Di.joined Di.absent
whole_done = refl

part_place : (first_part t).left.dev.place.at ≡ 1
unfolding H.head_of B.decoded B.encoded B.fixed F.fnv1a F.stepped T.is_text T.walk_of T.step_of T.lead_of Sl.part_of M.mount_m M.adopt_m
    M.empty_state M.too_many M.after_reads M.settle M.installed M.drain H.reads_m H.looked D.turn D.onward D.given D.share S.scan S.step
    R.find R.holds P.same_path P.components P.opening P.split P.cut P.grow P.names P.idle P.ancestors P.fronts L.same Di.joined Di.absent
part_place = refl

-- the loser's header write takes the plan's third byte
whole_fails : QuietWhole t → ⊥
unfolding H.head_of B.decoded B.encoded B.fixed F.fnv1a F.stepped T.is_text T.walk_of T.step_of T.lead_of Sl.part_of M.mount_m M.adopt_m
    M.empty_state M.too_many M.after_reads M.settle M.installed M.drain H.reads_m H.looked D.turn D.onward D.given D.share S.scan S.step
    R.find R.holds P.same_path P.components P.opening P.split P.cut P.grow P.names P.idle P.ancestors P.fronts L.same Di.joined Di.absent
    W.NoneFails W.AllFine W.surveyed W.standing W.reading St.free_m St.put_m D.header_write_m D.write_m D.stores D.short D.flush_m D.flushed
    D.data_truncate_m D.truncate_m St.release_m
whole_fails q = false≢true q.0

both_fails : QuietBoth t → ⊥
unfolding H.head_of B.decoded B.encoded B.fixed F.fnv1a F.stepped T.is_text T.walk_of T.step_of T.lead_of Sl.part_of M.mount_m M.adopt_m
    M.empty_state M.too_many M.after_reads M.settle M.installed M.drain H.reads_m H.looked D.turn D.onward D.given D.share S.scan S.step
    R.find R.holds P.same_path P.components P.opening P.split P.cut P.grow P.names P.idle P.ancestors P.fronts L.same Di.joined Di.absent
    W.NoneFails W.AllFine W.surveyed W.standing W.reading St.free_m St.put_m D.header_write_m D.write_m D.stores D.short D.flush_m D.flushed
    D.data_truncate_m D.truncate_m St.release_m
both_fails q = false≢true q.1.0

long : length (claiming 1 ++ claiming 2) ≡ 512 * 2
unfolding B.encoded B.fixed F.fnv1a F.stepped
long = refl

in-slot : (i : ℕ) → i < 2 → get_or (512 ∷ 512 ∷ []) i 0 ≤ 512
in-slot zero l = omega arith
in-slot (suc zero) l = omega arith
in-slot (suc (suc i)) l = absurd (omega arith)

shape : Shape small t.bytes t.phys
shape = record { least = omega arith; most = omega arith; multiple = refl; slots = long; within = in-slot }

-- the first two bytes of the plan are 0
zero_byte : (j : ℕ) → j < 2 → get_or failing j 0 ≡ 0
zero_byte zero l = refl
zero_byte (suc zero) l = refl
zero_byte (suc (suc j)) l = absurd (omega arith)

-- so they touch no header read
untouched : (i k : ℕ) (d : Dev) → d.place.at + k ≤ 2 → Untouched failing i k d
unfolding Untouched
untouched i k d le j l =
    let z = zero_byte (d.place.at + j) (omega arith) in
    (λ e. omega (arith, z, e), λ e. absurd (omega (arith, z, e)))

-- ---- the calls

ended : (x : Asked) → (y : Left) × Entered x y
unfolding EveryCallEnds
ended = every_call_ends

abbrev card_at : Dev
card_at = dev t.bytes t.phys start

abbrev first : Asked
first = asking small card_at failing rows (Mount 2)

abbrev second : Asked
second = asking small card_at failing rows (Mount 1)

abbrev third : Asked
third = ask_next small failing (Adopt 1) [] [] [] (ended second).0

abbrev ways : Ways t
ways = record { lend_one = rows; lend_two = rows; one = (ended first).0; two = (ended second).0; three = (ended third).0 }

one_is : flatly (ended first).0 ≡ mounted (whole t)
one_is = mount_is small failing 2 t.chosen (omega arith) (omega arith) rows card_at shape (ended first).0 (ended first).1

two_is : flatly (ended second).0 ≡ mounted (first_part t)
two_is = mount_is small failing 1 t.chosen (omega arith) (omega arith) rows card_at shape (ended second).0 (ended second).1

two_dev : dev_of (ended second).0 ≡ (first_part t).left.dev
two_dev = ap (λ (x : Outcome None Lent). x.left.dev) two_is ∙ mounted_dev (first_part t)

premises : Premises t ways
unfolding mounted
premises = record {
  made_one = (ended first).1;
  made_two = (ended second).1;
  made_three = (ended third).1;
  reads_one = untouched 0 2 card_at (omega arith);
  reads_two = untouched 0 1 card_at (omega arith);
  reads_three = untouched 1 1 (dev_of (ended second).0) (omega (arith, ap (λ (d : Dev). d.place.at) two_dev, part_place));
  accepted = ap (λ (x : Outcome None Lent). x.out) one_is ∙ whole_done;
}

-- ---- none of it is empty

pub demand_3_met : Demand3Met
unfolding Demand3Met
demand_3_met = (
  ways,
  premises,
  λ q. whole_fails (quiet_one t ways premises q),
  λ q. both_fails (quiet_two t ways premises q),
)

-- ---- the incident

abbrev m : Mounting
m = record { ask = first; k = 2; mounts = refl; left = (ended first).0; made = (ended first).1 }

raw_head : head m 0 ≡ claim (97 ∷ []) 1 0
unfolding W.header_at H.head_of B.decoded B.encoded B.fixed F.fnv1a F.stepped T.is_text T.walk_of T.step_of T.lead_of Sl.part_of
raw_head = refl

cleaned_head : head m 1 ≡ claim (97 ∷ []) 2 0
unfolding W.header_at H.head_of B.decoded B.encoded B.fixed F.fnv1a F.stepped T.is_text T.walk_of T.step_of T.lead_of Sl.part_of
cleaned_head = refl

no_third : (x : ℕ) (p : List ℕ) (e l : ℕ) → x < 2 → x ≢ 0 → x ≢ 1 → head m x ≡ claim p e l → same_path (97 ∷ []) p ≡ false
no_third zero p e l a b c h = absurd (b refl)
no_third (suc zero) p e l a b c h = absurd (c refl)
no_third (suc (suc x)) p e l a b c h = absurd (omega arith)

pub two_tiles_met : TwoTilesMet
unfolding TwoTilesMet
two_tiles_met = (
  m,
  record { reads = premises.reads_one; answer = premises.accepted },
  record {
    i = 0;
    raw = 97 ∷ [];
    old = 1;
    raw_len = 0;
    j = 1;
    cleaned = 97 ∷ [];
    new = 2;
    len = 0;
    i_mounted = omega arith;
    j_mounted = omega arith;
    i_claims = raw_head;
    j_claims = cleaned_head;
    one_name = same_path_refl (97 ∷ []);
    newer = omega arith;
    no_third = no_third;
  },
)

-- ---- the rule, pools, and a plan without faults

pub mount_rule_met : MountRuleMet
unfolding MountRuleMet MountRule
mount_rule_met =
    (first, (ended first).0, mount_rule first 2 (ended first).0 (ended first).1 refl premises.reads_one premises.accepted)

second_done : number (ended second).0 ≡ 0
unfolding Demand3
second_done = (demand_3 t ways premises).0.two_accepted

second_ready : Ready small (left_of (ended second).0)
unfolding AMountMakesAPool takes_of
second_ready = a_mount_makes_a_pool second (ended second).0 (ended second).1 refl second_done

pub a_pool_is_made : APoolIsMade
unfolding APoolIsMade
a_pool_is_made = (second, (ended second).0, second_done, second_ready)

pub a_pool_stays : APoolStays
unfolding APoolStays APoolStaysAPool takes_of
a_pool_stays = (
  third,
  (ended third).0,
  second_ready,
  (a_pool_stays_a_pool third (ended third).0 (ended third).1 second_ready (λ e. absurd (false≢true e))).0,
)

no_fault : Faultless [] start
unfolding Faultless
no_fault j = (λ e. omega (arith, e), λ e. omega (arith, e))

pub faultless_met : FaultlessMet
unfolding FaultlessMet FaultlessIsQuiet
faultless_met =
    let x = asking small card_at [] rows (Mount 2) in
    (x, no_fault, (faultless_is_quiet x 0 2 (omega arith) no_fault).1)
