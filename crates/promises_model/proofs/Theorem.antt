-- The promises of specs/Promise.antt, each from the law that carries it: the winner rule (Winner), the split (Split), acceptance (Accept),
-- the free queue (Queue), the next mount (Again).
use Prim.Native.Nat.{ℕ, ◌+◌, ◌≤◌, ◌<◌, ◌^◌}
use native.Mathlib.Omega.{arith}
use mathlib.Core.Path.{◌≡◌, ap, sym, ◌∙◌}
use mathlib.Core.List.{[]}
use lib.ListN.{length}
use Rattle.limits.specs.Limits.{last_counter}
use Rattle.promises_model.specs.Model.{Head, Kit}
use Rattle.promises_model.specs.Model as M
use Rattle.promises_model.specs.Best.{Registered}
use Rattle.promises_model.specs.Promise as P
use Rattle.promises_model.specs.Promise.{Demand, DemandOfAll, AgainWhateverFails, Kept, Again, Returns, Below62, NoneFails}
use Rattle.promises_model.proofs.Invariant.{Holders}
use Rattle.promises_model.proofs.Winner.{rule}
use Rattle.promises_model.proofs.Pool.{Pool, mount_pool}
use Rattle.promises_model.proofs.Dirs.{dirs_of_registered, dirs_of_heads, mount_dirs}
use Rattle.promises_model.proofs.Split.{same_files, part_pool, both_pool, both_dirs, pool_holders}
use Rattle.promises_model.proofs.Count.{claims_le, highest_le, adopt_counter}
use Rattle.promises_model.proofs.Accept.{first_balance, first_counter, mount_counter, rest_counter_le, part_accepted, rest_accepted}
use Rattle.promises_model.proofs.Card.{Card, mount_card, adopt_card}
use Rattle.promises_model.proofs.Again.{now, mount_registered, mount_survey_dirs, again_pool, again_files, again_dirs, again_accepts}
use Rattle.promises_model.proofs.Queue.{Calm, mount_calm, adopt_calm, same_free, no_losers, again_free}

module _ (K : Kit) where
  open K use {Path, Device, Has, head}

  -- a survey finds at most one loser a slot
  losers_le : (n : ℕ) (w : Device) → length (M.survey K n (M.empty K w)).losers ≤ n
  losers_le n w = omega (arith, first_balance K n w, claims_le K (head w) 0 n)

  -- the next mount of a pool with room for its directories
  module _ (slots dir_rows k : ℕ) (H : ℕ → Head Path) (s : M.State K) (p : Pool K slots H k s) (C : Card K H s) (R : Registered K H k s.dirs)
      (dirs : length s.dirs ≤ dir_rows) where
    again : Calm K s [] → s.counter ≤ last_counter → Again K slots dir_rows k s
    again calm gens =
        let files = again_files K slots H k s p C R in
        let held = now K slots H k s p C R in
        let accepted = again_accepts K slots H k s p C R dir_rows dirs (omega (arith, no_losers K slots H k s p held calm)) in
        record {
          accepted = accepted;
          files = files;
          dirs = again_dirs K slots H k s p C R;
          free = again_free K slots H k s p held calm dir_rows accepted files (again_pool K slots H k s p C R);
        }

    returns : (w : Device) → (slots ≤ 64 → Below62 K (head w) k → s.counter ≤ 2 ^ 62 + 64) → Returns K slots dir_rows k w s
    returns w gens =
        record {
          files = again_files K slots H k s p C R;
          dirs = again_dirs K slots H k s p C R;
          accepted = λ small below.
              again_accepts K slots H k s p C R dir_rows dirs (omega (arith, losers_le k s.device, gens small below, p.size, p.fit.room));
        }

  module _ (slots dir_rows n m : ℕ) (one two : Device) (Has-one : Has one slots) (has_two : Has two slots) (heads : (i : ℕ) → i < n + m → head one i ≡ head two i)
      (A : M.Accepts K slots dir_rows (n + m) (M.empty K one)) where
    abbrev whole : M.State K
    whole = P.whole K n m one two

    abbrev both : M.State K
    both = P.both K n m one two

    abbrev survey : M.State K
    survey = M.survey K (n + m) (M.empty K one)

    room : n + m ≤ slots
    room = omega (arith, A.slots_fit)

    whole_pool : Pool K slots (head one) (n + m) whole
    whole_pool = mount_pool K slots (n + m) one Has-one room

    pool : Pool K slots (head two) (n + m) both
    pool = both_pool K slots n m two has_two room

    part_ok : M.Accepts K slots dir_rows n (M.empty K two)
    part_ok = part_accepted K slots n m one two Has-one has_two room heads dir_rows A

    both_ok : M.Accepts K slots dir_rows m (M.mount K n two)
    both_ok = rest_accepted K slots n m one two Has-one has_two room heads dir_rows A

    whole_card : Card K (head one) whole
    whole_card = mount_card K slots dir_rows (n + m) one Has-one A

    card : Card K (head two) both
    card = adopt_card K slots dir_rows (head two) m n (M.mount K n two) (part_pool K slots n m two has_two room) both_ok (mount_card K slots dir_rows n two has_two part_ok)

    -- both's rows by the first device's headers
    holders : Holders K (head one) both.rows
    holders = pool_holders K slots (n + m) one two both heads pool

    files : P.SameFiles K both whole
    files = same_files K both whole (omega (arith, pool.size, whole_pool.size)) holders whole_pool.fit.holders

    dirs : both.dirs ≡ whole.dirs
    dirs = both_dirs K slots n m two has_two room ∙ (dirs_of_heads K (head two) (head one) 0 (n + m) [] (λ i l u. sym (heads i (omega arith))) ∙ sym (mount_dirs K (n + m) one))

    both_calm : NoneFails K n (M.empty K two) → NoneFails K m (M.mount K n two) → Calm K both []
    both_calm f g =
        adopt_calm K slots dir_rows (head two) m n (M.mount K n two) (part_pool K slots n m two has_two room) both_ok g (mount_calm K slots dir_rows n two has_two part_ok f)

    whole_calm : NoneFails K (n + m) (M.empty K one) → Calm K whole []
    whole_calm f = mount_calm K slots dir_rows (n + m) one Has-one A f

    registered : Registered K (head two) (n + m) both.dirs
    registered = rw (both_dirs K slots n m two has_two room) (dirs_of_registered K (head two) (n + m))

    whole_dirs : length whole.dirs ≤ dir_rows
    whole_dirs = omega (arith, ap length (mount_survey_dirs K (n + m) one), A.dirs_fit)

    both_dirs_fit : length both.dirs ≤ dir_rows
    both_dirs_fit = omega (arith, ap length dirs, whole_dirs)

    -- neither counter passes what the whole mount asked for
    whole_counter : whole.counter ≤ survey.counter + length survey.losers
    whole_counter = omega (arith, mount_counter K (n + m) one)

    both_counter : both.counter ≤ survey.counter + length survey.losers
    both_counter = omega (arith, adopt_counter K m (M.mount K n two), rest_counter_le K slots n m one two Has-one has_two room heads)

    small_counter : slots ≤ 64 → Below62 K (head one) (n + m) → survey.counter + length survey.losers ≤ 2 ^ 62 + 64
    unfolding Below62
    small_counter small below =
        omega (
          arith,
          first_counter K (n + m) one,
          losers_le (n + m) one,
          room,
          highest_le K (head one) 0 (2 ^ 62) (n + m) (λ i a l. below i (omega arith)),
        )

    kept : Kept K n m one two slots dir_rows
    kept =
        record {
          rule_whole = rule K whole_pool.fit.holders (n + m) whole_pool.size;
          rule_both = rule K holders (n + m) pool.size;
          registered_whole = mount_registered K (n + m) one;
          registered_both = rw dirs (mount_registered K (n + m) one);
          part_accepted = part_ok;
          both_accepted = both_ok;
          files = files;
          dirs = dirs;
          free = λ f g h. same_free K slots (head two) (head one) (n + m) both whole files pool (both_calm g h) whole_pool (whole_calm f);
          again_whole = λ f.
              again slots dir_rows (n + m) (head one) whole whole_pool whole_card (mount_registered K (n + m) one) whole_dirs (whole_calm f) (omega (arith, whole_counter, A.gens_fit));
          again_both = λ f g.
              again slots dir_rows (n + m) (head two) both pool card registered both_dirs_fit (both_calm f g) (omega (arith, both_counter, A.gens_fit));
        }

    returned : Returns K slots dir_rows (n + m) one whole × Returns K slots dir_rows (n + m) one both
    returned = (
      returns slots dir_rows (n + m) (head one) whole whole_pool whole_card (mount_registered K (n + m) one) whole_dirs one
          (λ small below. omega (arith, whole_counter, small_counter small below)),
      returns slots dir_rows (n + m) (head two) both pool card registered both_dirs_fit one
          (λ small below. omega (arith, both_counter, small_counter small below)),
    )

  -- THE THEOREMS
  pub demand_of_all : DemandOfAll K
  unfolding DemandOfAll
  demand_of_all slots dir_rows n m one two Has-one has_two heads A = kept slots dir_rows n m one two Has-one has_two heads A

  pub demand : Demand K
  unfolding Demand DemandOfAll
  demand slots dir_rows n m one two Has-one has_two heads below A = demand_of_all slots dir_rows n m one two Has-one has_two heads A

  pub again_whatever_fails : AgainWhateverFails K
  unfolding AgainWhateverFails
  again_whatever_fails slots dir_rows n m one two Has-one has_two heads A = returned slots dir_rows n m one two Has-one has_two heads A
