-- The parts of an accepted mount are accepted (refusals 12, 8 and 9): a part's directories begin the whole's, the losers are as many
-- (`losers_sum`), and so the counter goes no higher: max(M₁ + L₁, M₂) + L₂ ≤ max(M₁, M₂) + L₁ + L₂.
use Prim.Native.Nat.{ℕ, ◌+◌, ◌≤◌, ◌<◌, max}
use native.Mathlib.Omega.{arith}
use native.Mathlib.Nat.{zero-add}
use mathlib.Core.Path.{◌≡◌, sym, ◌∙◌}
use mathlib.Core.List.{[]}
use lib.ListN.{length}
use Rattle.promises_model.specs.Model.{Head, Kit}
use Rattle.promises_model.specs.Model as M
use Rattle.promises_model.proofs.Winner.{holders_agree, holders_heads}
use Rattle.promises_model.proofs.Pool.{Pool, empty_pool, survey_fit}
use Rattle.promises_model.proofs.Dirs.{dirs_of, dirs_of_heads, dirs_of_split, dirs_of_le, survey_dirs}
use Rattle.promises_model.proofs.Split.{part_pool, both_survey_dirs}
use Rattle.promises_model.proofs.Count.{count, count_agree, claims_of, highest, claims_heads, highest_heads, claims_split, highest_split, survey_balance, survey_counter, adopt_count, adopt_counter}

module _ (K : Kit) where
  open K use {Path, Device, Has, head}

  -- a survey from the empty pool
  module _ (n : ℕ) (w : Device) where
    abbrev first : M.State K
    first = M.survey K n (M.empty K w)

    pub first_balance : count first.rows + length first.losers ≡ claims_of K (head w) 0 n
    unfolding count
    first_balance = omega (arith, survey_balance K n (M.empty K w))

    pub first_counter : first.counter ≡ max 1 (highest K (head w) 0 n)
    first_counter = survey_counter K n (M.empty K w)

    pub mount_count : (N : ℕ) → Has w N → n ≤ N → count (M.mount K n w).rows ≡ count first.rows
    unfolding M.mount
    mount_count N has more = adopt_count K N (head w) n 0 (M.empty K w) (empty_pool K N w has) (omega arith)

    pub mount_counter : (M.mount K n w).counter ≡ first.counter + length first.losers
    unfolding M.mount
    mount_counter = adopt_counter K n (M.empty K w)

  module _ (slots n m : ℕ) (one two : Device) (Has-one : Has one slots) (has_two : Has two slots) (room : n + m ≤ slots)
      (heads : (i : ℕ) → i < n + m → head one i ≡ head two i) where
    -- the three surveys: of all slots, of the first n, of the other m
    abbrev whole : M.State K
    whole = M.survey K (n + m) (M.empty K one)

    abbrev part : M.State K
    part = M.survey K n (M.empty K two)

    abbrev rest : M.State K
    rest = M.survey K m (M.mount K n two)

    pool : Pool K slots (head two) n (M.mount K n two)
    pool = part_pool K slots n m two has_two room

    -- the adopted slots' headers are as they were
    abbrev later : ℕ → Head Path
    later = head (M.mount K n two).device

    ahead : (i : ℕ) → n ≤ i → i < n + m → later i ≡ head two i
    ahead i l u = pool.fit.ahead i (omega (arith, pool.size)) (omega arith)

    same_count : count whole.rows ≡ count rest.rows
    same_count =
        let f = survey_fit K slots (head one) (n + m) 0 (M.empty K one) (empty_pool K slots one Has-one) (omega arith) in
        let g = survey_fit K slots (head two) m n (M.mount K n two) pool room in
        count_agree K whole.rows rest.rows (omega (arith, f.size, g.size))
        (holders_agree K whole.rows rest.rows (omega (arith, f.size, g.size)) f.fit.holders
        (holders_heads K rest.rows (λ i l. sym (heads i (omega (arith, g.size)))) g.fit.holders))

    rest_balance : count rest.rows + length rest.losers ≡ count part.rows + claims_of K (head two) n m
    rest_balance =
        let e : claims_of K later (length (M.mount K n two).rows) m ≡ claims_of K (head two) n m = rw pool.size (claims_heads K later (head two) n m ahead) in
        omega (arith, survey_balance K m (M.mount K n two), mount_count n two slots has_two (omega arith))

    rest_counter : rest.counter ≡ max (part.counter + length part.losers) (highest K (head two) n m)
    rest_counter =
        let e : highest K later (length (M.mount K n two).rows) m ≡ highest K (head two) n m = rw pool.size (highest_heads K later (head two) n m ahead) in
        omega (arith, survey_counter K m (M.mount K n two), mount_counter n two)

    all_claims : claims_of K (head one) 0 (n + m) ≡ claims_of K (head two) 0 n + claims_of K (head two) n m
    all_claims = claims_heads K (head one) (head two) 0 (n + m) (λ i l u. heads i (omega arith)) ∙ (claims_split K (head two) 0 n m ∙ rw zero-add)

    all_highest : highest K (head one) 0 (n + m) ≡ max (highest K (head two) 0 n) (highest K (head two) n m)
    all_highest = highest_heads K (head one) (head two) 0 (n + m) (λ i l u. heads i (omega arith)) ∙ (highest_split K (head two) 0 n m ∙ rw zero-add)

    -- each claim but the best of its path loses once, in one part or the other
    pub losers_sum : length whole.losers ≡ length part.losers + length rest.losers
    losers_sum = omega (arith, first_balance (n + m) one, first_balance n two, rest_balance, same_count, all_claims)

    pub part_counter_le : part.counter + length part.losers ≤ whole.counter + length whole.losers
    part_counter_le = omega (arith, losers_sum, first_counter n two, first_counter (n + m) one, all_highest)

    pub rest_counter_le : rest.counter + length rest.losers ≤ whole.counter + length whole.losers
    rest_counter_le = omega (arith, losers_sum, rest_counter, first_counter n two, first_counter (n + m) one, all_highest)

    -- the directories of the whole are those of the part and then those of the rest
    whole_dirs : whole.dirs ≡ dirs_of K (head two) 0 (n + m) []
    whole_dirs = survey_dirs K (n + m) (M.empty K one) ∙ dirs_of_heads K (head one) (head two) 0 (n + m) [] (λ i l u. heads i (omega arith))

    part_dirs_le : length part.dirs ≤ length whole.dirs
    part_dirs_le = rw (survey_dirs K n (M.empty K two), whole_dirs, dirs_of_split K (head two) 0 n m []) (dirs_of_le K (head two) (0 + n) m (dirs_of K (head two) 0 n []))

    module _ (dir_rows : ℕ) (A : M.Accepts K slots dir_rows (n + m) (M.empty K one)) where
      pub part_accepted : M.Accepts K slots dir_rows n (M.empty K two)
      part_accepted =
          record {
            slots_fit = omega (arith, A.slots_fit);
            dirs_fit = omega (arith, part_dirs_le, A.dirs_fit);
            gens_fit = omega (arith, part_counter_le, A.gens_fit);
          }

      pub rest_accepted : M.Accepts K slots dir_rows m (M.mount K n two)
      rest_accepted =
          record {
            slots_fit = omega (arith, pool.size, A.slots_fit);
            dirs_fit = rw (both_survey_dirs K slots n m two has_two room ∙ sym whole_dirs) A.dirs_fit;
            gens_fit = omega (arith, rest_counter_le, A.gens_fit);
          }
