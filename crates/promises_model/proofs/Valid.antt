-- Adopt keeps a pool a pool, whatever state it is called in: the rows held are taken for headers of their own (`heads`), and the pool's
-- invariant does the rest.
use Prim.Native.Nat.{ℕ, suc, ◌≤◌, ◌<◌, max}
use native.Mathlib.Omega.{arith}
use mathlib.Core.Path.{◌≡◌, refl, sym}
use mathlib.Core.Logic.{◌⊎◌, inl, inr}
use mathlib.Core.Bool.{Bool, true, false, cond}
use mathlib.Core.List.Memᴰ
use mathlib.Core.List.{List, [], ◌∷◌, ◌++◌, append-nil}
use lib.ListN.{length, set}
use lib.Dec.{ltb}
use borrow.Author.Tests.{lt-ltb, le-ltb}
use Rattle.lists.specs.Distinct.{In, snoc_in, Distinct, none, more, distinct_snoc}
use Rattle.promises_model.specs.Model.{Claim, Head, absent, idle, claim, Row, unbound, bound, Kit}
use Rattle.promises_model.specs.Model as M
use Rattle.promises_model.specs.Valid.{gen_of, Valid, AdoptKeeps, MountMakes}
use Rattle.promises_model.proofs.Loops.{bound≢unbound, unbound≢bound, absent≢claim}
use Rattle.promises_model.proofs.Rows.{snoc_cases, set_either, inside}
use Rattle.promises_model.proofs.Pool.{Fit, Pool, Steady, adopt_pool, adopt_steady}
use Rattle.promises_model.proofs.Dirs.{survey_dirs, adopt_dirs, dirs_of_once}
use Rattle.promises_model.proofs.Count.{adopt_counter}

-- queue and losers hold distinct slots, and none in common
record Apart (q l : List ℕ) : Type 0 where
  queue : Distinct q
  losers : Distinct l
  apart : (i : ℕ) → In i q → In i l → ⊥

-- one more in the queue; one more among the losers
queue_more : (q l : List ℕ) (n : ℕ) → (In n q → ⊥) → (In n l → ⊥) → Apart q l → Apart (q ++ (n ∷ [])) l
queue_more q l n f g A = record { queue = distinct_snoc n A.queue f; losers = A.losers; apart = λ i h k. go i k (snoc_in q n i h) }
  where
    go : (i : ℕ) → In i l → In i q ⊎ (i ≡ n) → ⊥
    go i k (inl h) = A.apart i h k
    go i k (inr e) = g (Memᴰ.cast (sym e) k)

losers_more : (q l : List ℕ) (n : ℕ) → (In n q → ⊥) → (In n l → ⊥) → Apart q l → Apart q (l ++ (n ∷ []))
losers_more q l n f g A = record { queue = A.queue; losers = distinct_snoc n A.losers g; apart = λ i k h. go i k (snoc_in l n i h) }
  where
    go : (i : ℕ) → In i q → In i l ⊎ (i ≡ n) → ⊥
    go i k (inl h) = A.apart i k h
    go i k (inr e) = f (Memᴰ.cast (sym e) k)

module _ (K : Kit) where
  open K use {Path, same_refl, Device, Has, head, fine}

  abbrev at : List (Row Path) → ℕ → Row Path
  at = M.row_at K

  -- every row's generation is below B
  Below : ℕ → List (Row Path) → Type 0
  Below B rs = (i : ℕ) → gen_of (at rs i) < B

  below_snoc : (B : ℕ) (rs : List (Row Path)) (r : Row Path) → Below B rs → gen_of r < B → Below B (rs ++ (r ∷ []))
  unfolding Below
  below_snoc B rs r b l i = go (snoc_cases (unbound 0) rs r (at (rs ++ (r ∷ [])) i) i refl)
    where
      go : (at rs i ≡ at (rs ++ (r ∷ [])) i) ⊎ ((i ≡ length rs) × (r ≡ at (rs ++ (r ∷ [])) i)) → gen_of (at (rs ++ (r ∷ [])) i) < B
      go (inl e) = rw (← e) (b i)
      go (inr e) = rw (← e.1) l

  below_set : (B : ℕ) (rs : List (Row Path)) (j g : ℕ) → Below B rs → g < B → Below B (set rs j (unbound g))
  unfolding Below
  below_set B rs j g b l i = go (set_either (unbound 0) rs j (unbound g) i)
    where
      go : (at (set rs j (unbound g)) i ≡ unbound g) ⊎ (at (set rs j (unbound g)) i ≡ at rs i) → gen_of (at (set rs j (unbound g)) i) < B
      go (inl e) = rw e l
      go (inr e) = rw e (b i)

  below_more : (B C : ℕ) (rs : List (Row Path)) → B ≤ C → Below B rs → Below C rs
  unfolding Below
  below_more B C rs l b i = omega (arith, b i)

  -- what a step and a release keep besides
  record Neat (s : M.State K) (ls : List ℕ) : Type 0 where
    lists : Apart s.queue ls
    gens : Below s.counter s.rows
    started : 1 ≤ s.counter

  step_neat : (N : ℕ) (H : ℕ → Head Path) (s : M.State K) (h : Head Path) → Fit K N H s s.losers → Neat s s.losers → Neat (M.step K s h) (M.step K s h).losers
  unfolding M.step
  step_neat N H s h F A = go h
    where
      n : ℕ
      n = length s.rows

      not_queued : In n s.queue → ⊥
      not_queued k = omega (arith, (F.queued n k).0)

      not_lost : In n s.losers → ⊥
      not_lost k = omega (arith, (F.listed n k).0)

      -- the newest row's generation is below the new counter
      grown : (rs : List (Row Path)) (r : Row Path) (a : ℕ) → Below s.counter rs → gen_of r < max s.counter a → Below (max s.counter a) (rs ++ (r ∷ []))
      grown rs r a b l = below_snoc (max s.counter a) rs r (below_more s.counter (max s.counter a) rs (omega arith) b) l

      quiet : (h : Head Path) → Neat (M.spare K s h) s.losers
      quiet h =
          record {
            lists = queue_more s.queue s.losers n not_queued not_lost A.lists;
            gens = grown s.rows (unbound 0) (M.wants K h) A.gens (omega (arith, A.started));
            started = omega (arith, A.started);
          }

      entered : (c : Claim Path) (rs : List (Row Path)) (ls : List ℕ) (r : Row Path) → Apart s.queue (s.losers ++ ls) → Below s.counter rs → gen_of r ≤ c.gen
          → Neat (M.enter K s c rs ls r) (s.losers ++ ls)
      entered c rs ls r a b l =
          record { lists = a; gens = grown rs r (suc c.gen) b (omega arith); started = omega (arith, A.started) }

      rival : (c d : Claim Path) (j : ℕ) → at s.rows j ≡ bound d → (b : Bool) → Neat (M.rival K s c j b) (M.rival K s c j b).losers
      rival c d j k true = entered c s.rows (n ∷ []) (unbound 0) (losers_more s.queue s.losers n not_queued not_lost A.lists) A.gens (omega arith)
      rival c d j k false =
          entered c (set s.rows j (unbound 0)) (j ∷ []) (bound c)
          (losers_more s.queue s.losers j (λ m. (F.queued j m).1 d k) (λ m. (F.listed j m).1 d k) A.lists)
          (below_set s.counter s.rows j 0 A.gens (omega (arith, A.started))) (omega arith)

      meet : (c : Claim Path) (j : ℕ) (r : Row Path) → at s.rows j ≡ r → Neat (M.meet K s c j r) (M.meet K s c j r).losers
      meet c j (unbound g) k = entered c s.rows [] (bound c) (rw append-nil A.lists) A.gens (omega arith)
      meet c j (bound d) k = rival c d j k (M.stands K d c)

      go : (h : Head Path) → Neat (M.step K s h) (M.step K s h).losers
      go absent = quiet absent
      go (idle g) = quiet (idle g)
      go (claim c) = let j = M.find K c.path s.rows in meet c j (at s.rows j) refl

  release_neat : (s : M.State K) (i : ℕ) (ls : List ℕ) → Neat s (i ∷ ls) → Neat (M.release K s i) ls
  unfolding M.release
  release_neat s i ls A =
      record {
        lists = go (fine s.device i s.counter) A.lists.losers;
        gens = below_set (suc s.counter) s.rows i s.counter (below_more s.counter (suc s.counter) s.rows (omega arith) A.gens) (omega arith);
        started = omega arith;
      }
    where
      fewer : Distinct ls → Apart s.queue ls
      fewer t = record { queue = A.lists.queue; losers = t; apart = λ j h k. A.lists.apart j h (Memᴰ.tail k) }

      go : (b : Bool) → Distinct (i ∷ ls) → Apart (M.joins K b s.queue i) ls
      go true (more f t) = queue_more s.queue ls i (λ h. A.lists.apart i h (Memᴰ.head refl)) f (fewer t)
      go false (more f t) = fewer t

  abbrev Any : List ℕ → M.State K → Type 0
  Any ls s = Unit {0}

  steady : (N : ℕ) (H : ℕ → Head Path) → Steady K N H Any Neat
  steady N H =
      record {
        reads = λ n s A. record { lists = A.lists; gens = A.gens; started = A.started };
        steps = λ s h e q F A. step_neat N H s h F A;
        releases = λ s i ls F u A. release_neat s i ls A;
        later = λ s i ls u. tt;
      }

  -- the headers that the rows held would have, and the device's for the slots to come
  of_row : Row Path → Head Path
  of_row (unbound g) = absent
  of_row (bound c) = claim c

  heads : M.State K → ℕ → Head Path
  heads s i = cond (ltb i (length s.rows)) (of_row (at s.rows i)) (head s.device i)

  of_claim : (r : Row Path) (e : Claim Path) → of_row r ≡ claim e → r ≡ bound e
  unfolding of_row
  of_claim (unbound g) e h = absurd (absent≢claim h)
  of_claim (bound c) e h = cc

  valid_pool : (N : ℕ) (s : M.State K) → Has s.device N → length s.rows ≤ N → Valid K s → Pool K N (heads s) (length s.rows) s
  unfolding heads of_row
  valid_pool N s has room v =
      record {
        fit =
            record {
              holders =
                  record {
                    sound = λ i c h. rw (lt-ltb i (length s.rows) (inside (unbound 0) s.rows (bound c) i bound≢unbound h), h);
                    uniq = v.paths;
                    held = λ m e l h.
                        record {
                          slot = m;
                          by = e;
                          holds = of_claim (at s.rows m) e (rw (lt-ltb m (length s.rows) l) at h);
                          like = same_refl e.path;
                          top = omega arith;
                          tie = λ l. omega arith;
                        };
                  };
              has = has;
              room = room;
              ahead = λ i l u. rw (le-ltb i (length s.rows) l);
              listed = λ i k. absurd (Memᴰ.not-nil k);
              claimed = λ i k. absurd (Memᴰ.not-nil k);
              queued = v.queued;
            };
        size = refl;
      }

  -- THE THEOREMS
  pub adopt_keeps : AdoptKeeps K
  unfolding AdoptKeeps Below
  adopt_keeps slots dir_rows n s has A v =
      let k = length s.rows in
      let p = valid_pool slots s has (omega (arith, A.slots_fit)) v in
      let q = adopt_pool K slots (heads s) n k s p A.slots_fit in
      let neat : Neat s [] = record { lists = record { queue = v.once; losers = none; apart = λ i h m. Memᴰ.not-nil m }; gens = v.gens; started = v.counter.0 } in
      let a = adopt_steady K slots (heads s) Any Neat (steady slots (heads s)) n k s p A.slots_fit neat tt in
      record {
        paths = q.fit.holders.uniq;
        gens = a.gens;
        counter = (a.started, omega (arith, adopt_counter K n s, A.gens_fit));
        queued = q.fit.queued;
        once = a.lists.queue;
        dirs = rw (adopt_dirs K n s, survey_dirs K n s) (dirs_of_once K (head s.device) k n s.dirs v.dirs);
      }

  empty_valid : (w : Device) → Valid K (M.empty K w)
  empty_valid w =
      record {
        paths = λ i j c d h. absurd (unbound≢bound h);
        gens = λ i. omega arith;
        counter = (omega arith, omega arith);
        queued = λ i h. absurd (Memᴰ.not-nil h);
        once = none;
        dirs = none;
      }

  pub mount_makes : MountMakes K
  unfolding MountMakes AdoptKeeps M.mount
  mount_makes slots dir_rows n w has A = adopt_keeps slots dir_rows n (M.empty K w) has A (empty_valid w)
