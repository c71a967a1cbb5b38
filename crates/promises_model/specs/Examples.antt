-- A kit of numbers, which shows that the laws can be met, and mounts over it that compute.
-- Paths are numbers, and the one ancestor of a path is its tenth; the plan has a Boolean for each release: whether its calls succeed.
use Rattle.std.specs.Prelude.{ℕ, ◌≤◌, ◌/◌, ◌≡◌, refl, ◌≢◌, Bool, true, false, List, [], ◌∷◌, length, get_or, set, eqb}
use Rattle.std.proofs.Common.{arith, sym, ◌∙◌, inl, length-set, get_or-set_other, get_or-set_same, eqb-true, eq-eqb}
use Rattle.promises_model.specs.Model.{Claim, Head, absent, idle, claim, unbound, bound, Kit}
use Rattle.promises_model.specs.Model as M

record Disk : Type 0 where
  heads : List (Head ℕ)
  plan : List Bool

-- the next call's outcome, true past the plan's end, and the plan after it
abbrev next : List Bool → Bool
next [] = true
next (b ∷ bs) = b

abbrev rest : List Bool → List Bool
rest [] = []
rest (b ∷ bs) = bs

abbrev freed : Bool → List (Head ℕ) → ℕ → ℕ → List (Head ℕ)
freed true hs i g = set hs i (idle g)
freed false hs i g = hs

abbrev free : Disk → ℕ → ℕ → Disk
free w i g = record { heads = freed (next w.plan) w.heads i g; plan = rest w.plan }

freed_length : (b : Bool) (hs : List (Head ℕ)) (i g n : ℕ) → n ≤ length hs → n ≤ length (freed b hs i g)
freed_length true hs i g n h = omega (arith, length-set hs i (idle g))
freed_length false hs i g n h = h

freed_other : (b : Bool) (hs : List (Head ℕ)) (i g j : ℕ) → j ≢ i → get_or (freed b hs i g) j absent ≡ get_or hs j absent
freed_other true hs i g j ne = get_or-set_other hs i j (idle g) absent ne
freed_other false hs i g j ne = refl

abbrev numbers : Kit
numbers =
    record {
      Path = ℕ;
      same = eqb;
      same_refl = λ p. eq-eqb p p refl;
      same_sym = λ p q h. eq-eqb q p (sym (eqb-true p q h));
      same_trans = λ p q r h k. eq-eqb p r (eqb-true p q h ∙ eqb-true q r k);
      Dir = ℕ;
      eq_dir = eqb;
      eq_dir_true = eqb-true;
      eq_dir_refl = λ d. eq-eqb d d refl;
      ancestors = λ p. p / 10 ∷ [];
      ancestors_same = λ p q h. rw (eqb-true p q h);
      Device = Disk;
      Has = λ w n. n ≤ length w.heads;
      head = λ w i. get_or w.heads i absent;
      seen = λ w k m. w;
      has_seen = λ w n k m h. h;
      sees = λ w k m i. refl;
      free = free;
      fine = λ w i g. next w.plan;
      has_free = λ w n i g h l. freed_length (next w.plan) w.heads i g n h;
      keeps = λ w n i g j h l u ne. freed_other (next w.plan) w.heads i g j ne;
      frees = λ w n i g h l t f. rw f (get_or-set_same w.heads i (idle g) absent (omega arith));
      stays = λ w n i g h l t f. inl (rw f);
    }

abbrev c : ℕ → ℕ → ℕ → Claim ℕ
c p g l = record { path = p; gen = g; len = l }

-- Slots 0, 1 and 3 claim path 10; slot 2 is free; slot 4 claims path 25; the first release fails.
abbrev disk : Disk
disk = record { heads = claim (c 10 5 7) ∷ claim (c 10 5 8) ∷ idle 9 ∷ claim (c 10 6 9) ∷ claim (c 25 1 0) ∷ []; plan = false ∷ [] }

-- P2: of equal generations the lower slot holds.
tie : (M.mount numbers 2 disk).rows ≡ bound (c 10 5 7) ∷ unbound 6 ∷ []
unfolding M.mount M.adopt M.survey M.scan M.step M.find M.register M.has M.drain M.release
tie = refl

-- Slot 1 loses to slot 0, and slot 0 to slot 3: both are released in this order, and slot 1, whose release fails, is neither bound nor
-- free.
one_mount : M.mount numbers 5 disk
    ≡ record {
      rows = unbound 11 ∷ unbound 10 ∷ unbound 0 ∷ bound (c 10 6 9) ∷ bound (c 25 1 0) ∷ [];
      queue = 2 ∷ 0 ∷ [];
      losers = 1 ∷ 0 ∷ [];
      dirs = 1 ∷ 2 ∷ [];
      counter = 12;
      device = record { heads = idle 11 ∷ claim (c 10 5 8) ∷ idle 9 ∷ claim (c 10 6 9) ∷ claim (c 25 1 0) ∷ []; plan = [] };
    }
unfolding M.mount M.adopt M.survey M.scan M.step M.find M.register M.has M.drain M.release
one_mount = refl

-- In two parts: the same files and directories, and other generations in the unbound rows.
two_parts : (M.adopt numbers 3 (M.mount numbers 2 disk)).rows ≡ unbound 10 ∷ unbound 6 ∷ unbound 0 ∷ bound (c 10 6 9) ∷ bound (c 25 1 0) ∷ []
unfolding M.mount M.adopt M.survey M.scan M.step M.find M.register M.has M.drain M.release
two_parts = refl

-- Five claims of one path, of generations 5, 7, 6, 9, 9: the losers, in the order found, are slots 0, 2, 1, 4 and get generations 10 to 13.
abbrev five : Disk
five = record { heads = claim (c 10 5 0) ∷ claim (c 10 7 0) ∷ claim (c 10 6 0) ∷ claim (c 10 9 0) ∷ claim (c 10 9 0) ∷ []; plan = [] }

five_claims : M.mount numbers 5 five
    ≡ record {
      rows = unbound 10 ∷ unbound 12 ∷ unbound 11 ∷ bound (c 10 9 0) ∷ unbound 13 ∷ [];
      queue = 0 ∷ 2 ∷ 1 ∷ 4 ∷ [];
      losers = 0 ∷ 2 ∷ 1 ∷ 4 ∷ [];
      dirs = 1 ∷ [];
      counter = 14;
      device = record { heads = idle 10 ∷ idle 12 ∷ idle 11 ∷ claim (c 10 9 0) ∷ idle 13 ∷ []; plan = [] };
    }
unfolding M.mount M.adopt M.survey M.scan M.step M.find M.register M.has M.drain M.release
five_claims = refl

-- P6, P7: a valid header of generation 2^63 - 1 is accepted, one of 2^63 is not.
abbrev one_idle : ℕ → Disk
one_idle g = record { heads = idle g ∷ []; plan = [] }

p6 : M.Accepts numbers 1 0 1 (M.empty numbers (one_idle 9223372036854775807))
unfolding M.survey M.scan M.step
p6 = record { slots_fit = omega arith; dirs_fit = omega arith; gens_fit = omega arith }

p7 : M.Accepts numbers 1 0 1 (M.empty numbers (one_idle 9223372036854775808)) → ⊥
unfolding M.survey M.scan M.step
p7 a = omega (arith, a.gens_fit)

-- Mounting again may be refused where a release failed and generations pass 2^62: three claims of one path, the highest of generation
-- 2^63 - 3, are accepted; slot 1's release fails, slot 2's spends generation 2^63 - 1; slot 1 loses again, and there is no generation
-- left for it.
abbrev three : Disk
three = record { heads = claim (c 10 9223372036854775805 0) ∷ claim (c 10 1 0) ∷ claim (c 10 1 0) ∷ []; plan = false ∷ [] }

again_accepted : M.Accepts numbers 3 1 3 (M.empty numbers three)
unfolding M.survey M.scan M.step M.find M.register M.has
again_accepted = record { slots_fit = omega arith; dirs_fit = omega arith; gens_fit = omega arith }

again_refused : M.Accepts numbers 3 1 3 (M.empty numbers (M.mount numbers 3 three).device) → ⊥
unfolding M.mount M.adopt M.survey M.scan M.step M.find M.register M.has M.drain M.release
again_refused a = omega (arith, a.gens_fit)
