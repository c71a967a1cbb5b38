-- The test says exactly what a pool is.
use Prim.Native.Nat.{ℕ, zero, suc, ◌+◌, ◌≤◌, ◌<◌}
use mathlib.Core.Path.{◌≡◌, refl, sym, ap, ◌∙◌, subst}
use mathlib.Core.Logic.{◌⊎◌, inl, inr, ⊎_elim}
use mathlib.Core.List.Memᴰ
use mathlib.Core.List.{List, [], ◌∷◌}
use mathlib.Core.Bool.{Bool, true, false, cond, not, false≢true}
use native.Mathlib.Omega.{arith}
use native.Mathlib.Decide.{ℕ_discrete}
use Rattle.std.proofs.lemmas.Bool.{cases_lt}
use Rattle.std.proofs.lemmas.Bool.Decides.{nat_tests}
use lib.ListN.{length, take, get_or}
use lib.Dec.{eqb}
use lib.Seq.{length-take-le}
use borrow.Author.Tests.{eqb-true, eq-eqb, ne_eqb, lt-ltb}
use Rattle.lists.specs.Runs.{all_of, tab, all_intro, any_not, any_none}
use Rattle.lists.specs.Same.{same_bytes, same_bytes_refl, same_bytes_eq}
use Rattle.lists.specs.Distinct.{In, Distinct}
use Rattle.lists.specs.Distinct.Distinct.{none, more}
use Rattle.text.specs.Text.{is_text, walk_of}
use Rattle.path.specs.Path.{components, same_path, normal, ancestors}
use Rattle.path.proofs.Theorems.{same_path_lem, same_path_refl, same_normal}
use Rattle.path.proofs.Ancestors.{ancestor_normal}
use Rattle.slot_rows.specs.Rows.{Row, at, is_bound, path_of, gen_of, holds, find, rows_of}
use Rattle.slot_rows.proofs.InBuffers.{length_rows}
use Rattle.slot_rows.proofs.Finding.{holds_bound, holds_path, find_is, find_same}
use Rattle.dir_rows.specs.Dirs.{Dirs, has_path}
use Rattle.dir_rows.proofs.Joined.{in_has, has_one, has_in}
use Rattle.dir_rows.proofs.Registering.{closed_by_parents}
use Rattle.dir_rows.specs.Rows.{dir_at, dirs_of}
use Rattle.dir_rows.proofs.InBuffer.{length_dirs, dirs_short}
use Rattle.pool_state.specs.State.{State, Valid, Bufs, queue_of, view, pool_of, flat, IsPool}
use Rattle.pool_state.specs.InBuffers.{pool_dirs}
use Rattle.pool_state.specs.Reads.{pool_reads}
use Rattle.pool_test.specs.Test.{sizes_ok, rest_ok, first_ok, row_ok, is_at, has_num, cell_ok, first_held, up_held, dir_ok, fits_ok, view_ok, is_pool, PoolExactly}
use Rattle.pool_test.proofs.FlatForms.{both, and_of, below, sized, sized_tested, zero_part, fit_rows, row_tested, fit_dirs, dir_tested, fit_queue}

-- a row is the first of its path unless it is bound and a row before it holds the path
pub first_of : (rs : List Row) (i : ℕ) → (is_bound (at rs i) ≡ true → (j : ℕ) → j < i → holds (path_of (at rs i)) (at rs j) ≡ false) → first_ok rs i ≡ true
unfolding first_ok
first_of rs i h = go (is_bound (at rs i)) refl
  where
    go : (t : Bool) → is_bound (at rs i) ≡ t → cond t (eqb (find (path_of (at rs i)) rs) i) true ≡ true
    go false b = refl
    go true b = eq-eqb _ _ (find_is (path_of (at rs i)) rs i (holds_path (path_of (at rs i)) (at rs i) b ∙ same_path_refl (path_of (at rs i))) (h b))

-- ---- rows apart

bound_inside : (rs : List Row) (i : ℕ) → is_bound (at rs i) ≡ true → i < length rs
unfolding is_bound
bound_inside [] i e = absurd (false≢true e)
bound_inside (r ∷ rs) zero e = omega arith
bound_inside (r ∷ rs) (suc i) e = omega (arith, bound_inside rs i e)

past_young : (rs : List Row) (i c : ℕ) → 1 ≤ c → length rs ≤ i → gen_of (at rs i) < c
unfolding gen_of
past_young [] i c b h = omega arith
past_young (r ∷ rs) zero c b h = absurd (omega arith)
past_young (r ∷ rs) (suc i) c b h = past_young rs i c b (omega arith)

past_text : (rs : List Row) (i : ℕ) → length rs ≤ i → is_text (path_of (at rs i)) ≡ true
unfolding path_of is_text walk_of
past_text [] i h = refl
past_text (r ∷ rs) zero h = absurd (omega arith)
past_text (r ∷ rs) (suc i) h = past_text rs i (omega arith)

module _ (c n : ℕ) (rs : List Row) (k : length rs ≡ n) (e : all_of (row_ok c rs) 0 n ≡ true) where
  row_says : (i : ℕ) → i < n → (gen_of (at rs i) < c) × (is_text (path_of (at rs i)) ≡ true) × (first_ok rs i ≡ true)
  unfolding row_ok
  row_says i h =
      let t = below (row_ok c rs) n i e h in
      (grind (arith, nat_tests), grind (arith, nat_tests), grind (arith, nat_tests))

  first : (i : ℕ) → is_bound (at rs i) ≡ true → find (path_of (at rs i)) rs ≡ i
  unfolding first_ok
  first i b = eqb-true _ _ (rw b at (row_says i (omega (arith, bound_inside rs i b))).2)

  rows_apart : (i j : ℕ) → is_bound (at rs i) ≡ true → is_bound (at rs j) ≡ true → components (path_of (at rs i)) ≡ components (path_of (at rs j)) → i ≡ j
  rows_apart i j b d h = sym (first i b) ∙ find_same (path_of (at rs i)) (path_of (at rs j)) rs ((same_path_lem (path_of (at rs i)) (path_of (at rs j))).1 h) ∙ first j d

  rows_young : 1 ≤ c → (i : ℕ) → gen_of (at rs i) < c
  rows_young b i = ⊎_elim (λ h. (row_says i h).0) (λ h. past_young rs i c b (omega arith)) (cases_lt i n)

  rows_text : (i : ℕ) → is_text (path_of (at rs i)) ≡ true
  rows_text i = ⊎_elim (λ h. (row_says i h).1) (λ h. past_text rs i (omega arith)) (cases_lt i n)

first_tested : (s : State) → Valid s → (i : ℕ) → first_ok s.rows i ≡ true
first_tested s ok i = first_of s.rows i (λ b j h. own b j h _ refl)
  where
    own : is_bound (at s.rows i) ≡ true → (j : ℕ) → j < i → (t : Bool) → holds (path_of (at s.rows i)) (at s.rows j) ≡ t → t ≡ false
    own b j h false e = refl
    own b j h true e =
        let d = holds_bound (path_of (at s.rows i)) (at s.rows j) e in
        let q : same_path (path_of (at s.rows j)) (path_of (at s.rows i)) ≡ true = sym (holds_path (path_of (at s.rows i)) (at s.rows j) d) ∙ e in
        absurd (omega (arith, ok.slots.apart i j b d (sym ((same_path_lem _ _).0 q))))

row_passes : (s : State) → Valid s → (i : ℕ) → row_ok s.counter s.rows i ≡ true
unfolding row_ok
row_passes s ok i = and_of _ _ (lt-ltb _ _ (ok.slots.young i)) (and_of _ _ (ok.slots.text i) (first_tested s ok i))

-- ---- numbers in a list

-- a number of the first n has an index below n
in_take : (q : List ℕ) (n x : ℕ) → In x (take n q) → (k : ℕ) × (k < n) × (get_or q k 0 ≡ x)
in_take q zero x m = absurd (Memᴰ.not-nil m)
in_take [] (suc n) x m = absurd (Memᴰ.not-nil m)
in_take (y ∷ q) (suc n) x m = go (Memᴰ.cases_cons m) (in_take q n x)
  where
    go : (x ≡ y) ⊎ In x (take n q) → (In x (take n q) → (k : ℕ) × (k < n) × (get_or q k 0 ≡ x)) → (k : ℕ) × (k < suc n) × (get_or (y ∷ q) k 0 ≡ x)
    go (inl e) ih = (0, omega arith, sym e)
    go (inr m) ih = let r = ih m in (suc r.0, omega (arith, r.1), r.2)

take_in : (q : List ℕ) (n k : ℕ) → k < n → k < length q → In (get_or q k 0) (take n q)
take_in q zero k h l = absurd (omega arith)
take_in [] (suc n) k h l = absurd (omega arith)
take_in (y ∷ q) (suc n) zero h l = Memᴰ.head refl
take_in (y ∷ q) (suc n) (suc k) h l = Memᴰ.tail (take_in q n k (omega arith) (omega arith))

-- none of the first n stands before another that is equal to it
abbrev Apart : {A : Type 0} → (ℕ → A) → ℕ → Type 0
Apart f n = (j k : ℕ) → j < k → k < n → f j ≡ f k → ⊥

take_once : (q : List ℕ) (n : ℕ) → Apart (λ k. get_or q k 0) n → Distinct (take n q)
take_once q zero f = none
take_once [] (suc n) f = none
take_once (y ∷ q) (suc n) f =
    more (λ m. let r = in_take q n y m in f 0 (suc r.0) (omega arith) (omega (arith, r.1)) (sym r.2))
    (take_once q n (λ j k h l. f (suc j) (suc k) (omega arith) (omega arith)))

once_take : (q : List ℕ) (n : ℕ) → Distinct (take n q) → n ≤ length q → Apart (λ k. get_or q k 0) n
once_take q zero d w j k a b e = omega arith
once_take [] (suc n) d w j k a b e = omega arith
once_take (y ∷ q) (suc n) (more f d) w zero zero a b e = omega arith
once_take (y ∷ q) (suc n) (more f d) w zero (suc k) a b e = f (subst (λ (x : ℕ). In x (take n q)) (sym e) (take_in q n k (omega arith) (omega arith)))
once_take (y ∷ q) (suc n) (more f d) w (suc j) zero a b e = omega arith
once_take (y ∷ q) (suc n) (more f d) w (suc j) (suc k) a b e = once_take q n d (omega arith) j k (omega arith) (omega arith) e

-- ---- the queue

cell_says : (rs : List Row) (q : List ℕ) (k : ℕ) → cell_ok rs q k ≡ true
    → (get_or q k 0 < length rs) × (is_bound (at rs (get_or q k 0)) ≡ false) × (has_num q k (get_or q k 0) ≡ false)
unfolding cell_ok
cell_says rs q k e = (grind (arith, nat_tests), grind (arith, nat_tests), grind (arith, nat_tests))

module _ (rs : List Row) (q : List ℕ) (n : ℕ) (e : all_of (cell_ok rs q) 0 n ≡ true) where
  cell : (k : ℕ) → k < n → (get_or q k 0 < length rs) × (is_bound (at rs (get_or q k 0)) ≡ false) × (has_num q k (get_or q k 0) ≡ false)
  cell k h = cell_says rs q k (below (cell_ok rs q) n k e h)

  queue_inside : (x : ℕ) → In x (take n q) → x < length rs
  queue_inside x m = let r = in_take q n x m in subst (λ (y : ℕ). y < length rs) r.2 (cell r.0 r.1).0

  queue_idle : (x : ℕ) → In x (take n q) → is_bound (at rs x) ≡ false
  queue_idle x m = let r = in_take q n x m in subst (λ (y : ℕ). is_bound (at rs y) ≡ false) r.2 (cell r.0 r.1).1

  queue_once : Distinct (take n q)
  unfolding is_at
  queue_once = take_once q n (λ j k h l u. false≢true (sym (any_not (is_at q (get_or q k 0)) 0 k j (cell k l).2 (omega arith) (omega arith)) ∙ eq-eqb _ _ u))

cell_passes : (s : State) (q : List ℕ) (n k : ℕ) → Valid s → s.queue ≡ take n q → n ≤ length q → k < n → cell_ok s.rows q k ≡ true
unfolding cell_ok is_at
cell_passes s q n k ok e w h =
    let m : In (get_or q k 0) s.queue = subst (λ (l : List ℕ). In (get_or q k 0) l) (sym e) (take_in q n k h (omega arith)) in
    let d : Distinct (take n q) = subst Distinct e ok.waiting.once in
    let z : has_num q k (get_or q k 0) ≡ false = any_none (is_at q (get_or q k 0)) 0 k (λ j a b. ne_eqb _ _ (once_take q n d w j k (omega arith) h)) in
    let y = ok.waiting.idle (get_or q k 0) m in
    and_of _ _ (lt-ltb _ _ (ok.waiting.inside (get_or q k 0) m)) (rw (y, z))

-- ---- directories

pub in_dirs : (b : List ℕ) (i k : ℕ) (d : List ℕ) → In d (tab (dir_at b) i k) → (j : ℕ) × (i ≤ j) × (j < i + k) × (dir_at b j ≡ d)
unfolding tab
in_dirs b i zero d m = absurd (Memᴰ.not-nil m)
in_dirs b i (suc k) d m = go (Memᴰ.cases_cons m) (in_dirs b (suc i) k d)
  where
    go : (d ≡ dir_at b i) ⊎ In d (tab (dir_at b) (suc i) k) → (In d (tab (dir_at b) (suc i) k) → (j : ℕ) × (suc i ≤ j) × (j < suc i + k) × (dir_at b j ≡ d))
        → (j : ℕ) × (i ≤ j) × (j < i + suc k) × (dir_at b j ≡ d)
    go (inl e) ih = (i, omega arith, omega arith, sym e)
    go (inr m) ih = let r = ih m in (r.0, omega (arith, r.1), omega (arith, r.2), r.3)

pub dirs_in_lem : (b : List ℕ) (i k j : ℕ) → i ≤ j → j < i + k → In (dir_at b j) (tab (dir_at b) i k)
unfolding tab
dirs_in_lem b i zero j p q = absurd (omega arith)
dirs_in_lem b i (suc k) j p q = go (ℕ_discrete i j) (dirs_in_lem b (suc i) k j)
  where
    go : Dec (i ≡ j) → (suc i ≤ j → j < suc i + k → In (dir_at b j) (tab (dir_at b) (suc i) k)) → In (dir_at b j) (dir_at b i ∷ tab (dir_at b) (suc i) k)
    go (yes e) ih = Memᴰ.head (ap (dir_at b) (sym e))
    go (no e) ih = Memᴰ.tail (ih (omega arith) (omega arith))

tab_once : (b : List ℕ) (i k : ℕ) → ((j t : ℕ) → i ≤ j → j < t → t < i + k → dir_at b j ≡ dir_at b t → ⊥) → Distinct (tab (dir_at b) i k)
unfolding tab
tab_once b i zero f = none
tab_once b i (suc k) f =
    more (λ m. let r = in_dirs b (suc i) k (dir_at b i) m in f i r.0 (omega arith) (omega (arith, r.1)) (omega (arith, r.2)) (sym r.3))
    (tab_once b (suc i) k (λ j t p q h. f j t (omega arith) q (omega arith)))

once_tab : (b : List ℕ) (i k : ℕ) → Distinct (tab (dir_at b) i k) → (j t : ℕ) → i ≤ j → j < t → t < i + k → dir_at b j ≡ dir_at b t → ⊥
unfolding tab
once_tab b i zero d j t p q h e = omega arith
once_tab b i (suc k) (more f d) j t p q h e = go (ℕ_discrete i j) (once_tab b (suc i) k d j t)
  where
    go : Dec (i ≡ j) → (suc i ≤ j → j < t → t < suc i + k → dir_at b j ≡ dir_at b t → ⊥) → ⊥
    go (yes u) ih = f (subst (λ (x : List ℕ). In x (tab (dir_at b) (suc i) k)) (sym (ap (dir_at b) u ∙ e)) (dirs_in_lem b (suc i) k t (omega arith) (omega arith)))
    go (no u) ih = ih (omega arith) q (omega arith) e

pub dir_says : (b : List ℕ) (m j : ℕ) → dir_ok b m j ≡ true
    → (normal (dir_at b j) ≡ dir_at b j) × (has_path (dirs_of b j) (dir_at b j) ≡ false) × (up_held (dirs_of b m) (dir_at b j) ≡ true)
unfolding dir_ok
dir_says b m j e = (same_bytes_eq _ _ (grind (arith, nat_tests)), grind (arith, nat_tests), grind (arith, nat_tests))

up_says : (ds xs : List (List ℕ)) (a : List ℕ) (t : List (List ℕ)) → first_held ds xs ≡ true → xs ≡ a ∷ t → has_path ds a ≡ true
unfolding first_held
up_says ds xs a t h e = sym (ap (first_held ds) e) ∙ h

module _ (b : List ℕ) (m : ℕ) (e : all_of (dir_ok b m) 0 m ≡ true) where
  dir : (j : ℕ) → j < m → (normal (dir_at b j) ≡ dir_at b j) × (has_path (dirs_of b j) (dir_at b j) ≡ false) × (up_held (dirs_of b m) (dir_at b j) ≡ true)
  dir j h = dir_says b m j (below (dir_ok b m) m j e h)

  pub normals : (d : List ℕ) → In d (dirs_of b m) → normal d ≡ d
  unfolding dirs_of
  normals d i = let r = in_dirs b 0 m d i in subst (λ (x : List ℕ). normal x ≡ x) r.3 (dir r.0 (omega (arith, r.2))).0

  once : Distinct (dirs_of b m)
  unfolding dirs_of
  once =
      tab_once b 0 m
      (λ j t p q h u. false≢true (sym (dir t (omega arith)).1 ∙ in_has (tab (dir_at b) 0 t) (dir_at b j) (dir_at b t) (dirs_in_lem b 0 t j (omega arith) (omega arith)) (ap components u)))

  nearest : (d a : List ℕ) (t : List (List ℕ)) → In d (dirs_of b m) → ancestors d ≡ a ∷ t → In a (dirs_of b m)
  unfolding dirs_of
  nearest d a t i u =
      let r = in_dirs b 0 m d i in
      let h : has_path (dirs_of b m) a ≡ true = up_says (dirs_of b m) (ancestors d) a t (subst (λ (x : List ℕ). up_held (dirs_of b m) x ≡ true) r.3 (dir r.0 (omega (arith, r.2))).2) u in
      Memᴰ.cast (sym (ancestor_normal d a (subst (λ (l : List (List ℕ)). In a l) (sym u) (Memᴰ.head refl)))) (has_in (dirs_of b m) a normals h)

  directories_of : Dirs (dirs_of b m)
  directories_of = record { normals = normals; once = once; closed = closed_by_parents (dirs_of b m) nearest }

-- a normal directory is none of those before it that are normal and other bytes
pub fresh : (b : List ℕ) (j : ℕ) → ((i : ℕ) → i ≤ j → normal (dir_at b i) ≡ dir_at b i) → ((i : ℕ) → i < j → dir_at b i ≡ dir_at b j → ⊥)
    → has_path (dirs_of b j) (dir_at b j) ≡ false
unfolding dirs_of
fresh b j n d = go _ refl
  where
    go : (t : Bool) → has_path (tab (dir_at b) 0 j) (dir_at b j) ≡ t → t ≡ false
    go false u = refl
    go true u =
        let r = has_one (tab (dir_at b) 0 j) (dir_at b j) u in
        let s = in_dirs b 0 j r.0 r.1 in
        absurd (d s.0 (omega (arith, s.2)) (sym (n s.0 (omega (arith, s.2))) ∙ (same_normal (dir_at b s.0) (dir_at b j)).1 (ap components s.3 ∙ r.2) ∙ n j (omega arith)))

dir_passes : (b : List ℕ) (m j : ℕ) → Dirs (dirs_of b m) → j < m → dir_ok b m j ≡ true
unfolding dir_ok dirs_of first_held
dir_passes b m j D h =
    and_of _ _ (ap (λ (x : List ℕ). same_bytes x (dir_at b j)) (D.normals (dir_at b j) (inside j (omega arith))) ∙ same_bytes_refl (dir_at b j))
    (and_of _ _ (ap not (fresh b j (λ i l. D.normals (dir_at b i) (inside i l)) (λ i l. once_tab b 0 m D.once i j (omega arith) l (omega arith))))
    (up (ancestors (dir_at b j)) (λ a k. in_has (dirs_of b m) a a (D.closed (dir_at b j) a (inside j (omega arith)) k) refl)))
  where
    inside : (i : ℕ) → i ≤ j → In (dir_at b i) (tab (dir_at b) 0 m)
    inside i l = dirs_in_lem b 0 m i (omega arith) (omega arith)

    up : (xs : List (List ℕ)) → ((a : List ℕ) → In a xs → has_path (dirs_of b m) a ≡ true) → first_held (dirs_of b m) xs ≡ true
    up [] f = refl
    up (a ∷ xs) f = f a (Memᴰ.head refl)

-- ---- the whole

-- What passes the test is a pool,
pub is_pool_of : (b : Bufs) → is_pool b ≡ true → IsPool b
unfolding is_pool view_ok view flat pool_of queue_of
is_pool_of b e =
    let q = b.pool in
    let rs = rows_of b.nums b.names q.held in
    let e1 = both (sizes_ok q (length b.nums) (length b.names) (length b.dirs)) _ e in
    let e2 = both (rest_ok b) _ e1.1 in
    let e3 = both (fits_ok b) _ e2.1 in
    let v1 = both (all_of (row_ok q.counter rs) 0 q.held) _ e3.1 in
    let v2 = both (all_of (cell_ok rs q.queue) 0 q.free) _ v1.1 in
    let S = sized q (length b.nums) (length b.names) (length b.dirs) e1.0 in
    let F = fit_rows q b.nums b.names b.dirs e1.0 e2.0 e3.0 in
    let G = fit_dirs b S e2.0 e3.0 in
    let k : length rs ≡ q.held = length_rows b.nums b.names q.held in
    let m : length (dirs_of b.dirs q.dirs) ≡ q.dirs = length_dirs b.dirs q.dirs in
    let t : length (take q.free q.queue) ≡ q.free = length-take-le q.free q.queue (omega (arith, S.free, S.queue_long)) in
    record {
      canon = rw (k, m, t, F.nums, F.names, G.flat, fit_queue b S e2.0);
      valid =
          record {
            counts =
                record {
                  small = S.rows;
                  dirs_small = S.dir_rows_lem;
                  few = omega (arith, S.held);
                  dirs_few = omega (arith, S.dirs);
                  begun = S.begun;
                  counted = S.counted;
                };
            slots =
                record {
                  text = rows_text q.counter q.held rs k v1.0;
                  short = F.short;
                  apart = rows_apart q.counter q.held rs k v1.0;
                  young = rows_young q.counter q.held rs k v1.0 S.begun;
                };
            waiting =
                record {
                  inside = queue_inside rs q.queue q.free v2.0;
                  idle = queue_idle rs q.queue q.free v2.0;
                  once = queue_once rs q.queue q.free v2.0;
                };
            directories = record { short = dirs_short b.dirs q.dirs; dirs = directories_of b.dirs q.dirs v2.1 };
          };
    }

-- and every pool passes.
pub pool_tested : (b : Bufs) → IsPool b → is_pool b ≡ true
unfolding is_pool rest_ok fits_ok view_ok view queue_of
pool_tested b P =
    let q = b.pool in
    let R = pool_reads b P in
    and_of _ _ (sized_tested b R)
    (and_of _ _
    (and_of _ _ (zero_part b.nums _ _ (λ j p h. R.nums_rest j p))
    (and_of _ _ (zero_part b.names _ _ (λ j p h. R.names_rest j p))
    (and_of _ _ (zero_part b.dirs _ _ (λ j p h. R.dirs_rest j p)) (zero_part q.queue _ _ (λ j p h. R.queue_rest j p)))))
    (and_of _ _
    (and_of _ _ (all_intro _ 0 q.held (λ j p h. row_tested b R j (omega arith)))
    (all_intro _ 0 q.dirs (λ j p h. dir_tested q.chosen.dir_rows q.dirs b.dirs (pool_dirs b P) j (omega arith))))
    (and_of _ _ (all_intro _ 0 q.held (λ j p h. row_passes (view b) P.valid j))
    (and_of _ _ (all_intro _ 0 q.free (λ j p h. cell_passes (view b) q.queue q.free j P.valid refl (omega (arith, R.free, R.held, R.rows, R.queue_long)) (omega arith)))
    (all_intro _ 0 q.dirs (λ j p h. dir_passes b.dirs q.dirs j P.valid.directories.dirs (omega arith)))))))

-- The test says exactly what a pool is.
pub pool_exactly : PoolExactly
pool_exactly b = (is_pool_of b, pool_tested b)
