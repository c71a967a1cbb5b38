-- The survey and the releases of a real pool are the model's, its dirty bits forgotten: one slot (`step_is`), all of them (`scan_is`),
-- the releases (`drain_is`).
use Prim.Native.Nat.{ℕ, zero, suc, ◌+◌}
use native.Mathlib.Numerals.{add-one}
use mathlib.Core.Path.{◌≡◌, refl, sym, ap, ap₂, ◌∙◌}
use mathlib.Core.Logic.{⊎_elim}
use mathlib.Core.Bool.{Bool, true, false, cond, ◌||◌}
use mathlib.Core.List.Memᴰ
use mathlib.Core.List.{List, [], ◌∷◌, ◌++◌, map, map-append, append_assoc}
use lib.ListN.{length, set, length-map, get_or-map}
use lib.Dec.{leb}
use Rattle.lists.specs.Runs.{tab}
use Rattle.lists.specs.Same.{same_bytes}
use Rattle.lists.specs.Distinct.{snoc_in}
use Rattle.path.specs.Path.{same_path, normal, ancestors}
use Rattle.path.proofs.Theorems.{same_path_sym, normal_bytes}
use Rattle.path.proofs.Ancestors.{ancestor_normal}
use Rattle.device.specs.declared.Geometry.{Geometry}
use Rattle.device.specs.Device.{Dev}
use Rattle.slot_rows.specs.Rows.{Row, unbound, bound, none, at, holds, find}
use Rattle.dir_rows.specs.Dirs.{Normals, Dirs, has_path, registered, joined_each}
use Rattle.dir_rows.proofs.Registering.{ancestors_dirs, registered_dirs, one_by_one}
use Rattle.pool_state.specs.State.{State}
use Rattle.pool_state.specs.Queue.{spent, queued}
use Rattle.pool_state.specs.Changes.{with_row}
use Rattle.pool_steps.specs.World.{World}
use Rattle.pool_steps.specs.Steps.{fine_m, free_m, unbinds, released, release_m}
use Rattle.mount_survey.specs.Heads.{Head, absent, idle, claim}
use Rattle.mount_survey.specs.Survey.{Survey}
use Rattle.mount_survey.specs.Survey as S
use Rattle.mount.specs.Mount.{drain}
use Rattle.promises_model.specs.Model.{Kit}
use Rattle.promises_model.specs.Model as M
use Rattle.promises_model.proofs.Moves.{step_moves}
use Rattle.promises_mount.proofs.Kit.{planned, claim_of, said, real_kit}

-- ---- lists

map_set : {A B : Type 0} (f : A → B) (l : List A) (i : ℕ) (x : A) → map f (set l i x) ≡ set (map f l) i (f x)
map_set f [] i x = refl
map_set f (y ∷ l) zero x = refl
map_set {B = B} f (y ∷ l) (suc i) x = ap (λ (t : List B). f y ∷ t) (map_set f l i x)

-- ---- rows

-- a row without its dirty bit
abbrev pub plain : Row → M.Row (List ℕ)
plain (unbound e) = M.unbound e
plain (bound p f) = M.bound (claim_of p f.gen f.len)

same_flip : (p q : List ℕ) → same_path p q ≡ same_path q p
same_flip p q = go (same_path p q) (same_path q p) refl refl
  where
    go : (t u : Bool) → same_path p q ≡ t → same_path q p ≡ u → t ≡ u
    go true true e f = refl
    go false false e f = refl
    go true false e f = sym (same_path_sym p q e) ∙ f
    go false true e f = sym e ∙ same_path_sym q p f

or_is : (t u : Bool) → cond t true u ≡ (t || u)
or_is true u = refl
or_is false u = refl

module _ (g : Geometry) where
  abbrev K : Kit
  K = real_kit g

  pub rows_at : (rs : List Row) (i : ℕ) → M.row_at K (map plain rs) i ≡ plain (at rs i)
  rows_at rs i = get_or-map plain rs i none

  pub find_is : (p : List ℕ) (rs : List Row) → find p rs ≡ M.find K p (map plain rs)
  unfolding find M.find holds
  find_is p [] = refl
  find_is p (unbound e ∷ rs) = ap suc (find_is p rs)
  find_is p (bound q f ∷ rs) = rw (same_flip q p, find_is p rs)

  -- ---- directories, which are normal

  has_is : (ds : List (List ℕ)) (x : List ℕ) → Normals ds → normal x ≡ x → has_path ds x ≡ M.has K x ds
  unfolding has_path M.has
  has_is [] x n e = refl
  has_is (d ∷ ds) x n e =
      ap₂ (λ (t u : Bool). cond t true u) (same_flip d x ∙ normal_bytes x d e (n d (Memᴰ.head refl)))
      (has_is ds x (λ y m. n y (Memᴰ.tail m)) e)
      ∙ or_is (same_bytes x d) (M.has K x ds)

  one_more : (ds : List (List ℕ)) (x : List ℕ) → Normals ds → normal x ≡ x → (t : Bool) → Normals (cond t ds (ds ++ (x ∷ [])))
  one_more ds x n e true = n
  one_more ds x n e false = λ y m. ⊎_elim (n y) (λ q. ap normal q ∙ e ∙ sym q) (snoc_in ds x y m)

  register_is : (ds xs : List (List ℕ)) → Normals ds → Normals xs → joined_each ds xs ≡ M.register K ds xs
  unfolding joined_each M.register
  register_is ds [] n k = refl
  register_is ds (x ∷ xs) n k =
      let e : normal x ≡ x = k x (Memᴰ.head refl) in
      ap (λ (t : Bool). joined_each (cond t ds (ds ++ (x ∷ []))) xs) (has_is ds x n e)
      ∙ register_is (cond (M.has K x ds) ds (ds ++ (x ∷ []))) xs (one_more ds x n e (M.has K x ds)) (λ y m. k y (Memᴰ.tail m))

  registered_is : (ds : List (List ℕ)) (p : List ℕ) → Dirs ds → registered ds p ≡ M.register K ds (ancestors p)
  registered_is ds p D =
      sym (one_by_one ds (ancestors p) (ancestors_dirs p)) ∙ register_is ds (ancestors p) D.normals (ancestor_normal p)

  -- ---- a survey

  -- the model's state in the midst of a survey, over the queue q that the pool had
  abbrev pub shown : List ℕ → Dev → List ℕ → Survey → M.State K
  shown plan d q v =
      record {
        rows = map plain v.rows;
        queue = q ++ v.free;
        losers = v.losers;
        dirs = v.dirs;
        counter = v.counter;
        device = planned plan d;
      }

  module _ (plan : List ℕ) (d : Dev) (q : List ℕ) where
    abbrev sh : Survey → M.State K
    sh = shown plan d q

    spare_is : (v : Survey) (h : M.Head (List ℕ)) → sh (S.spare (M.wants K h) v) ≡ M.spare K (sh v) h
    spare_is v h = rw (map-append plain v.rows (none ∷ []), length-map v.rows plain, append_assoc)

    module _ (v : Survey) (D : Dirs v.dirs) (p : List ℕ) (e l : ℕ) where
      enter_is : (rs : List Row) (ls : List ℕ) (r : Row)
          → sh (S.enter p e rs ls r v) ≡ M.enter K (sh v) (claim_of p e l) (map plain rs) ls (plain r)
      enter_is rs ls r = rw (map-append plain rs (r ∷ []), registered_is v.dirs p D)

      rival_is : (j : ℕ) (t : Bool) → sh (S.rival p e l j t v) ≡ M.rival K (sh v) (claim_of p e l) j t
      rival_is j true = rw (length-map v.rows plain) (enter_is v.rows (length v.rows ∷ []) none)
      rival_is j false =
          enter_is (set v.rows j none) (j ∷ []) (S.claim_row p e l)
          ∙ ap (λ (rs : List (M.Row (List ℕ))). M.enter K (sh v) (claim_of p e l) rs (j ∷ []) (M.bound (claim_of p e l)))
          (map_set plain v.rows j none)

      meet_is : (j : ℕ) (r : Row) → sh (S.meet p e l j r v) ≡ M.meet K (sh v) (claim_of p e l) j (plain r)
      meet_is j (unbound f) = enter_is v.rows [] (S.claim_row p e l)
      meet_is j (bound r f) = rival_is j (leb e f.gen)

    pub step_is : (h : Head) (v : Survey) → Dirs v.dirs → sh (S.step h v) ≡ M.step K (sh v) (said h)
    unfolding S.step M.step
    step_is absent v D = spare_is v M.absent
    step_is (idle e) v D = spare_is v (M.idle e)
    step_is (claim p e l) v D =
        let j = find p v.rows in
        meet_is v D p e l j (at v.rows j)
        ∙ ap (M.meet K (sh v) (claim_of p e l) j) (sym (rows_at v.rows j))
        ∙ ap (λ (k : ℕ). M.meet K (sh v) (claim_of p e l) k (M.row_at K (map plain v.rows) k)) (find_is p v.rows)

    step_length : (h : Head) (v : Survey) → Dirs v.dirs → length (S.step h v).rows ≡ suc (length v.rows)
    step_length h v D =
        sym (length-map (S.step h v).rows plain)
        ∙ ap (λ (s : M.State K). length s.rows) (step_is h v D)
        ∙ (step_moves K (sh v) (said h)).size
        ∙ ap suc (length-map v.rows plain)

    step_dirs : (h : Head) (v : Survey) → Dirs v.dirs → Dirs (S.step h v).dirs
    unfolding S.step
    step_dirs absent v D = D
    step_dirs (idle e) v D = D
    step_dirs (claim p e l) v D = go (find p v.rows) (at v.rows (find p v.rows))
      where
        rival : (j : ℕ) (t : Bool) → Dirs (S.rival p e l j t v).dirs
        rival j true = registered_dirs v.dirs p D
        rival j false = registered_dirs v.dirs p D

        go : (j : ℕ) (r : Row) → Dirs (S.meet p e l j r v).dirs
        go j (unbound f) = registered_dirs v.dirs p D
        go j (bound r f) = rival j (leb e f.gen)

    scan_front : (H : ℕ → M.Head (List ℕ)) (k : ℕ) (s : M.State K) → M.scan K H (suc k) s ≡ M.scan K H k (M.step K s (H (length s.rows)))
    unfolding M.scan
    scan_front H zero s = refl
    scan_front H (suc k) s = ap (λ (x : M.State K). M.step K x (H (length x.rows))) (scan_front H k s)

    pub scan_is : (f : ℕ → Head) (k : ℕ) (v : Survey) → Dirs v.dirs
        → sh (S.scan (tab f (length v.rows) k) v) ≡ M.scan K (λ i. said (f i)) k (sh v)
    unfolding S.scan tab M.scan
    scan_is f zero v D = refl
    scan_is f (suc k) v D =
        let n = length v.rows in
        let u = S.step (f n) v in
        let H : ℕ → M.Head (List ℕ) = λ i. said (f i) in
        ap (λ (j : ℕ). sh (S.scan (tab f j k) u)) (sym (step_length (f n) v D))
        ∙ scan_is f k u (step_dirs (f n) v D)
        ∙ ap (M.scan K H k) (step_is (f n) v D ∙ ap (λ (j : ℕ). M.step K (sh v) (H j)) (sym (length-map v.rows plain)))
        ∙ sym (scan_front H k (sh v))

    pub scan_dirs : (hs : List Head) (v : Survey) → Dirs v.dirs → Dirs (S.scan hs v).dirs
    unfolding S.scan
    scan_dirs [] v D = D
    scan_dirs (h ∷ hs) v D = scan_dirs hs (S.step h v) (step_dirs h v D)

  -- ---- releases

  -- the model's state of a pool and its device
  abbrev pub pooled : List ℕ → List ℕ → Dev → State → M.State K
  pooled plan ls d s =
      record {
        rows = map plain s.rows;
        queue = s.queue;
        losers = ls;
        dirs = s.dirs;
        counter = s.counter;
        device = planned plan d;
      }

  abbrev pub shown_w : List ℕ → List ℕ → World → M.State K
  shown_w plan ls w = pooled plan ls w.dev w.state

  module _ (plan ls : List ℕ) where
    module _ (i : ℕ) (w : World) where
      abbrev s : State
      s = w.state

      abbrev d : Dev
      d = free_m plan g i s.counter w.dev

      -- the model's pool after it: whether the slot joins the queue
      abbrev modelled : Bool → M.State K
      modelled t =
          record {
            rows = set (map plain s.rows) i (M.unbound s.counter);
            queue = M.joins K t s.queue i;
            losers = ls;
            dirs = s.dirs;
            counter = suc s.counter;
            device = planned plan d;
          }

      pub release_shown : shown_w plan ls (release_m plan g i w) ≡ M.release K (shown_w plan ls w) i
      unfolding M.release release_m released unbinds with_row spent queued
      release_shown = go (fine_m d)
        where
          go : (t : Bool) → pooled plan ls d (released i t s) ≡ modelled t
          go true = rw (map_set plain s.rows i (unbound s.counter), add-one)
          go false = rw (map_set plain s.rows i (unbound s.counter), add-one)

    pub drain_is : (is : List ℕ) (w : World) → shown_w plan ls (drain plan g is w) ≡ M.drain K is (shown_w plan ls w)
    unfolding drain M.drain
    drain_is [] w = refl
    drain_is (i ∷ is) w = drain_is is (release_m plan g i w) ∙ ap (M.drain K is) (release_shown i w)
