-- Directories: `register` joins two lists, and a mount's directories are the ancestors of its claims, a fold over the headers alone
-- (`dirs_of`).
use Prim.Native.Nat.{ℕ, zero, suc, ◌+◌, ◌≤◌, ◌<◌}
use native.Mathlib.Omega.{arith}
use native.Mathlib.Decide.{dec_lt}
use native.Mathlib.Nat.{add-suc, add-zero, add_assoc}
use mathlib.Core.Path.{◌≡◌, refl, sym, ◌∙◌}
use mathlib.Core.Logic.{◌⊎◌, inl, inr}
use mathlib.Core.Bool.{Bool, true, false, cond, false≢true, ◌||◌}
use mathlib.Core.List.Memᴰ
use mathlib.Core.List.{List, [], ◌∷◌, ◌++◌}
use lib.ListN.{length}
use Rattle.lists.specs.Distinct.{In, snoc_in, Distinct, none, distinct_snoc}
use Rattle.promises_model.specs.Model.{Claim, Head, absent, idle, claim, Row, unbound, bound, Kit}
use Rattle.promises_model.specs.Model as M
use Rattle.promises_model.specs.Best.{Registered}
use Rattle.promises_model.proofs.Rows.{length_snoc}
use Rattle.promises_model.proofs.Moves.{last, step_moves}

module _ (K : Kit) where
  open K use {Path, Dir, eq_dir, eq_dir_true, eq_dir_refl, ancestors, Device, head}

  -- the test says whether a directory is there
  has_in : (d : Dir) (ds : List Dir) → M.has K d ds ≡ true → In d ds
  unfolding M.has
  has_in d [] h = absurd (false≢true h)
  has_in d (e ∷ es) h = go (eq_dir d e) refl h (λ t. has_in d es t)
    where
      go : (b : Bool) → eq_dir d e ≡ b → (b || M.has K d es) ≡ true → (M.has K d es ≡ true → In d es) → In d (e ∷ es)
      go true q h ih = Memᴰ.head (eq_dir_true d e q)
      go false q h ih = Memᴰ.tail (ih h)

  in_has : (d : Dir) (ds : List Dir) → In d ds → M.has K d ds ≡ true
  unfolding M.has
  in_has d [] m = absurd (Memᴰ.not-nil m)
  in_has d (e ∷ es) m = go (Memᴰ.cases_cons m) (eq_dir d e) refl (λ t. in_has d es t)
    where
      go : (d ≡ e) ⊎ In d es → (b : Bool) → eq_dir d e ≡ b → (In d es → M.has K d es ≡ true) → (b || M.has K d es) ≡ true
      go t true q ih = refl
      go (inl p) false q ih = absurd (false≢true (sym q ∙ rw p (eq_dir_refl e)))
      go (inr t) false q ih = ih t

  -- `register` keeps what is there, has each that is to be added, and nothing else; once each; and is no shorter
  module _ (ds : List Dir) (e : Dir) where
    -- the directories after one
    abbrev after : Bool → List Dir
    after b = cond b ds (ds ++ (e ∷ []))

    after_old : (d : Dir) (b : Bool) → In d ds → In d (after b)
    after_old d true m = m
    after_old d false m = Memᴰ.append_left (e ∷ []) m

    after_new : (b : Bool) → M.has K e ds ≡ b → In e (after b)
    after_new true q = has_in e ds q
    after_new false q = last ds e

    after_in : (d : Dir) (b : Bool) → In d (after b) → In d ds ⊎ (d ≡ e)
    after_in d true m = inl m
    after_in d false m = snoc_in ds e d m

    after_once : (b : Bool) → M.has K e ds ≡ b → Distinct ds → Distinct (after b)
    after_once true q h = h
    after_once false q h = distinct_snoc e h (λ m. false≢true (sym q ∙ in_has e ds m))

    after_le : (b : Bool) → length ds ≤ length (after b)
    after_le true = omega arith
    after_le false = omega (arith, length_snoc ds e)

  pub register_old : (d : Dir) (ds es : List Dir) → In d ds → In d (M.register K ds es)
  unfolding M.register
  register_old d ds [] m = m
  register_old d ds (e ∷ es) m = register_old d (after ds e (M.has K e ds)) es (after_old ds e d (M.has K e ds) m)

  pub register_new : (d : Dir) (ds es : List Dir) → In d es → In d (M.register K ds es)
  unfolding M.register
  register_new d ds [] m = absurd (Memᴰ.not-nil m)
  register_new d ds (e ∷ es) m = go (Memᴰ.cases_cons m) (λ t. register_new d (after ds e (M.has K e ds)) es t)
    where
      go : (d ≡ e) ⊎ In d es → (In d es → In d (M.register K (after ds e (M.has K e ds)) es)) → In d (M.register K (after ds e (M.has K e ds)) es)
      go (inl p) ih = register_old d (after ds e (M.has K e ds)) es (Memᴰ.cast p (after_new ds e (M.has K e ds) refl))
      go (inr t) ih = ih t

  pub register_in : (d : Dir) (ds es : List Dir) → In d (M.register K ds es) → In d ds ⊎ In d es
  unfolding M.register
  register_in d ds [] m = inl m
  register_in d ds (e ∷ es) m = go (register_in d (after ds e (M.has K e ds)) es m)
    where
      one : In d ds ⊎ (d ≡ e) → In d ds ⊎ In d (e ∷ es)
      one (inl t) = inl t
      one (inr p) = inr (Memᴰ.head p)

      go : In d (after ds e (M.has K e ds)) ⊎ In d es → In d ds ⊎ In d (e ∷ es)
      go (inl t) = one (after_in ds e d (M.has K e ds) t)
      go (inr t) = inr (Memᴰ.tail t)

  pub register_once : (ds es : List Dir) → Distinct ds → Distinct (M.register K ds es)
  unfolding M.register
  register_once ds [] h = h
  register_once ds (e ∷ es) h = register_once (after ds e (M.has K e ds)) es (after_once ds e (M.has K e ds) refl h)

  pub register_le : (ds es : List Dir) → length ds ≤ length (M.register K ds es)
  unfolding M.register
  register_le ds [] = omega arith
  register_le ds (e ∷ es) = let b = M.has K e ds in omega (arith, after_le ds e b, register_le (after ds e b) es)

  -- the directories that a header asks for
  wanted : Head Path → List Dir
  wanted absent = []
  wanted (idle g) = []
  wanted (claim c) = ancestors c.path

  wanted_claim : (d : Dir) (h : Head Path) → In d (wanted h) → (e : Claim Path) × (h ≡ claim e) × In d (ancestors e.path)
  unfolding wanted
  wanted_claim d absent m = absurd (Memᴰ.not-nil m)
  wanted_claim d (idle g) m = absurd (Memᴰ.not-nil m)
  wanted_claim d (claim c) m = (c, refl, m)

  step_dirs : (s : M.State K) (h : Head Path) → (M.step K s h).dirs ≡ M.register K s.dirs (wanted h)
  unfolding M.step M.register wanted
  step_dirs s absent = refl
  step_dirs s (idle g) = refl
  step_dirs s (claim c) = meet (M.row_at K s.rows j)
    where
      j : ℕ
      j = M.find K c.path s.rows

      rival : (b : Bool) → (M.rival K s c j b).dirs ≡ M.register K s.dirs (ancestors c.path)
      rival true = refl
      rival false = refl

      meet : (r : Row Path) → (M.meet K s c j r).dirs ≡ M.register K s.dirs (ancestors c.path)
      meet (unbound g) = refl
      meet (bound d) = rival (M.stands K d c)

  -- directories of n headers from slot a, after those of ds
  pub dirs_of : (ℕ → Head Path) → ℕ → ℕ → List Dir → List Dir
  dirs_of H a zero ds = ds
  dirs_of H a (suc n) ds = M.register K (dirs_of H a n ds) (wanted (H (a + n)))

  pub dirs_of_heads : (H J : ℕ → Head Path) (a n : ℕ) (ds : List Dir) → ((i : ℕ) → a ≤ i → i < a + n → H i ≡ J i) → dirs_of H a n ds ≡ dirs_of J a n ds
  unfolding dirs_of
  dirs_of_heads H J a zero ds e = refl
  dirs_of_heads H J a (suc n) ds e = rw (dirs_of_heads H J a n ds (λ i k l. e i k (omega arith)), e (a + n) (omega arith) (omega arith))

  pub dirs_of_split : (H : ℕ → Head Path) (a n m : ℕ) (ds : List Dir) → dirs_of H a (n + m) ds ≡ dirs_of H (a + n) m (dirs_of H a n ds)
  unfolding dirs_of
  dirs_of_split H a n zero ds = rw add-zero
  dirs_of_split H a n (suc m) ds = rw add-suc (rw (dirs_of_split H a n m ds, ← add_assoc))

  pub dirs_of_le : (H : ℕ → Head Path) (a n : ℕ) (ds : List Dir) → length ds ≤ length (dirs_of H a n ds)
  unfolding dirs_of
  dirs_of_le H a zero ds = omega arith
  dirs_of_le H a (suc n) ds = omega (arith, dirs_of_le H a n ds, register_le (dirs_of H a n ds) (wanted (H (a + n))))

  pub dirs_of_once : (H : ℕ → Head Path) (a n : ℕ) (ds : List Dir) → Distinct ds → Distinct (dirs_of H a n ds)
  unfolding dirs_of
  dirs_of_once H a zero ds h = h
  dirs_of_once H a (suc n) ds h = register_once (dirs_of H a n ds) (wanted (H (a + n))) (dirs_of_once H a n ds h)

  dirs_of_old : (H : ℕ → Head Path) (a n : ℕ) (ds : List Dir) (d : Dir) → In d ds → In d (dirs_of H a n ds)
  unfolding dirs_of
  dirs_of_old H a zero ds d m = m
  dirs_of_old H a (suc n) ds d m = register_old d (dirs_of H a n ds) (wanted (H (a + n))) (dirs_of_old H a n ds d m)

  dirs_of_each : (H : ℕ → Head Path) (a n : ℕ) (ds : List Dir) (d : Dir) (m : ℕ) → a ≤ m → m < a + n → In d (wanted (H m)) → In d (dirs_of H a n ds)
  unfolding dirs_of
  dirs_of_each H a zero ds d m l u k = absurd (omega arith)
  dirs_of_each H a (suc n) ds d m l u k = go (dec_lt m (a + n)) (λ v. dirs_of_each H a n ds d m l v k)
    where
      go : Dec (m < a + n) → (m < a + n → In d (dirs_of H a n ds)) → In d (M.register K (dirs_of H a n ds) (wanted (H (a + n))))
      go (yes v) ih = register_old d (dirs_of H a n ds) (wanted (H (a + n))) (ih v)
      go (no v) ih = let r : m ≡ a + n = omega arith in register_new d (dirs_of H a n ds) (wanted (H (a + n))) (rw r at k)

  dirs_of_only : (H : ℕ → Head Path) (a n : ℕ) (ds : List Dir) (d : Dir) → In d (dirs_of H a n ds) → In d ds ⊎ ((m : ℕ) × (a ≤ m) × (m < a + n) × In d (wanted (H m)))
  unfolding dirs_of
  dirs_of_only H a zero ds d h = inl h
  dirs_of_only H a (suc n) ds d h = go (register_in d (dirs_of H a n ds) (wanted (H (a + n))) h) (λ k. dirs_of_only H a n ds d k)
    where
      up : In d ds ⊎ ((m : ℕ) × (a ≤ m) × (m < a + n) × In d (wanted (H m))) → In d ds ⊎ ((m : ℕ) × (a ≤ m) × (m < a + suc n) × In d (wanted (H m)))
      up (inl k) = inl k
      up (inr k) = inr (k.0, k.1, omega (arith, k.2), k.3)

      go : In d (dirs_of H a n ds) ⊎ In d (wanted (H (a + n))) → (In d (dirs_of H a n ds) → In d ds ⊎ ((m : ℕ) × (a ≤ m) × (m < a + n) × In d (wanted (H m))))
          → In d ds ⊎ ((m : ℕ) × (a ≤ m) × (m < a + suc n) × In d (wanted (H m)))
      go (inl k) ih = up (ih k)
      go (inr k) ih = inr (a + n, omega arith, omega arith, k)

  -- so a fold from no directory has exactly the claims' ancestors
  pub dirs_of_registered : (H : ℕ → Head Path) (n : ℕ) → Registered K H n (dirs_of H 0 n [])
  unfolding wanted
  dirs_of_registered H n =
      record {
        each = λ d j e l h k. dirs_of_each H 0 n [] d j (omega arith) (omega arith) (rw h k);
        only = λ d m. only d (dirs_of_only H 0 n [] d m);
        once = dirs_of_once H 0 n [] none;
      }
    where
      only : (d : Dir) → In d [] ⊎ ((m : ℕ) × (0 ≤ m) × (m < 0 + n) × In d (wanted (H m))) → (j : ℕ) × (e : Claim Path) × (j < n) × (H j ≡ claim e) × In d (ancestors e.path)
      only d (inl k) = absurd (Memᴰ.not-nil k)
      only d (inr k) = let c = wanted_claim d (H k.0) k.3 in (k.0, c.0, omega (arith, k.2), c.1, c.2)

  -- the directories of a survey, of adopt and of mount
  pub scan_length : (H : ℕ → Head Path) (n : ℕ) (s : M.State K) → length (M.scan K H n s).rows ≡ length s.rows + n
  unfolding M.scan
  scan_length H zero s = omega arith
  scan_length H (suc n) s = let u = M.scan K H n s in omega (arith, (step_moves K u (H (length u.rows))).size, scan_length H n s)

  scan_dirs : (H : ℕ → Head Path) (n : ℕ) (s : M.State K) → (M.scan K H n s).dirs ≡ dirs_of H (length s.rows) n s.dirs
  unfolding M.scan dirs_of
  scan_dirs H zero s = refl
  scan_dirs H (suc n) s = let u = M.scan K H n s in step_dirs u (H (length u.rows)) ∙ rw (scan_dirs H n s, scan_length H n s)

  drain_dirs : (ls : List ℕ) (s : M.State K) → (M.drain K ls s).dirs ≡ s.dirs
  unfolding M.drain M.release
  drain_dirs [] s = refl
  drain_dirs (i ∷ is) s = drain_dirs is (M.release K s i)

  pub survey_dirs : (n : ℕ) (s : M.State K) → (M.survey K n s).dirs ≡ dirs_of (head s.device) (length s.rows) n s.dirs
  unfolding M.survey
  survey_dirs n s = scan_dirs (head s.device) n (M.read_all K n s)

  pub adopt_dirs : (n : ℕ) (s : M.State K) → (M.adopt K n s).dirs ≡ (M.survey K n s).dirs
  unfolding M.adopt
  adopt_dirs n s = drain_dirs (M.survey K n s).losers (M.survey K n s)

  -- what adopt leaves of the directories, and adds to them
  module _ (n : ℕ) (s : M.State K) (d : Dir) where
    abbrev k : ℕ
    k = length s.rows

    pub adopt_dirs_old : In d s.dirs → In d (M.adopt K n s).dirs
    adopt_dirs_old m = rw (adopt_dirs n s, survey_dirs n s) (dirs_of_old (head s.device) k n s.dirs d m)

    pub adopt_dirs_each : (j : ℕ) (e : Claim Path) → k ≤ j → j < k + n → head s.device j ≡ claim e → In d (ancestors e.path) → In d (M.adopt K n s).dirs
    unfolding wanted
    adopt_dirs_each j e l u h m = rw (adopt_dirs n s, survey_dirs n s) (dirs_of_each (head s.device) k n s.dirs d j l u (rw h m))

    pub adopt_dirs_only : In d (M.adopt K n s).dirs
        → In d s.dirs ⊎ ((j : ℕ) × (e : Claim Path) × (k ≤ j) × (j < k + n) × (head s.device j ≡ claim e) × In d (ancestors e.path))
    adopt_dirs_only m = go (dirs_of_only (head s.device) k n s.dirs d (rw (adopt_dirs n s, survey_dirs n s) at m))
      where
        go : In d s.dirs ⊎ ((j : ℕ) × (k ≤ j) × (j < k + n) × In d (wanted (head s.device j)))
            → In d s.dirs ⊎ ((j : ℕ) × (e : Claim Path) × (k ≤ j) × (j < k + n) × (head s.device j ≡ claim e) × In d (ancestors e.path))
        go (inl h) = inl h
        go (inr h) = let c = wanted_claim d (head s.device h.0) h.3 in inr (h.0, c.0, h.1, h.2, c.1, c.2)

  pub mount_dirs : (n : ℕ) (w : Device) → (M.mount K n w).dirs ≡ dirs_of (head w) 0 n []
  unfolding M.mount
  mount_dirs n w = adopt_dirs n (M.empty K w) ∙ survey_dirs n (M.empty K w)
