-- The walks of `dir_find`, `missing` and `register_ancestors`: along the rows, and from ancestor to ancestor up a spelling.
use Prim.Native.Nat.{ℕ, ◌+◌, ◌-◌, ◌≤◌, ◌<◌}
use mathlib.Core.Path.{◌≡◌, refl, sym, ap, ◌∙◌, subst}
use mathlib.Core.List.Memᴰ
use mathlib.Core.List.{List, [], ◌∷◌, ◌++◌, append_assoc, append-nil}
use mathlib.Core.Bool.{true, false}
use lib.ListN.{length, take, length-append}
use lib.Seq.{take-append-le}
use native.Mathlib.Omega.{arith}
use borrow.Author.Tests.{eq-eqb}
use Rattle.limits.specs.Limits.{max_path}
use Rattle.lists.specs.Distinct.{In}
use Rattle.lists.specs.Runs.{tab, take_tab, tab_more, tab_end}
use Rattle.path.specs.Path.{same_path, normal, ancestors}
use Rattle.path.specs.Walk.{up_from, Above}
use Rattle.path.proofs.Ancestors.{ancestor_short, up_falls, up_step}
use Rattle.dir_rows.specs.Dirs.{has_path, absent, joined, registered}
use Rattle.dir_rows.specs.Rows.{dir_at, dirs_of, FlatDirs}
use Rattle.dir_rows.proofs.InBuffer.{length_dirs}
use Rattle.dir_rows.proofs.Joined.{has_normal}

-- ---- along the rows

module _ (f : ℕ → List ℕ) (i n : ℕ) (p : List ℕ) where
  pub has_hit : i < n → same_path (f i) p ≡ true → has_path (tab f i (n - i)) p ≡ true
  unfolding has_path
  has_hit h e = rw (tab_more f n i h, e)

  pub has_on : i < n → same_path (f i) p ≡ false → has_path (tab f i (n - i)) p ≡ has_path (tab f (i + 1) (n - (i + 1))) p
  unfolding has_path
  has_on h e = rw (tab_more f n i h, e)

  pub has_end : n ≤ i → has_path (tab f i (n - i)) p ≡ false
  unfolding has_path
  has_end h = rw (tab_end f n i h)

pub has_start : (b : List ℕ) (m : ℕ) (p : List ℕ) → has_path (dirs_of b m) p ≡ has_path (tab (dir_at b) 0 (m - 0)) p
unfolding dirs_of
has_start b m p = let e : m - 0 ≡ m = omega arith in rw e

-- ---- from ancestor to ancestor

module _ (p : List ℕ) (e r : ℕ) (f : e ≤ length p) (z : e ≡ 0 → ⊥) (a : Above (take e p) r) where
  pub absent_more : (ds : List (List ℕ)) → has_path ds (take e p) ≡ false → absent ds (up_from p e) ≡ normal (take e p) ∷ absent ds (up_from p r)
  unfolding absent
  absent_more ds h = rw (up_step p e r f z a, has_normal ds (take e p), h)

  pub absent_same : (ds : List (List ℕ)) → has_path ds (take e p) ≡ true → absent ds (up_from p e) ≡ absent ds (up_from p r)
  unfolding absent
  absent_same ds h = rw (up_step p e r f z a, has_normal ds (take e p), h)

pub absent_none : (ds : List (List ℕ)) (p : List ℕ) (e : ℕ) → e ≡ 0 → absent ds (up_from p e) ≡ []
unfolding absent up_from
absent_none ds p e h = rw (eq-eqb e 0 h)

-- ---- one row more leaves those before it

dirs_before : (b : List ℕ) (m n : ℕ) → m ≤ n → take m (dirs_of b n) ≡ dirs_of b m
unfolding dirs_of
dirs_before b m n h = take_tab (dir_at b) 0 m n h

pushed_before : (b e x : List ℕ) (m n : ℕ) → m ≤ n → dirs_of e (n + 1) ≡ dirs_of b n ++ (x ∷ []) → dirs_of e m ≡ dirs_of b m
pushed_before b e x m n h q =
    sym (dirs_before e m (n + 1) (omega arith)) ∙ ap (take m) q ∙ take-append-le m (dirs_of b n) (x ∷ []) (omega (arith, length_dirs b n)) ∙ dirs_before b m n h

-- ---- registering: n rows so far, and the ancestors from the front that ends at e on are still to come

pub record Going (cap m : ℕ) (b₀ p b : List ℕ) (n e : ℕ) : Type 0 where
  pub inside : e ≤ length p
  pub onward : m ≤ n
  pub flat : FlatDirs cap n b
  pub held : dirs_of b m ≡ dirs_of b₀ m
  pub ahead : (x : List ℕ) → In x (up_from p e) → In x (ancestors p)
  pub whole : dirs_of b n ++ absent (dirs_of b₀ m) (up_from p e) ≡ registered (dirs_of b₀ m) p

pub going_start : (cap m : ℕ) (b p : List ℕ) (e : ℕ) → FlatDirs cap m b → Above p e → Going cap m b p b m e
unfolding joined
going_start cap m b p e F a =
    record { inside = a.inside; onward = omega arith; flat = F; held = refl; ahead = λ x m. subst (λ (l : List (List ℕ)). In x l) (sym a.gives) m; whole = rw a.gives }

pub going_done : (cap m : ℕ) (b₀ p b : List ℕ) (n e : ℕ) → Going cap m b₀ p b n e → e ≡ 0 → (dirs_of b n ≡ registered (dirs_of b₀ m) p) × FlatDirs cap n b
going_done cap m b₀ p b n e g z =
    (sym (append-nil (dirs_of b n)) ∙ ap (λ (l : List (List ℕ)). dirs_of b n ++ l) (sym (absent_none (dirs_of b₀ m) p e z)) ∙ g.whole, g.flat)

module _ (cap m : ℕ) (b₀ p b : List ℕ) (n e r : ℕ) (g : Going cap m b₀ p b n e) (z : e ≡ 0 → ⊥) (a : Above (take e p) r) where
  next_in : {x : List ℕ} → In x (normal (take e p) ∷ up_from p r) → In x (up_from p e)
  next_in {x} m = subst (λ (l : List (List ℕ)). In x l) (sym (up_step p e r g.inside z a)) m

  pub going_same : has_path (dirs_of b m) (take e p) ≡ true → Going cap m b₀ p b n r
  going_same h =
      let q = absent_same p e r g.inside z a (dirs_of b₀ m) (rw g.held at h) in
      record {
        inside = omega (arith, g.inside, up_falls p e r g.inside z a);
        onward = g.onward;
        flat = g.flat;
        held = g.held;
        ahead = λ x m. g.ahead x (next_in (Memᴰ.tail m));
        whole = rw q at g.whole;
      }

  -- each ancestor fits a row
  pub going_short : length (normal p) ≤ max_path → length (normal (take e p)) ≤ max_path
  going_short h = omega (arith, ancestor_short p (normal (take e p)) (g.ahead (normal (take e p)) (next_in (Memᴰ.head refl))))

  module _ (h : has_path (dirs_of b m) (take e p) ≡ false) where
    more : absent (dirs_of b₀ m) (up_from p e) ≡ normal (take e p) ∷ absent (dirs_of b₀ m) (up_from p r)
    more = absent_more p e r g.inside z a (dirs_of b₀ m) (rw g.held at h)

    pub going_room : length (registered (dirs_of b₀ m) p) ≤ cap → n < cap
    going_room l =
        omega (arith, ap length g.whole, length-append (dirs_of b n) (absent (dirs_of b₀ m) (up_from p e)), ap length more, length_dirs b n)

    pub going_more : (b₁ : List ℕ) → (dirs_of b₁ (n + 1) ≡ dirs_of b n ++ (normal (take e p) ∷ [])) × FlatDirs cap (n + 1) b₁ → Going cap m b₀ p b₁ (n + 1) r
    going_more b₁ w = record {
      inside = omega (arith, g.inside, up_falls p e r g.inside z a);
      onward = omega (arith, g.onward);
      flat = w.1;
      held = pushed_before b b₁ (normal (take e p)) m n g.onward w.0 ∙ g.held;
      ahead = λ x m. g.ahead x (next_in (Memᴰ.tail m));
      whole = rw (w.0, append_assoc) (rw more at g.whole);
    }
