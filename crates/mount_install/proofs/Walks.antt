-- The loops over the staged rows: each keeps "the whole answer is the answer on what is left".
use Prim.Native.Nat.{ℕ, zero, suc, ◌+◌, ◌-◌, ◌*◌, ◌≤◌, ◌<◌}
use native.Mathlib.Numerals.{add-one}
use native.Mathlib.Omega.{arith}
use mathlib.Core.Path.{◌≡◌, refl, sym, ap, ◌∙◌, subst}
use mathlib.Core.Bool.{Bool, true, false, cond}
use mathlib.Core.List.Memᴰ
use mathlib.Core.List.{List, [], ◌∷◌}
use lib.ListN.{length, take, drop, get_or, set, replicate, drop_of_length-le}
use lib.Seq.{sets, drop-cons, take-append-le, take_all}
use borrow.Author.Tests.{lt-ltb, le-ltb}
use Rattle.limits.specs.Limits.{max_path, dir_width, last_counter}
use Rattle.lists.specs.Blocks.{pad, cat}
use Rattle.lists.specs.Distinct.{In}
use Rattle.path.specs.Path.{normal, ancestors}
use Rattle.path.proofs.Theorems.{normal_short}
use Rattle.slot_rows.specs.Rows.{Row, none, at, is_bound, path_of, rows_of, flat_nums, flat_names, Flat}
use Rattle.slot_rows.specs.Rows as Rows
use Rattle.slot_rows.proofs.InBuffers.{length_rows}
use Rattle.dir_rows.specs.Dirs.{absent, joined, registered}
use Rattle.dir_rows.specs.Rows.{dir_row, dirs_of, flat_dirs, FlatDirs, Short}
use Rattle.dir_rows.proofs.InBuffer.{row_wide, length_dirs, dirs_short, dirs_of_lem}
use Rattle.dir_rows.proofs.Joined.{joined_short}
use Rattle.dir_rows.proofs.Registering.{length_registered, ancestors_short}
use Rattle.pool_state.specs.declared.Pool.{Pool}
use Rattle.pool_state.specs.Queue.{pushed}
use Rattle.std.specs.Prelude.{Option, None, Some}
use Rattle.mount_survey.specs.Staged.{claimed, spares, vacated}
use Rattle.mount_survey.proofs.FirstRowsStay.{flat_cut}
use Rattle.mount_install.specs.Install.{answered, kept, refusal, Three, three, Taken, unstaged, pushed_all}
use Rattle.mount_install.proofs.StagedRows.{claimed_more, claimed_front, claimed_short, answered_yes, answered_no, kept_yes, kept_no, said_yes, said_no}

-- ---- rows put back

pub dirs_cut : (cap d e : ℕ) (b b₁ : List ℕ) → FlatDirs cap e b → d ≤ e → b₁ ≡ sets b (d * dir_width) (replicate ((e - d) * dir_width) 0) → b₁ ≡ flat_dirs cap (take d (dirs_of b e))
unfolding flat_dirs
dirs_cut cap d e b b₁ F h q =
    let n : length (dirs_of b e) ≡ e = length_dirs b e in
    q ∙ ap (λ (x : List ℕ). sets x (d * dir_width) (replicate ((e - d) * dir_width) 0)) (sym F.flat)
    ∙ ap (λ (k : ℕ). sets (pad (cap * dir_width) (cat dir_row (dirs_of b e))) (d * dir_width) (replicate ((k - d) * dir_width) 0)) (sym n)
    ∙ flat_cut dir_row dir_width row_wide cap d (dirs_of b e) (omega arith) (omega (arith, F.few))

-- ---- one row's ancestors

module _ (cap d : ℕ) (b p : List ℕ) (F : FlatDirs cap d b) where
  abbrev ds : List (List ℕ)
  ds = registered (dirs_of b d) p

  -- q is the path as it lies in its row.
  module _ (q : List ℕ) (u : q ≡ p) where
    pub row_full : (k : ℕ) → k ≡ length (absent (dirs_of b d) (ancestors q)) → cap - d < k → (None ≡ answered cap ds) × (b ≡ kept cap ds b)
    row_full k e h =
        let f : k ≡ length (absent (dirs_of b d) (ancestors p)) = rw (← u) e in
        let n : cap < length ds = omega (arith, length_registered (dirs_of b d) p, length_dirs b d) in
        (sym (answered_no cap ds n), sym (kept_no cap ds b n))

    pub row_room : length p ≤ max_path → (k : ℕ) → k ≡ length (absent (dirs_of b d) (ancestors q)) → k ≤ cap - d → (length (registered (dirs_of b d) q) ≤ cap) × (length (normal q) ≤ max_path)
    row_room s k e h = (omega (arith, length_registered (dirs_of b d) q, length_dirs b d, F.few), omega (arith, normal_short q, ap length u))

    pub row_done : (e : ℕ) (b₁ : List ℕ) → dirs_of b₁ e ≡ registered (dirs_of b d) q → FlatDirs cap e b₁ → (Some e ≡ answered cap ds) × (b₁ ≡ kept cap ds b)
    row_done e b₁ w G =
        let v : dirs_of b₁ e ≡ ds = w ∙ ap (registered (dirs_of b d)) u in
        let n : length ds ≡ e = ap length (sym v) ∙ length_dirs b₁ e in
        let h : length ds ≤ cap = omega (arith, G.few) in
        (rw (← n) (sym (answered_yes cap ds h)), sym G.flat ∙ ap (flat_dirs cap) v ∙ sym (kept_yes cap ds b h))

  ds_short : length p ≤ max_path → Short ds
  ds_short h = joined_short (dirs_of b d) (ancestors p) (dirs_short b d) (ancestors_short p (omega (arith, normal_short p)))

  pub row_view : length p ≤ max_path → (r : Option ℕ) (e : ℕ) (b₁ : List ℕ) → r ≡ answered cap ds → b₁ ≡ kept cap ds b → r ≡ Some e
      → (dirs_of b₁ e ≡ ds) × FlatDirs cap e b₁
  row_view s r e b₁ t k o =
      let y = said_yes cap ds r e t o in
      dirs_of_lem cap e ds b₁ (sym y.1) (omega (arith, y.0, y.1)) (ds_short s) (k ∙ kept_yes cap ds b y.0)

-- ---- all rows' ancestors

-- The directories so far lie in the buffer, those of the start in front, and registering what is left gives the whole.
pub record Going (l s : List ℕ) (cap n m dirCap d : ℕ) (b₀ b : List ℕ) (e i : ℕ) : Type 0 where
  pub inside : i ≤ m
  pub onward : d ≤ e
  pub flat : FlatDirs dirCap e b
  pub front : take d (dirs_of b e) ≡ dirs_of b₀ d
  pub left : claimed (drop i (rows_of l s m)) (dirs_of b e) ≡ claimed (drop n (rows_of l s m)) (dirs_of b₀ d)

module _ (l s : List ℕ) (cap n m dirCap d : ℕ) (b₀ : List ℕ) where
  abbrev rs : List Row
  rs = rows_of l s m

  abbrev whole : List (List ℕ)
  whole = claimed (drop n rs) (dirs_of b₀ d)

  pub going_start : n ≤ m → FlatDirs dirCap d b₀ → Going l s cap n m dirCap d b₀ b₀ d n
  going_start h F = record { inside = h; onward = omega arith; flat = F; front = take_all d (dirs_of b₀ d) (omega (arith, length_dirs b₀ d)); left = refl }

  module _ (b : List ℕ) (e i : ℕ) (G : Going l s cap n m dirCap d b₀ b e i) where
    abbrev p : List ℕ
    p = path_of (at rs i)

    step : i < m → claimed (drop i rs) (dirs_of b e) ≡ claimed (drop (i + 1) rs) (registered (dirs_of b e) p)
    unfolding claimed
    step h = rw (drop-cons rs i none (omega (arith, length_rows l s m)), add-one)

    pub going_more : (F : Flat cap m l s) → i < m → (r : Option ℕ) (u : ℕ) (b₁ : List ℕ) → r ≡ answered dirCap (registered (dirs_of b e) p) → b₁ ≡ kept dirCap (registered (dirs_of b e) p) b → r ≡ Some u
        → Going l s cap n m dirCap d b₀ b₁ u (i + 1)
    unfolding joined
    going_more F h r u b₁ t k o =
        let v = row_view dirCap e b p G.flat (F.short i) r u b₁ t k o in
        let z : u ≡ length (registered (dirs_of b e) p) = (said_yes dirCap (registered (dirs_of b e) p) r u t o).1 in
        record {
          inside = omega arith;
          onward = omega (arith, length_registered (dirs_of b e) p, length_dirs b e, G.onward);
          flat = v.1;
          front = ap (take d) v.0 ∙ take-append-le d (dirs_of b e) (absent (dirs_of b e) (ancestors p)) (omega (arith, length_dirs b e, G.onward)) ∙ G.front;
          left = ap (claimed (drop (i + 1) rs)) v.0 ∙ sym (step h) ∙ G.left;
        }

    module _ (h : i < m) (r : Option ℕ) (b₁ : List ℕ) (t : r ≡ answered dirCap (registered (dirs_of b e) p)) (k : b₁ ≡ kept dirCap (registered (dirs_of b e) p) b) (o : r ≡ None) where
      same : b₁ ≡ b
      same = k ∙ kept_no dirCap (registered (dirs_of b e) p) b (said_no dirCap (registered (dirs_of b e) p) r t o)

      pub going_flat : FlatDirs dirCap e b₁
      going_flat = subst (FlatDirs dirCap e) (sym same) G.flat

      pub going_full : FlatDirs dirCap d b₀ → (b₂ : List ℕ) → b₂ ≡ flat_dirs dirCap (take d (dirs_of b₁ e)) → (None ≡ answered dirCap whole) × (b₂ ≡ kept dirCap whole b₀)
      going_full F b₂ q =
          let w : length (registered (dirs_of b e) p) ≤ length whole = subst (λ (x : List (List ℕ)). length (registered (dirs_of b e) p) ≤ length x) (sym (step h) ∙ G.left) (claimed_more (drop (i + 1) rs) (registered (dirs_of b e) p)) in
          let u : dirCap < length whole = omega (arith, said_no dirCap (registered (dirs_of b e) p) r t o) in (
            sym (answered_no dirCap whole u),
            q ∙ ap (λ (x : List ℕ). flat_dirs dirCap (take d (dirs_of x e))) same ∙ ap (flat_dirs dirCap) G.front ∙ F.flat ∙ sym (kept_no dirCap whole b₀ u),
          )

    pub going_done : m ≤ i → (Some e ≡ answered dirCap whole) × (b ≡ kept dirCap whole b₀)
    unfolding claimed
    going_done h =
        let v : dirs_of b e ≡ whole = rw (drop_of_length-le rs {i = i} (omega (arith, length_rows l s m))) at G.left in
        let n' : length whole ≡ e = ap length (sym v) ∙ length_dirs b e in
        let u : length whole ≤ dirCap = omega (arith, G.flat.few) in
        (rw (← n') (sym (answered_yes dirCap whole u)), sym G.flat.flat ∙ ap (flat_dirs dirCap) v ∙ sym (kept_yes dirCap whole b₀ u))

-- ---- the spare slots

pub queueing_room : (i : ℕ) (q q₁ : Pool) (t : Bool) → q.free ≤ i → q₁ ≡ cond t q (pushed i q) → q₁.free ≤ i + 1
unfolding pushed
queueing_room i q q₁ true h k = omega (arith, ap (λ (x : Pool). x.free) k)
queueing_room i q q₁ false h k = omega (arith, ap (λ (x : Pool). x.free) k)

module _ (l s : List ℕ) (n m : ℕ) (q₀ : Pool) where
  -- What is left to queue, and what was.
  abbrev pub Queueing : ℕ → Pool → Type 0
  Queueing i q = pushed_all (spares i (drop i (rows_of l s m))) q ≡ pushed_all (spares n (drop n (rows_of l s m))) q₀

  pub queueing_more : (i : ℕ) (q q₁ : Pool) (t : Bool) → Queueing i q → i < m → t ≡ is_bound (at (rows_of l s m) i) → q₁ ≡ cond t q (pushed i q) → Queueing (i + 1) q₁
  unfolding spares pushed_all
  queueing_more i q q₁ t g h e k = go t (sym e) k
    where
      left : pushed_all (spares i (at (rows_of l s m) i ∷ drop (suc i) (rows_of l s m))) q ≡ pushed_all (spares n (drop n (rows_of l s m))) q₀
      left = rw (drop-cons (rows_of l s m) i none (omega (arith, length_rows l s m))) at g

      go : (t : Bool) → is_bound (at (rows_of l s m) i) ≡ t → q₁ ≡ cond t q (pushed i q) → Queueing (i + 1) q₁
      go true f k = rw (add-one, k) (rw f at left)
      go false f k = rw (add-one, k) (rw f at left)

  pub queueing_done : (i : ℕ) (q : Pool) → Queueing i q → m ≤ i → q ≡ pushed_all (spares n (drop n (rows_of l s m))) q₀
  unfolding spares pushed_all
  queueing_done i q g h = rw (drop_of_length-le (rows_of l s m) {i = i} (omega (arith, length_rows l s m))) at g

-- ---- the losers

in-drop : (xs : List ℕ) (i x : ℕ) → In x (drop i xs) → In x xs
in-drop xs zero x m = m
in-drop [] (suc i) x m = m
in-drop (y ∷ xs) (suc i) x m = Memᴰ.tail (in-drop xs i x m)

-- xs are the losers; i of them are unbound
pub list_in : (xs : List ℕ) (i : ℕ) → i < length xs → In (get_or xs i 0) xs
list_in xs i h = in-drop xs i (get_or xs i 0) (rw (drop-cons xs i 0 h) (Memᴰ.head refl))

pub vacated_more : (xs : List ℕ) (i : ℕ) (rs ts us : List Row) → i < length xs → vacated (drop i xs) rs ≡ us → ts ≡ set rs (get_or xs i 0) none
    → vacated (drop (i + 1) xs) ts ≡ us
unfolding vacated
vacated_more xs i rs ts us h e k = rw (k, add-one) (rw (drop-cons xs i 0 h) at e)

pub vacated_done : (xs : List ℕ) (i : ℕ) (rs us : List Row) → length xs ≤ i → vacated (drop i xs) rs ≡ us → rs ≡ us
unfolding vacated
vacated_done xs i rs us h e = rw (drop_of_length-le xs {i = i} h) at e

-- ---- accepted or put back

drop_short : (n : ℕ) (rs : List Row) → Rows.Short rs → Rows.Short (drop n rs)
drop_short zero rs h i = h i
drop_short (suc n) [] h i = h i
drop_short (suc n) (r ∷ rs) h i = drop_short n rs (λ j. h (suc j)) i

module _ (cap dirCap n m d counter k : ℕ) (a : Three) (F : Flat cap m a.nums a.names) (G : FlatDirs dirCap d a.dirs) where
  abbrev every : List (List ℕ)
  every = claimed (drop n (rows_of a.nums a.names m)) (dirs_of a.dirs d)

  module _ (r : Option ℕ) (b : List ℕ) (t : r ≡ answered dirCap every) (q : b ≡ kept dirCap every a.dirs) where
    -- the answer, and what it says of the buffers
    abbrev pub Says : ℕ → ℕ → Three → Type 0
    Says o e c = (o ≡ refusal dirCap every counter k) × ((o ≡ 0 → Taken dirCap every e a c) × ((o ≡ 0 → ⊥) → c ≡ unstaged cap n m a))

    module _ (no : r ≡ None) where
      pub refused_eight : (l s : List ℕ) → l ≡ flat_nums cap (take n (rows_of a.nums a.names m)) → s ≡ flat_names cap (take n (rows_of a.nums a.names m)) → Says 8 0 (three l s b)
      unfolding refusal unstaged
      refused_eight l s e f =
          let h : dirCap < length every = said_no dirCap every r t no in
          (rw (lt-ltb dirCap (length every) h), (λ z. absurd (omega arith), λ z. rw (e, f, q ∙ kept_no dirCap every a.dirs h)))

    module _ (e : ℕ) (yes : r ≡ Some e) where
      fit : length every ≤ dirCap
      fit = (said_yes dirCap every r e t yes).0

      lies : b ≡ flat_dirs dirCap every
      lies = q ∙ kept_yes dirCap every a.dirs fit

      pub found_flat : (dirs_of b e ≡ every) × FlatDirs dirCap e b
      found_flat = dirs_of_lem dirCap e every b (sym (said_yes dirCap every r e t yes).1) (omega (arith, fit, (said_yes dirCap every r e t yes).1)) (claimed_short (drop n (rows_of a.nums a.names m)) (dirs_of a.dirs d) (drop_short n (rows_of a.nums a.names m) F.short) (dirs_short a.dirs d)) lies

      pub found_more : d ≤ e
      found_more = omega (arith, (said_yes dirCap every r e t yes).1, claimed_more (drop n (rows_of a.nums a.names m)) (dirs_of a.dirs d), length_dirs a.dirs d)

      pub refused_nine : (l s c : List ℕ) → last_counter < counter + k → l ≡ flat_nums cap (take n (rows_of a.nums a.names m)) → s ≡ flat_names cap (take n (rows_of a.nums a.names m))
          → c ≡ flat_dirs dirCap (take d (dirs_of b e)) → Says 9 0 (three l s c)
      unfolding refusal unstaged
      refused_nine l s c h f g u =
          let v : dirs_of b e ≡ every = found_flat.0 in
          let w : take d every ≡ dirs_of a.dirs d = ap (λ (x : ℕ). take x every) (sym (length_dirs a.dirs d)) ∙ claimed_front (drop n (rows_of a.nums a.names m)) (dirs_of a.dirs d) in
          (rw (le-ltb dirCap (length every) fit, lt-ltb last_counter (counter + k) h), (λ z. absurd (omega arith), λ z. rw (f, g, u, v, w, G.flat)))

      pub accepted : counter + k ≤ last_counter → Says 0 e (three a.nums a.names b)
      unfolding refusal
      accepted h = (
        rw (le-ltb dirCap (length every) fit, le-ltb last_counter (counter + k) h),
        (λ z. record { count = (said_yes dirCap every r e t yes).1; few = fit; rows = ap (three a.nums a.names) lies }, λ z. absurd (z refl)),
      )
