-- What adopt makes of what its parts came to: one law a way out, over plain values.
use Prim.Native.Nat.{ℕ, ◌+◌, ◌-◌, ◌≤◌, ◌<◌, max}
use native.Mathlib.Omega.{arith}
use mathlib.Core.Path.{◌≡◌, refl, sym, ap, ap₂, ◌∙◌, subst}
use mathlib.Core.Bool.{Bool, true, false, cond, ◌||◌}
use mathlib.Core.List.{List, [], ◌++◌, map}
use lib.Dec.{ltb}
use lib.ListN.{length, take, drop, length-append, length-map}
use lib.Seq.{take_at, drop_at}
use borrow.Author.Tests.{lt-ltb, le-ltb, ltb-false}
use Rattle.limits.specs.Limits.{last_counter}
use Rattle.lists.specs.Blocks.{pad, take_pad}
use Rattle.lists.specs.Distinct.{In}
use Rattle.device.specs.declared.Place.{Place}
use Rattle.device.specs.declared.Geometry.{Geometry}
use Rattle.device.specs.Device.{dev, Shape}
use Rattle.slot_rows.specs.Rows.{Row, rows_of, flat_nums, flat_names, Flat}
use Rattle.slot_rows.proofs.InBuffers.{length_rows}
use Rattle.dir_rows.specs.Rows.{dirs_of, flat_dirs, FlatDirs}
use Rattle.dir_rows.proofs.InBuffer.{dirs_of_lem}
use Rattle.pool_state.specs.declared.Pool.{Pool}
use Rattle.pool_state.specs.State.{Bufs, bufs, view, pool_of, flat}
use Rattle.pool_state.specs.InBuffers.{pool_canon, pool_rows, pool_dirs, queue_fits, queue_few, together}
use Rattle.pool_steps.specs.World.{World, world, Lent, lent, view_w, flat_w, Fit, Ready}
use Rattle.pool_steps.proofs.Stays.{world_is, ready_fit, lent_stays}
use Rattle.pool_steps.specs.Outcome.{only, flat_o}
use Rattle.mount_survey.specs.Staged.{claimed, spares, vacated}
use Rattle.mount_survey.proofs.Surveyed.{scan_rows, scan_length, scan_free, scan_dirs, asked_room, asked_over, asked_same}
use Rattle.mount_install.specs.Install.{refusal, Three, three, Taken, unstaged, pushed_all, holding}
use Rattle.mount_install.proofs.StagedRows.{push_all}
use Rattle.mount_survey.specs.Heads.{Head, Reads, reads_m}
use Rattle.mount_survey.specs.Survey.{Survey, survey, scan}
use Rattle.mount_survey.specs.Claims.{row_of, asked_of, losers_of}
use Rattle.mount_survey.proofs.LostClaims.{scan_losers}
use Rattle.mount.specs.Mount.{begin, installed, drain, Due, moved, settle, after_reads, too_many, adopt_m}
use Rattle.mount.proofs.SurveyKeeps.{reads_fine, Keeps}
use Rattle.mount.proofs.Stays.{scanned, installed_fit, losers_due}

-- ---- 8, 9, or done

refusal_settles : (plan : List ℕ) (g : Geometry) (v : Survey) (w : World) (o : ℕ) → o ≡ refusal w.state.chosen.dir_rows v.dirs v.counter (length v.losers) → (o ≡ 0 → ⊥) → settle plan g v w ≡ only o w
unfolding settle refusal
refusal_settles plan g v w o e ne = eight (ltb w.state.chosen.dir_rows (length v.dirs)) e
  where
    nine : (t : Bool) → o ≡ cond t 9 0 → cond t (only 9 w) (only 0 (drain plan g v.losers (world w.dev (installed w.state v)))) ≡ only o w
    nine true q = rw q
    nine false q = absurd (ne q)

    eight : (t : Bool) → o ≡ cond t 8 (cond (ltb last_counter (v.counter + length v.losers)) 9 0)
        → cond t (only 8 w) (cond (ltb last_counter (v.counter + length v.losers)) (only 9 w) (only 0 (drain plan g v.losers (world w.dev (installed w.state v))))) ≡ only o w
    eight true q = rw q
    eight false q = nine (ltb last_counter (v.counter + length v.losers)) q

accepted_settles : (plan : List ℕ) (g : Geometry) (v : Survey) (w : World) → 0 ≡ refusal w.state.chosen.dir_rows v.dirs v.counter (length v.losers)
    → (settle plan g v w ≡ only 0 (drain plan g v.losers (world w.dev (installed w.state v)))) × (length v.dirs ≤ w.state.chosen.dir_rows) × (v.counter + length v.losers ≤ last_counter)
unfolding settle refusal
accepted_settles plan g v w e = eight (ltb w.state.chosen.dir_rows (length v.dirs)) refl e
  where
    nine : (t : Bool) → ltb last_counter (v.counter + length v.losers) ≡ t → ◌≡◌ {A = ℕ} 0 (cond t 9 0) → length v.dirs ≤ w.state.chosen.dir_rows
        → (cond t (only 9 w) (only 0 (drain plan g v.losers (world w.dev (installed w.state v)))) ≡ only 0 (drain plan g v.losers (world w.dev (installed w.state v))))
        × (length v.dirs ≤ w.state.chosen.dir_rows) × (v.counter + length v.losers ≤ last_counter)
    nine true f q h = absurd (omega arith)
    nine false f q h = (refl, h, ltb-false _ _ f)

    eight : (t : Bool) → ltb w.state.chosen.dir_rows (length v.dirs) ≡ t → ◌≡◌ {A = ℕ} 0 (cond t 8 (cond (ltb last_counter (v.counter + length v.losers)) 9 0))
        → (cond t (only 8 w) (cond (ltb last_counter (v.counter + length v.losers)) (only 9 w) (only 0 (drain plan g v.losers (world w.dev (installed w.state v))))) ≡ only 0 (drain plan g v.losers (world w.dev (installed w.state v))))
        × (length v.dirs ≤ w.state.chosen.dir_rows) × (v.counter + length v.losers ≤ last_counter)
    eight true f q = absurd (omega arith)
    eight false f q = nine (ltb last_counter (v.counter + length v.losers)) refl q (ltb-false _ _ f)

-- 9 is the same, whether the counter is cut or not.
refusal_cut : (cap : ℕ) (ds : List (List ℕ)) (hs : List Head) (rs : List Row) (es : List (List ℕ)) (c k : ℕ)
    → refusal cap ds (max c (asked_of hs)) k ≡ refusal cap ds (scan hs (survey rs [] [] es c)).counter k
unfolding refusal
refusal_cut cap ds hs rs es c k = ap (λ (t : Bool). cond (ltb cap (length ds)) 8 (cond t 9 0)) (asked_over hs rs es c k)

-- ---- the ways out

module _ (plan : List ℕ) (g : Geometry) (k : ℕ) (l : Lent) (R : Ready g l) where
  abbrev b : Bufs
  b = l.bufs

  abbrev n : ℕ
  n = b.pool.held

  abbrev rs : List Row
  rs = rows_of b.nums b.names n

  abbrev r : Reads
  r = reads_m plan g n k l.dev

  abbrev start : Survey
  start = survey rs [] [] (dirs_of b.dirs b.pool.dirs) b.pool.counter

  abbrev v : Survey
  v = scan r.heads start

  -- 12
  many_rows : b.pool.chosen.rows - n < k → too_many k (view_w l) ≡ true
  unfolding too_many view_w view
  many_rows h = rw (length_rows b.nums b.names n, lt-ltb (b.pool.chosen.rows - n) k h)

  many_slots : length l.dev.phys - n < k → too_many k (view_w l) ≡ true
  unfolding too_many view_w view
  many_slots h = rw (length_rows b.nums b.names n, lt-ltb (length l.dev.phys - n) k h) (either (ltb (b.pool.chosen.rows - n) k))
    where
      either : (t : Bool) → (t || true) ≡ true
      either true = refl
      either false = refl

  not_many : k ≤ b.pool.chosen.rows - n → k ≤ length l.dev.phys - n → too_many k (view_w l) ≡ false
  unfolding too_many view_w view
  not_many h i = rw (length_rows b.nums b.names n, le-ltb (b.pool.chosen.rows - n) k h, le-ltb (length l.dev.phys - n) k i)

  twelve : too_many k (view_w l) ≡ true → only 12 l ≡ flat_o (adopt_m plan g k (view_w l))
  unfolding adopt_m flat_o
  twelve t = rw t (ap (only 12) (lent_stays l R.pool))

  pub twelve_rows : b.pool.chosen.rows - n < k → only 12 l ≡ flat_o (adopt_m plan g k (view_w l))
  twelve_rows h = twelve (many_rows h)

  pub twelve_slots : length l.dev.phys - n < k → only 12 l ≡ flat_o (adopt_m plan g k (view_w l))
  twelve_slots h = twelve (many_slots h)

  -- what the staging needs
  pub stage_fits : k ≤ b.pool.chosen.rows - n → k ≤ length l.dev.phys - n
      → (Shape g l.dev.bytes l.dev.phys × Flat b.pool.chosen.rows n b.nums b.names) × ((n + k ≤ b.pool.chosen.rows) × (n + k ≤ length l.dev.phys))
  stage_fits h i = ((R.shape, pool_rows b R.pool), (omega (arith, (pool_rows b R.pool).few), omega (arith, R.slots)))

  module _ (h : k ≤ b.pool.chosen.rows - n) (i : k ≤ length l.dev.phys - n) (p : Place) (pe : p ≡ r.place) where
    goes : adopt_m plan g k (view_w l) ≡ after_reads plan g r (view_w l)
    unfolding adopt_m view_w view
    goes = rw (not_many h i, length_rows b.nums b.names n)

    -- the buffers stay, and the place has moved
    stays : (o : ℕ) (l₁ s₁ d₁ : List ℕ) → l₁ ≡ b.nums → s₁ ≡ b.names → d₁ ≡ b.dirs
        → only o (lent (dev l.dev.bytes l.dev.phys p) (bufs b.pool l₁ s₁ d₁)) ≡ flat_o (only o (moved r.place (view_w l)))
    unfolding view_w flat_w flat_o
    stays o l₁ s₁ d₁ x y z = rw (x, y, z, pe) (ap (λ (c : Bufs). only o (lent (dev l.dev.bytes l.dev.phys r.place) c)) (sym R.pool.canon))

    -- 10
    pub ten : (l₁ s₁ : List ℕ) (f : Bool) → f ≡ r.failed → f ≡ true → (f ≡ true → (l₁ ≡ b.nums) × (s₁ ≡ b.names))
        → only 10 (lent (dev l.dev.bytes l.dev.phys p) (bufs b.pool l₁ s₁ b.dirs)) ≡ flat_o (adopt_m plan g k (view_w l))
    unfolding after_reads
    ten l₁ s₁ f fe t q =
        let e : r.failed ≡ true = sym fe ∙ t in
        stays 10 l₁ s₁ b.dirs (q t).0 (q t).1 refl ∙ ap flat_o (sym (goes ∙ rw e))

    module _ (ok : r.failed ≡ false) (l₁ s₁ : List ℕ) (S : rows_of l₁ s₁ (n + k) ≡ rs ++ map row_of r.heads) (F : Flat b.pool.chosen.rows (n + k) l₁ s₁) where
      abbrev staged : List Row
      staged = rows_of l₁ s₁ (n + k)

      settles : adopt_m plan g k (view_w l) ≡ settle plan g v (moved r.place (view_w l))
      unfolding after_reads view_w view
      settles = goes ∙ rw ok

      new_rows : drop n staged ≡ map row_of r.heads
      new_rows = ap (drop n) S ∙ drop_at rs (map row_of r.heads) n (length_rows b.nums b.names n)

      old_rows : take n staged ≡ rs
      old_rows = ap (take n) S ∙ take_at rs (map row_of r.heads) n (length_rows b.nums b.names n)

      dirs_are : claimed (drop n staged) (dirs_of b.dirs b.pool.dirs) ≡ v.dirs
      dirs_are = ap (λ (x : List Row). claimed x (dirs_of b.dirs b.pool.dirs)) new_rows ∙ sym (scan_dirs r.heads rs (dirs_of b.dirs b.pool.dirs) b.pool.counter)

      losers_are : losers_of n staged ≡ v.losers
      losers_are = ap₂ losers_of (sym (length_rows b.nums b.names n)) S ∙ sym (scan_losers r.heads rs (dirs_of b.dirs b.pool.dirs) b.pool.counter)

      many : length v.rows ≡ n + k
      many =
          let x : length staged ≡ n + k = length_rows l₁ s₁ (n + k) in
          let y : length staged ≡ length rs + length (map row_of r.heads) = ap length S ∙ length-append rs (map row_of r.heads) in
          omega (arith, scan_length r.heads rs (dirs_of b.dirs b.pool.dirs) b.pool.counter, length-map r.heads row_of)

      small : n + k ≤ 64
      unfolding view
      small = omega (arith, F.few, R.pool.valid.counts.small)

      -- what finding the losers needs
      pub find_fits : Flat b.pool.chosen.rows (n + k) l₁ s₁ × (n ≤ n + k) × (b.pool.chosen.rows ≤ 64)
      unfolding view
      find_fits = (F, omega arith, R.pool.valid.counts.small)

      module _ (list : List ℕ) (count : ℕ) (le : list ≡ pad 64 (losers_of n staged)) (ce : count ≡ length (losers_of n staged)) (few : count ≤ n + k - n) where
        listed : take count list ≡ v.losers
        listed = ap₂ take ce le ∙ take_pad 64 (losers_of n staged) (omega (arith, small)) ∙ losers_are

        counted : count ≡ length v.losers
        counted = ce ∙ ap length losers_are

        pub accept_fits : Flat b.pool.chosen.rows (n + k) l₁ s₁ × FlatDirs b.pool.chosen.dir_rows b.pool.dirs b.dirs × (n ≤ n + k) × (count ≤ 64)
        accept_fits = (F, pool_dirs b R.pool, omega arith, omega (arith, small))

        module _ (asked counter : ℕ) (ae : asked ≡ asked_of r.heads) (ke : counter ≡ max b.pool.counter asked)
            (o : ℕ) (oe : o ≡ refusal b.pool.chosen.dir_rows (claimed (drop n staged) (dirs_of b.dirs b.pool.dirs)) counter count) where
          out_is : o ≡ refusal b.pool.chosen.dir_rows v.dirs v.counter (length v.losers)
          out_is = oe ∙ rw (dirs_are, counted, ke, ae) (refusal_cut b.pool.chosen.dir_rows v.dirs r.heads rs (dirs_of b.dirs b.pool.dirs) b.pool.counter (length v.losers))

          -- 8 or 9
          pub refused : (l₂ s₂ d₂ : List ℕ) → (o ≡ 0 → ⊥) → ((o ≡ 0 → ⊥) → three l₂ s₂ d₂ ≡ unstaged b.pool.chosen.rows n (n + k) (three l₁ s₁ b.dirs))
              → only o (lent (dev l.dev.bytes l.dev.phys p) (bufs b.pool l₂ s₂ d₂)) ≡ flat_o (adopt_m plan g k (view_w l))
          unfolding unstaged view_w view
          refused l₂ s₂ d₂ ne q =
              let F₀ = pool_rows b R.pool in
              stays o l₂ s₂ d₂
              (ap (λ (t : Three). t.nums) (q ne) ∙ ap (flat_nums b.pool.chosen.rows) old_rows ∙ F₀.nums)
              (ap (λ (t : Three). t.names) (q ne) ∙ ap (flat_names b.pool.chosen.rows) old_rows ∙ F₀.names)
              (ap (λ (t : Three). t.dirs) (q ne))
              ∙ ap flat_o (sym (settles ∙ refusal_settles plan g v (moved r.place (view_w l)) o out_is ne))

          module _ (zero : o ≡ 0) (e : ℕ) (l₂ s₂ d₂ : List ℕ)
              (T : o ≡ 0 → Taken b.pool.chosen.dir_rows (claimed (drop n staged) (dirs_of b.dirs b.pool.dirs)) e (three l₁ s₁ b.dirs) (three l₂ s₂ d₂)) where
            taken : Taken b.pool.chosen.dir_rows (claimed (drop n staged) (dirs_of b.dirs b.pool.dirs)) e (three l₁ s₁ b.dirs) (three l₂ s₂ d₂)
            taken = T zero

            nums_same : l₂ ≡ l₁
            nums_same = ap (λ (t : Three). t.nums) taken.rows

            names_same : s₂ ≡ s₁
            names_same = ap (λ (t : Three). t.names) taken.rows

            done_is : (settle plan g v (moved r.place (view_w l)) ≡ only 0 (drain plan g v.losers (world (moved r.place (view_w l)).dev (installed (view_w l).state v))))
                × (length v.dirs ≤ b.pool.chosen.dir_rows) × (v.counter + length v.losers ≤ last_counter)
            unfolding view_w view
            done_is = accepted_settles plan g v (moved r.place (view_w l)) (sym zero ∙ out_is)

            abbrev W : World
            W = world (dev l.dev.bytes l.dev.phys r.place) (installed (view b) v)

            keeps : Keeps (view_w l).state.queue (scan r.heads (begin (view_w l).state))
            unfolding view_w view
            keeps =
                let m = length_rows b.nums b.names n in
                scanned plan g (view_w l) (ready_fit g l R) r.heads (reads_fine plan g n k l.dev).0 (omega (arith, many, scan_length r.heads rs (dirs_of b.dirs b.pool.dirs) b.pool.counter, F.few)) (omega (arith, many, scan_length r.heads rs (dirs_of b.dirs b.pool.dirs) b.pool.counter, R.slots))

            fit : Fit g W
            unfolding view_w view
            fit =
                installed_fit plan g (view_w l) (ready_fit g l R) r.heads (reads_fine plan g n k l.dev).0 (omega (arith, many, scan_length r.heads rs (dirs_of b.dirs b.pool.dirs) b.pool.counter, F.few)) (omega (arith, many, scan_length r.heads rs (dirs_of b.dirs b.pool.dirs) b.pool.counter, R.slots))
                r.place done_is.1 (omega (arith, done_is.2))

            due : Due v.losers W
            unfolding view_w view
            due = losers_due (view b) v R.pool.valid keeps (omega (arith, many, F.few)) done_is.1 (dev l.dev.bytes l.dev.phys r.place) done_is.2

            -- what installing needs
            pub install_fits : (Flat b.pool.chosen.rows (n + k) l₂ s₂ × (n ≤ n + k) × (n + k ≤ 64) × (b.pool.free ≤ n)) × ((count ≤ 64) × ((x : ℕ) → In x (take count list) → x < n + k))
            unfolding installed pool_of view
            install_fits =
                let f : length (view b).queue ≡ b.pool.free = ap (λ (q : Pool). q.free) (pool_canon b R.pool) in (
                  (rw (nums_same, names_same) F, omega arith, small, omega (arith, queue_few (view b) R.pool.valid, length_rows b.nums b.names n)),
                  (omega (arith, small), λ x m. omega (arith, due.inside x (subst (λ (t : List ℕ). In x t) listed m), many)),
                )

            module _ (q : Pool) (l₃ s₃ : List ℕ) (qe : q ≡ holding (n + k) e counter (pushed_all (spares n (drop n (rows_of l₂ s₂ (n + k)))) b.pool))
                (S₃ : rows_of l₃ s₃ (n + k) ≡ vacated (take count list) (rows_of l₂ s₂ (n + k))) (F₃ : Flat b.pool.chosen.rows (n + k) l₃ s₃) where
              same_rows : rows_of l₂ s₂ (n + k) ≡ staged
              same_rows = ap₂ (λ (x y : List ℕ). rows_of x y (n + k)) nums_same names_same

              rows_are : rows_of l₃ s₃ (n + k) ≡ v.rows
              rows_are = S₃ ∙ rw (listed, same_rows, S) (sym (scan_rows r.heads rs (dirs_of b.dirs b.pool.dirs) b.pool.counter))

              free_are : spares n (drop n (rows_of l₂ s₂ (n + k))) ≡ v.free
              free_are = rw (same_rows, new_rows) (ap (λ (m : ℕ). spares m (map row_of r.heads)) (sym (length_rows b.nums b.names n)) ∙ sym (scan_free r.heads rs (dirs_of b.dirs b.pool.dirs) b.pool.counter))

              counter_is : counter ≡ v.counter
              counter_is = ke ∙ rw ae (asked_same r.heads rs (dirs_of b.dirs b.pool.dirs) b.pool.counter (length v.losers) ((asked_room r.heads rs (dirs_of b.dirs b.pool.dirs) b.pool.counter (length v.losers)).1 (omega (arith, done_is.2))))

              record_is : q ≡ pool_of (installed (view b) v)
              unfolding pool_of installed view
              record_is =
                  let few₁ : length ((view b).queue ++ v.free) ≤ 64 = queue_fits (installed (view b) v) fit.valid in
                  let pushes = push_all v.free (view b) b.pool (sym (pool_canon b R.pool)) (omega (arith, length-append (view b).queue v.free)) in
                  qe ∙ rw (free_are, pushes, sym many, taken.count, dirs_are, counter_is)

              held_flat : bufs q l₃ s₃ d₂ ≡ flat (installed (view b) v)
              unfolding pool_of installed view
              held_flat =
                  let x : q.held ≡ n + k = ap (λ (t : Pool). t.held) record_is ∙ many in
                  let c : q.chosen.rows ≡ b.pool.chosen.rows = ap (λ (t : Pool). t.chosen.rows) record_is in
                  let y : q.dirs ≡ length v.dirs = ap (λ (t : Pool). t.dirs) record_is in
                  let d : q.chosen.dir_rows ≡ b.pool.chosen.dir_rows = ap (λ (t : Pool). t.chosen.dir_rows) record_is in
                  let G = dirs_of_lem b.pool.chosen.dir_rows (length v.dirs) v.dirs d₂ refl done_is.1 fit.valid.directories.short (ap (λ (t : Three). t.dirs) taken.rows ∙ ap (flat_dirs b.pool.chosen.dir_rows) dirs_are) in
                  together (installed (view b) v) q l₃ s₃ d₂ record_is (ap (rows_of l₃ s₃) x ∙ rows_are) (rw (c, x) F₃) (ap (dirs_of d₂) y ∙ G.0) (rw (d, y) G.1)

              abbrev now : Lent
              now = lent (dev l.dev.bytes l.dev.phys p) (bufs q l₃ s₃ d₂)

              now_flat : now ≡ flat_w W
              unfolding flat_w
              now_flat = ap₂ (λ (x : Place) (y : Bufs). lent (dev l.dev.bytes l.dev.phys x) y) pe held_flat

              now_is : (view_w now ≡ W) × Ready g now
              now_is = world_is g W now fit now_flat

              -- what the releases need
              pub drain_fits : Ready g now × ((count ≤ 64) × Due (take count list) (view_w now))
              drain_fits = (now_is.1, (omega (arith, small), subst (Due (take count list)) (sym now_is.0) (subst (λ (t : List ℕ). Due t W) (sym listed) due)))

              -- 0
              pub adopted : (z : Lent) → z ≡ flat_w (drain plan g (take count list) (view_w now)) → only 0 z ≡ flat_o (adopt_m plan g k (view_w l))
              unfolding view_w view flat_o
              adopted z q₄ =
                  ap (only 0) (q₄ ∙ ap₂ (λ (t : List ℕ) (w : World). flat_w (drain plan g t w)) listed now_is.0) ∙ ap flat_o (sym (settles ∙ done_is.0))
