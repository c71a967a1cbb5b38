-- A survey of a pool keeps what makes a pool, and its losers stand apart: they are slots of the pool, neither bound nor free.
use Rattle.std.specs.Prelude.{None, Option, Some}
use Prim.Native.Nat.{ℕ, zero, suc, ◌≤◌, ◌<◌, max}
use native.Mathlib.Decide.{ℕ_discrete}
use native.Mathlib.Omega.{arith}
use mathlib.Core.Path.{◌≡◌, refl, sym, ap, ◌∙◌, subst}
use mathlib.Core.Logic.{◌≢◌, ◌⊎◌, inl, inr, ⊎_elim}
use mathlib.Core.Bool.{Bool, true, false, cond, false≢true, ◌&&◌}
use mathlib.Core.List.{List, [], ◌∷◌, ◌++◌, append-nil, append_assoc}
use lib.Dec.{leb, ltb, eqb}
use lib.ListN.{length, set, length-append, length-set, length-take}
use lib.Seq.{get_or-set_same, get_or-set_other, get_or-append_seam}
use Rattle.limits.specs.Limits.{max_path}
use Rattle.lists.specs.Distinct.{In, Distinct, snoc_in, distinct_snoc}
use Rattle.text.specs.Text.{is_text}
use Rattle.text.specs.Text as Text
use Rattle.text.proofs.Grammar.{text_complete}
use Rattle.path.specs.Path.{components, ancestors}
use Rattle.path.proofs.Theorems.{same_path_lem, normal_short}
use Rattle.header.specs.declared.Header.{Header}
use Rattle.header.specs.Block.{decoded}
use Rattle.header.specs.Block as Block
use Rattle.header.proofs.BlockLaws.{found}
use Rattle.device.specs.declared.Geometry.{Geometry}
use Rattle.device.specs.Device.{Dev, given, turn}
use Rattle.slot_rows.specs.Rows.{Row, unbound, bound, none, at, is_bound, path_of, gen_of, holds, find}
use Rattle.slot_rows.proofs.Finding.{find_holds, find_none, holds_path, holds_bound}
use Rattle.dir_rows.specs.Dirs.{registered}
use Rattle.dir_rows.proofs.Joined.{joined_short}
use Rattle.dir_rows.proofs.Registering.{registered_dirs, ancestors_short}
use Rattle.pool_state.specs.State.{Slots, Directories}
use Rattle.mount_survey.specs.Heads.{Head, absent, idle, claim, said_of, head_of, Reads, behind, looked, reads_m}
use Rattle.mount_survey.specs.Survey.{Survey, claim_row, spare, enter, rival, meet, step, scan}

-- A bound row is one of the rows.
bound_inside : (rs : List Row) (j : ℕ) → is_bound (at rs j) ≡ true → j < length rs
unfolding is_bound
bound_inside [] j h = absurd (false≢true h)
bound_inside (r ∷ rs) zero h = omega arith
bound_inside (r ∷ rs) (suc j) h = omega (arith, bound_inside rs j h)

-- ---- what a head is

-- A claim's path is text that fits a row.
abbrev pub Sane : Head → Type 0
Sane absent = Unit {0}
Sane (idle g) = Unit {0}
Sane (claim p g n) = (is_text p ≡ true) × (length p ≤ max_path)

abbrev pub AllSane : List Head → Type 0
AllSane [] = Unit {0}
AllSane (h ∷ hs) = Sane h × AllSane hs

pub head_sane : (bs : List ℕ) → Sane (head_of bs)
unfolding head_of
head_sane bs = go (decoded bs (length bs)) refl
  where
    use-sane : (h : Header) → decoded bs (length bs) ≡ Some h → (t : Bool) → Sane (cond t (claim (Block.path_of bs) h.generation h.len) (idle h.generation))
    use-sane h e true = let P = (found bs (length bs) h).0 e in (P.path_text, simp length-take (omega (arith, P.path_fits)))
    use-sane h e false = tt

    go : (x : Option Header) → decoded bs (length bs) ≡ x → Sane (said_of bs x)
    go None e = tt
    go (Some h) e = use-sane h e (h.in_use && ltb 0 h.path_len)

-- What was read: sane heads, and no more of them than slots.
abbrev Fine : ℕ → Reads → Type 0
Fine k r = AllSane r.heads × (length r.heads ≤ k)

pub reads_fine : (plan : List ℕ) (g : Geometry) (i k : ℕ) (d : Dev) → Fine k (reads_m plan g i k d)
unfolding reads_m
reads_fine plan g i zero d = (tt, omega arith)
reads_fine plan g i (suc k) d = go (eqb (turn plan d.place) 1) (reads_fine plan g (suc i) k (looked plan d))
  where
    go : (t : Bool) → Fine k (reads_m plan g (suc i) k (looked plan d))
        → Fine (suc k) (cond t (record { failed = true; heads = []; place = (looked plan d).place }) (behind (head_of (given plan g i 0 512 d)) (reads_m plan g (suc i) k (looked plan d))))
    go true f = (tt, omega arith)
    go false f = ((head_sane (given plan g i 0 512 d), f.0), omega (arith, f.1))

-- ---- the rows, the free slots and the losers of a survey

-- What a pool asks of its queue q, and the same of the losers ls; no slot is both.
pub record Aside (rs : List Row) (q ls : List ℕ) : Type 0 where
  pub inside : (i : ℕ) → In i q ⊎ In i ls → i < length rs
  pub idle : (i : ℕ) → In i q ⊎ In i ls → is_bound (at rs i) ≡ false
  pub once : Distinct q
  pub lost : Distinct ls
  pub other : (i : ℕ) → In i q → In i ls → ⊥

-- All that a pool asks, but for the counts, with the losers beside the queue.
pub record Sound (rs : List Row) (q ls : List ℕ) (ds : List (List ℕ)) (c : ℕ) : Type 0 where
  pub begun : 1 ≤ c
  pub slots : Slots rs c
  pub aside : Aside rs q ls
  pub directories : Directories ds

-- ---- one row changed, or one row more

-- Row n is r, and the others are as they were.
abbrev Changed : List Row → List Row → ℕ → Row → Type 0
Changed rs ts n r = (j : ℕ) → ((j ≡ n) × (at ts j ≡ r)) ⊎ ((j ≢ n) × (at ts j ≡ at rs j))

snoc_changed : (rs : List Row) (r : Row) → Changed rs (rs ++ (r ∷ [])) (length rs) r
snoc_changed [] r zero = inl (refl, refl)
snoc_changed [] r (suc j) = inr (λ e. omega arith, refl)
snoc_changed (x ∷ rs) r zero = inr (λ e. omega arith, refl)
snoc_changed (x ∷ rs) r (suc j) = go (snoc_changed rs r j)
  where
    go : ((j ≡ length rs) × (at (rs ++ (r ∷ [])) j ≡ r)) ⊎ ((j ≢ length rs) × (at (rs ++ (r ∷ [])) j ≡ at rs j))
        → ((suc j ≡ suc (length rs)) × (at (rs ++ (r ∷ [])) j ≡ r)) ⊎ ((suc j ≢ suc (length rs)) × (at (rs ++ (r ∷ [])) j ≡ at rs j))
    go (inl e) = inl (ap suc e.0, e.1)
    go (inr e) = inr (λ k. e.0 (omega arith), e.1)

set_changed : (rs : List Row) (i : ℕ) (r : Row) → i < length rs → Changed rs (set rs i r) i r
set_changed rs i r h j = go (ℕ_discrete j i)
  where
    go : Dec (j ≡ i) → ((j ≡ i) × (at (set rs i r) j ≡ r)) ⊎ ((j ≢ i) × (at (set rs i r) j ≡ at rs j))
    go (yes e) = inl (e, ap (at (set rs i r)) e ∙ get_or-set_same rs i r none h)
    go (no n) = inr (n, get_or-set_other rs i j r none n)

module _ (rs ts : List Row) (q ls : List ℕ) (ds : List (List ℕ)) (c e n : ℕ) (r : Row) (S : Sound rs q ls ds c) (each : Changed rs ts n r) where
  abbrev Which : ℕ → Type 0
  Which j = ((j ≡ n) × (at ts j ≡ r)) ⊎ ((j ≢ n) × (at ts j ≡ at rs j))

  all_rows : (P : Row → Type 0) → P r → ((j : ℕ) → P (at rs j)) → (j : ℕ) → P (at ts j)
  all_rows P p f j = go (each j)
    where
      go : Which j → P (at ts j)
      go (inl x) = subst P (sym x.1) p
      go (inr x) = subst P (sym x.1) (f j)

  module _ (new : is_bound r ≡ true → (j : ℕ) → j ≢ n → is_bound (at rs j) ≡ true → components (path_of r) ≡ components (path_of (at rs j)) → ⊥)
      (out : is_bound r ≡ true → In n q ⊎ In n ls → ⊥) where
    two_rows : (i j : ℕ) → is_bound (at ts i) ≡ true → is_bound (at ts j) ≡ true → components (path_of (at ts i)) ≡ components (path_of (at ts j)) → i ≡ j
    two_rows i j b d k = go (each i) (each j)
      where
        go : Which i → Which j → i ≡ j
        go (inl x) (inl y) = x.0 ∙ sym y.0
        go (inl x) (inr y) = absurd (new (rw x.1 at b) j y.0 (rw y.1 at d) (rw (x.1, y.1) at k))
        go (inr x) (inl y) = absurd (new (rw y.1 at d) i x.0 (rw x.1 at b) (sym (rw (x.1, y.1) at k)))
        go (inr x) (inr y) = S.slots.apart i j (rw x.1 at b) (rw y.1 at d) (rw (x.1, y.1) at k)

    idle_rows : (j : ℕ) → In j q ⊎ In j ls → is_bound (at ts j) ≡ false
    idle_rows j m = go (each j) (is_bound r) refl
      where
        go : Which j → (t : Bool) → is_bound r ≡ t → is_bound (at ts j) ≡ false
        go (inl x) true b = absurd (out b (subst (λ (k : ℕ). In k q ⊎ In k ls) x.0 m))
        go (inl x) false b = ap is_bound x.1 ∙ b
        go (inr x) t b = ap is_bound x.1 ∙ S.aside.idle j m

    sound_row : length rs ≤ length ts → is_text (path_of r) ≡ true → length (path_of r) ≤ max_path → gen_of r < e → c ≤ e → Sound ts q ls ds e
    sound_row h t k g l =
        let r = S.slots in
        let a = S.aside in
        record {
          begun = omega (arith, S.begun);
          slots =
              record {
                text = all_rows (λ x. is_text (path_of x) ≡ true) t r.text;
                short = all_rows (λ x. length (path_of x) ≤ max_path) k r.short;
                apart = two_rows;
                young = all_rows (λ x. gen_of x < e) g (λ j. omega (arith, r.young j));
              };
          aside = record { inside = λ i m. omega (arith, a.inside i m); idle = idle_rows; once = a.once; lost = a.lost; other = a.other };
          directories = S.directories;
        }

  -- A row of zeros may stand anywhere.
  sound_none : r ≡ none → length rs ≤ length ts → c ≤ e → Sound ts q ls ds e
  unfolding is_bound path_of gen_of
  sound_none z h l =
      let f : is_bound r ≡ false = ap is_bound z in
      sound_row (λ b. absurd (false≢true (sym f ∙ b))) (λ b. absurd (false≢true (sym f ∙ b))) h (rw z (text_complete Text.none)) (rw z (omega arith)) (rw z (omega (arith, S.begun))) l

module _ (rs : List Row) (q ls : List ℕ) (ds : List (List ℕ)) (c : ℕ) (S : Sound rs q ls ds c) where
  -- no slot behind the rows is free or lost
  fresh : In (length rs) q ⊎ In (length rs) ls → ⊥
  fresh m = omega (arith, S.aside.inside (length rs) m)

  module _ (i : ℕ) (h : i < length rs) (b : is_bound (at rs i) ≡ false) (n : In i q ⊎ In i ls → ⊥) where
    abbrev AtMost : ℕ → Type 0
    AtMost j = (j < length rs) × (is_bound (at rs j) ≡ false)

    old : (j : ℕ) → In j q ⊎ In j ls → AtMost j
    old j m = (S.aside.inside j m, S.aside.idle j m)

    same : (j : ℕ) → j ≡ i → AtMost j
    same j e = (omega arith, ap (λ (k : ℕ). is_bound (at rs k)) e ∙ b)

    queue_one : (j : ℕ) → In j (q ++ (i ∷ [])) ⊎ In j ls → AtMost j
    queue_one j (inl m) = ⊎_elim (λ k. old j (inl k)) (same j) (snoc_in q i j m)
    queue_one j (inr m) = old j (inr m)

    lost_one : (j : ℕ) → In j q ⊎ In j (ls ++ (i ∷ [])) → AtMost j
    lost_one j (inl m) = old j (inl m)
    lost_one j (inr m) = ⊎_elim (λ k. old j (inr k)) (same j) (snoc_in ls i j m)

    -- One more free slot,
    sound_free : Sound rs (q ++ (i ∷ [])) ls ds c
    sound_free =
        let a = S.aside in
        record {
          begun = S.begun;
          slots = S.slots;
          aside =
              record {
                inside = λ j m. (queue_one j m).0;
                idle = λ j m. (queue_one j m).1;
                once = distinct_snoc i a.once (λ m. n (inl m));
                lost = a.lost;
                other = λ j m k. ⊎_elim (λ x. a.other j x k) (λ e. n (inr (subst (λ (x : ℕ). In x ls) e k))) (snoc_in q i j m);
              };
          directories = S.directories;
        }

    -- and one more loser.
    sound_lost : Sound rs q (ls ++ (i ∷ [])) ds c
    sound_lost =
        let a = S.aside in
        record {
          begun = S.begun;
          slots = S.slots;
          aside =
              record {
                inside = λ j m. (lost_one j m).0;
                idle = λ j m. (lost_one j m).1;
                once = a.once;
                lost = distinct_snoc i a.lost (λ m. n (inr m));
                other = λ j k m. ⊎_elim (λ x. a.other j k x) (λ e. n (inl (subst (λ (x : ℕ). In x q) e k))) (snoc_in ls i j m);
              };
          directories = S.directories;
        }

  sound_dirs : (p : List ℕ) → length p ≤ max_path → Sound rs q ls (registered ds p) c
  sound_dirs p h =
      let D = S.directories in
      record {
        begun = S.begun;
        slots = S.slots;
        aside = S.aside;
        directories =
            record {
              short = joined_short ds (ancestors p) D.short (ancestors_short p (omega (arith, normal_short p)));
              dirs = registered_dirs ds p D.dirs;
            };
      }

  -- A row of zeros behind the others, under this counter or a higher one.
  sound_blank : (e : ℕ) → c ≤ e → Sound (rs ++ (none ∷ [])) q ls ds e
  sound_blank e h = sound_none rs (rs ++ (none ∷ [])) q ls ds c e (length rs) none S (snoc_changed rs none) refl (omega (arith, length-append rs (none ∷ []))) h

  -- A newcomer whose path no row holds.
  sound_new : (p : List ℕ) (g n : ℕ) → (is_text p ≡ true) × (length p ≤ max_path) → ((j : ℕ) → is_bound (at rs j) ≡ true → components p ≡ components (path_of (at rs j)) → ⊥)
      → Sound (rs ++ (claim_row p g n ∷ [])) q ls ds (max c (suc g))
  unfolding path_of gen_of
  sound_new p g n s f =
      let r : Row = claim_row p g n in
      sound_row rs (rs ++ (r ∷ [])) q ls ds c (max c (suc g)) (length rs) r S (snoc_changed rs r) (λ b j ne. f j) (λ b. fresh) (omega (arith, length-append rs (r ∷ []))) s.0 s.1 (omega arith) (omega arith)

-- ---- one header more

-- A survey that began with the queue q.
abbrev pub Keeps : List ℕ → Survey → Type 0
Keeps q v = Sound v.rows (q ++ v.free) v.losers v.dirs v.counter

blank_unbound : (rs : List Row) → is_bound (at (rs ++ (none ∷ [])) (length rs)) ≡ false
unfolding is_bound
blank_unbound rs = ap is_bound (get_or-append_seam rs none [] none)

spare_keeps : (q : List ℕ) (a : ℕ) (v : Survey) → Keeps q v → Keeps q (spare a v)
spare_keeps q a v S =
    let rs : List Row = v.rows ++ (none ∷ []) in
    let T : Sound rs (q ++ v.free) v.losers v.dirs (max v.counter a) = sound_blank v.rows (q ++ v.free) v.losers v.dirs v.counter S (max v.counter a) (omega arith) in
    subst (λ (x : List ℕ). Sound rs x v.losers v.dirs (max v.counter a)) (append_assoc q v.free (length v.rows ∷ []))
    (sound_free rs (q ++ v.free) v.losers v.dirs (max v.counter a) T (length v.rows) (omega (arith, length-append v.rows (none ∷ []))) (blank_unbound v.rows)
    (fresh v.rows (q ++ v.free) v.losers v.dirs v.counter S))

module _ (p : List ℕ) (g n : ℕ) (s : (is_text p ≡ true) × (length p ≤ max_path)) (q : List ℕ) (v : Survey) (S : Keeps q v) where
  abbrev c : ℕ
  c = max v.counter (suc g)

  -- the newcomer loses
  behind_keeps : Keeps q (enter p g v.rows (length v.rows ∷ []) none v)
  behind_keeps =
      let rs : List Row = v.rows ++ (none ∷ []) in
      let T : Sound rs (q ++ v.free) v.losers v.dirs c = sound_blank v.rows (q ++ v.free) v.losers v.dirs v.counter S c (omega arith) in
      let U : Sound rs (q ++ v.free) (v.losers ++ (length v.rows ∷ [])) v.dirs c =
      sound_lost rs (q ++ v.free) v.losers v.dirs c T (length v.rows) (omega (arith, length-append v.rows (none ∷ []))) (blank_unbound v.rows)
      (fresh v.rows (q ++ v.free) v.losers v.dirs v.counter S) in
      sound_dirs rs (q ++ v.free) (v.losers ++ (length v.rows ∷ [])) v.dirs c U p s.1

  -- nobody holds the path
  held_by : (j : ℕ) → is_bound (at v.rows j) ≡ true → components p ≡ components (path_of (at v.rows j)) → holds p (at v.rows j) ≡ true
  held_by j b e = holds_path p (at v.rows j) b ∙ (same_path_lem (path_of (at v.rows j)) p).1 (sym e)

  new_keeps : is_bound (at v.rows (find p v.rows)) ≡ false → Keeps q (enter p g v.rows [] (claim_row p g n) v)
  new_keeps u =
      let rs : List Row = v.rows ++ (claim_row p g n ∷ []) in
      let T : Sound rs (q ++ v.free) v.losers v.dirs c = sound_new v.rows (q ++ v.free) v.losers v.dirs v.counter S p g n s (λ j b e. none_holds j (held_by j b e)) in
      subst (λ (x : List ℕ). Sound rs (q ++ v.free) x (registered v.dirs p) c) (sym (append-nil v.losers)) (sound_dirs rs (q ++ v.free) v.losers v.dirs c T p s.1)
    where
      far : length v.rows ≤ find p v.rows
      far = let k : find p v.rows < length v.rows → ⊥ = λ h. false≢true (sym u ∙ holds_bound p (at v.rows (find p v.rows)) (find_holds p v.rows h)) in omega (arith, k)

      none_holds : (j : ℕ) → holds p (at v.rows j) ≡ true → ⊥
      none_holds j h = false≢true (sym (find_none p v.rows j far) ∙ h)

  -- the holder loses
  ahead_keeps : is_bound (at v.rows (find p v.rows)) ≡ true → Keeps q (enter p g (set v.rows (find p v.rows) none) (find p v.rows ∷ []) (claim_row p g n) v)
  unfolding is_bound
  ahead_keeps b =
      let j : ℕ = find p v.rows in
      let i : j < length v.rows = bound_inside v.rows j b in
      let ts : List Row = set v.rows j none in
      let k : length ts ≡ length v.rows = length-set v.rows j none in
      let T : Sound ts (q ++ v.free) v.losers v.dirs v.counter =
      sound_none v.rows ts (q ++ v.free) v.losers v.dirs v.counter v.counter j none S (set_changed v.rows j none i) refl (omega arith) (omega arith) in
      let U : Sound ts (q ++ v.free) (v.losers ++ (j ∷ [])) v.dirs v.counter =
      sound_lost ts (q ++ v.free) v.losers v.dirs v.counter T j (omega arith) (cleared i) (λ m. false≢true (sym (S.aside.idle j m) ∙ b)) in
      let W : Sound (ts ++ (claim_row p g n ∷ [])) (q ++ v.free) (v.losers ++ (j ∷ [])) v.dirs c =
      sound_new ts (q ++ v.free) (v.losers ++ (j ∷ [])) v.dirs v.counter U p g n s (λ x bx e. nobody i x bx e (ℕ_discrete x j)) in
      sound_dirs (ts ++ (claim_row p g n ∷ [])) (q ++ v.free) (v.losers ++ (j ∷ [])) v.dirs c W p s.1
    where
      cleared : find p v.rows < length v.rows → is_bound (at (set v.rows (find p v.rows) none) (find p v.rows)) ≡ false
      cleared i = ap is_bound (get_or-set_same v.rows (find p v.rows) none none i) ∙ refl

      nobody : find p v.rows < length v.rows → (x : ℕ) → is_bound (at (set v.rows (find p v.rows) none) x) ≡ true
          → components p ≡ components (path_of (at (set v.rows (find p v.rows) none) x)) → Dec (x ≡ find p v.rows) → ⊥
      nobody i x bx e (yes z) = false≢true (sym (cleared i) ∙ ap (λ (y : ℕ). is_bound (at (set v.rows (find p v.rows) none) y)) (sym z) ∙ bx)
      nobody i x bx e (no z) =
          let a : at (set v.rows (find p v.rows) none) x ≡ at v.rows x = get_or-set_other v.rows (find p v.rows) x none none z in
          let h : components (path_of (at v.rows (find p v.rows))) ≡ components p =
          (same_path_lem (path_of (at v.rows (find p v.rows))) p).0 (sym (holds_path p (at v.rows (find p v.rows)) b) ∙ find_holds p v.rows i) in
          z (sym (S.slots.apart (find p v.rows) x b (rw a at bx) (h ∙ rw a at e)))

  claim_keeps : Keeps q (step (claim p g n) v)
  unfolding step is_bound
  claim_keeps = go (at v.rows (find p v.rows)) refl
    where
      rivals : (t : Bool) → is_bound (at v.rows (find p v.rows)) ≡ true → Keeps q (rival p g n (find p v.rows) t v)
      rivals true b = behind_keeps
      rivals false b = ahead_keeps b

      go : (r : Row) → at v.rows (find p v.rows) ≡ r → Keeps q (meet p g n (find p v.rows) r v)
      go (unbound h) e = new_keeps (ap is_bound e)
      go (bound t f) e = rivals (leb g f.gen) (ap is_bound e)

pub step_keeps : (q : List ℕ) (h : Head) (v : Survey) → Sane h → Keeps q v → Keeps q (step h v)
unfolding step
step_keeps q absent v s S = spare_keeps q 0 v S
step_keeps q (idle g) v s S = spare_keeps q (suc g) v S
step_keeps q (claim p g n) v s S = claim_keeps p g n s q v S

pub scan_keeps : (q : List ℕ) (hs : List Head) (v : Survey) → AllSane hs → Keeps q v → Keeps q (scan hs v)
unfolding scan
scan_keeps q [] v s S = S
scan_keeps q (h ∷ hs) v s S = scan_keeps q hs (step h v) s.1 (step_keeps q h v s.0 S)
