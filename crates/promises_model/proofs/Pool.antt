-- The invariant of a pool, whatever fails (`Fit`): a step keeps it, a release keeps it, and so do adopt and mount. A loser is unbound as
-- soon as it is found, so a release changes no bound row, and no other slot's header: what fails in it doesn't matter here.
use Prim.Native.Nat.{ℕ, zero, suc, ◌+◌, ◌≤◌, ◌<◌}
use native.Mathlib.Omega.{arith}
use mathlib.Core.Path.{◌≡◌, refl, ap, sym, ◌∙◌}
use mathlib.Core.Logic.{◌⊎◌, inl, inr}
use mathlib.Core.Bool.{Bool, true, false}
use mathlib.Core.List.Memᴰ
use mathlib.Core.List.{List, [], ◌∷◌}
use lib.ListN.{length}
use Rattle.lists.specs.Distinct.{In, snoc_in}
use Rattle.promises_model.specs.Model.{Claim, Head, claim, Row, bound, Kit}
use Rattle.promises_model.specs.Model as M
use Rattle.promises_model.proofs.Invariant.{Holders, holders_move, holders_none, step_holders}
use Rattle.promises_model.proofs.Moves.{Unheld, Lost, Moves, step_moves, release_length, release_back, release_keeps}

-- `N` is the number of slots that the device has
module _ (K : Kit) (N : ℕ) where
  open K use {Path, Device, Has, head, fine, has_seen, has_free, keeps, sees}

  abbrev at : List (Row Path) → ℕ → Row Path
  at = M.row_at K

  -- holds throughout, whatever fails: `H` are the headers as they were, `ls` the losers not yet released
  pub record Fit (H : ℕ → Head Path) (s : M.State K) (ls : List ℕ) : Type 0 where
    pub holders : Holders K H s.rows
    pub has : Has s.device N
    pub room : length s.rows ≤ N
    pub ahead : (i : ℕ) → length s.rows ≤ i → i < N → head s.device i ≡ H i
    pub listed : (i : ℕ) → In i ls → (i < length s.rows) × Unheld K s.rows i
    pub claimed : (i : ℕ) → In i ls → (c : Claim Path) × (H i ≡ claim c)
    pub queued : (i : ℕ) → In i s.queue → (i < length s.rows) × Unheld K s.rows i

  module _ (H : ℕ → Head Path) (s : M.State K) (h : Head Path) (e : H (length s.rows) ≡ h) where
    abbrev t : M.State K
    t = M.step K s h

    abbrev mv : Moves K s h t
    mv = step_moves K s h

    step_fit : length s.rows < N → Fit H s s.losers → Fit H t t.losers
    step_fit more F =
        record {
          holders = step_holders K H s h e F.holders;
          has = rw mv.device F.has;
          room = omega (arith, mv.size);
          ahead = λ i l u. rw mv.device (F.ahead i (omega (arith, mv.size)) u);
          listed = λ i k. listed i (mv.lost_new i k);
          claimed = λ i k. claimed i (mv.lost_new i k);
          queued = λ i k. queued i (mv.queue_new i k);
        }
      where
        still : (i : ℕ) → (i < length s.rows) × Unheld K s.rows i → (i < length t.rows) × Unheld K t.rows i
        still i u = (omega (arith, mv.size), λ c k. no_way c (mv.back i c k))
          where
            no_way : (c : Claim Path) → (at s.rows i ≡ bound c) ⊎ (i ≡ length s.rows) → ⊥
            no_way c (inl v) = u.1 c v
            no_way c (inr v) = omega arith

        listed : (i : ℕ) → In i s.losers ⊎ ((i ≤ length s.rows) × Unheld K t.rows i × Lost K s h i) → (i < length t.rows) × Unheld K t.rows i
        listed i (inl k) = still i (F.listed i k)
        listed i (inr k) = (omega (arith, mv.size), k.1)

        claimed : (i : ℕ) → In i s.losers ⊎ ((i ≤ length s.rows) × Unheld K t.rows i × Lost K s h i) → (c : Claim Path) × (H i ≡ claim c)
        claimed i (inl k) = F.claimed i k
        claimed i (inr k) = (k.2.0, from k.2.1)
          where
            from : (at s.rows i ≡ bound k.2.0) ⊎ ((i ≡ length s.rows) × (h ≡ claim k.2.0)) → H i ≡ claim k.2.0
            from (inl u) = F.holders.sound i k.2.0 u
            from (inr u) = ap H u.0 ∙ (e ∙ u.1)

        queued : (i : ℕ) → In i s.queue ⊎ ((i ≡ length s.rows) × Unheld K t.rows i) → (i < length t.rows) × Unheld K t.rows i
        queued i (inl k) = still i (F.queued i k)
        queued i (inr k) = (omega (arith, mv.size), k.1)

  -- a release of the first pending loser, which is one of the device's slots
  pub inside : {H : ℕ → Head Path} {s : M.State K} {i : ℕ} {ls : List ℕ} → Fit H s (i ∷ ls) → i < N
  inside {H} {s} {i} F = omega (arith, (F.listed i (Memᴰ.head refl)).0, F.room)

  module _ (H : ℕ → Head Path) (s : M.State K) (i : ℕ) (ls : List ℕ) (F : Fit H s (i ∷ ls)) where
    pub release_fit : Fit H (M.release K s i) ls
    unfolding M.release
    release_fit =
        record {
          holders = holders_move K s.rows t.rows size (release_keeps K s i (F.listed i (Memᴰ.head refl)).1) (release_back K s i) F.holders;
          has = has_free s.device N i s.counter F.has (inside F);
          room = omega (arith, size, F.room);
          ahead = λ j l u. keeps s.device N i s.counter j F.has (inside F) u (λ e. omega (arith, size, (F.listed i (Memᴰ.head refl)).0)) ∙ F.ahead j (omega (arith, size)) u;
          listed = λ j k. still j (F.listed j (Memᴰ.tail k));
          claimed = λ j k. F.claimed j (Memᴰ.tail k);
          queued = λ j k. queued j (fine s.device i s.counter) k;
        }
      where
        t : M.State K
        t = M.release K s i

        size : length t.rows ≡ length s.rows
        size = release_length K s i

        still : (j : ℕ) → (j < length s.rows) × Unheld K s.rows j → (j < length t.rows) × Unheld K t.rows j
        still j u = (omega (arith, size), λ c k. u.1 c (release_back K s i j c k))

        join : (j : ℕ) → In j s.queue ⊎ (j ≡ i) → (j < length t.rows) × Unheld K t.rows j
        join j (inl k) = still j (F.queued j k)
        join j (inr e) = still j (rw e (F.listed i (Memᴰ.head refl)))

        queued : (j : ℕ) (b : Bool) → In j (M.joins K b s.queue i) → (j < length t.rows) × Unheld K t.rows j
        queued j true k = join j (snoc_in s.queue i j k)
        queued j false k = still j (F.queued j k)

  -- a scan, k slots far
  pub record Scanned (H : ℕ → Head Path) (w : Device) (k : ℕ) (s : M.State K) : Type 0 where
    pub fit : Fit H s s.losers
    pub device : (i : ℕ) → head s.device i ≡ head w i
    pub size : length s.rows ≡ k

  module _ (H : ℕ → Head Path) (w : Device) where
    abbrev next_head : M.State K → Head Path
    next_head u = head w (length u.rows)

    pub scan_fit : (n k : ℕ) (s : M.State K) → k + n ≤ N → Scanned H w k s → Scanned H w (k + n) (M.scan K (head w) n s)
    unfolding M.scan
    scan_fit zero k s more S = record { fit = S.fit; device = S.device; size = omega arith }
    scan_fit (suc n) k s more S = go (M.scan K (head w) n s) (scan_fit n k s (omega arith) S)
      where
        go : (u : M.State K) → Scanned H w (k + n) u → Scanned H w (k + suc n) (M.step K u (next_head u))
        go u T =
            let m = step_moves K u (next_head u) in
            record {
              fit = step_fit H u (next_head u) (sym (T.fit.ahead (length u.rows) (omega arith) (omega (arith, T.size))) ∙ T.device (length u.rows)) (omega (arith, T.size)) T.fit;
              device = λ i. rw m.device (T.device i);
              size = omega (arith, m.size);
            }

  drain_fit : (H : ℕ → Head Path) (ls : List ℕ) (s : M.State K) → Fit H s ls → Fit H (M.drain K ls s) []
  unfolding M.drain
  drain_fit H [] s F = F
  drain_fit H (i ∷ is) s F = drain_fit H is (M.release K s i) (release_fit H s i is F)

  pub drain_length : (ls : List ℕ) (s : M.State K) → length (M.drain K ls s).rows ≡ length s.rows
  unfolding M.drain
  drain_length [] s = refl
  drain_length (i ∷ is) s = drain_length is (M.release K s i) ∙ release_length K s i

  -- a pool of k slots over the headers H
  pub record Pool (H : ℕ → Head Path) (k : ℕ) (s : M.State K) : Type 0 where
    pub fit : Fit H s []
    pub size : length s.rows ≡ k

  pub empty_pool : (w : Device) → Has w N → Pool (head w) 0 (M.empty K w)
  empty_pool w has =
      record {
        fit =
            record {
              holders = holders_none K (head w);
              has = has;
              room = omega arith;
              ahead = λ i l u. refl;
              listed = λ i k. absurd (Memᴰ.not-nil k);
              claimed = λ i k. absurd (Memᴰ.not-nil k);
              queued = λ i k. absurd (Memᴰ.not-nil k);
            };
        size = refl;
      }

  module _ (H : ℕ → Head Path) (n k : ℕ) (s : M.State K) (p : Pool H k s) (more : k + n ≤ N) where
    pub read_fit : Scanned H s.device k (M.read_all K n s)
    read_fit =
        record {
          fit =
              record {
                holders = p.fit.holders;
                has = has_seen _ _ _ _ p.fit.has;
                room = p.fit.room;
                ahead = λ i l u. sees _ _ _ i ∙ p.fit.ahead i l u;
                listed = p.fit.listed;
                claimed = p.fit.claimed;
                queued = p.fit.queued;
              };
          device = λ i. sees _ _ _ i;
          size = p.size;
        }

    pub survey_fit : Scanned H s.device (k + n) (M.survey K n s)
    unfolding M.survey
    survey_fit = scan_fit H s.device n k (M.read_all K n s) more read_fit

    pub adopt_pool : Pool H (k + n) (M.adopt K n s)
    unfolding M.adopt
    adopt_pool =
        let t = M.survey K n s in
        record { fit = drain_fit H t.losers t survey_fit.fit; size = drain_length t.losers t ∙ survey_fit.size }

  pub mount_pool : (n : ℕ) (w : Device) → Has w N → n ≤ N → Pool (head w) n (M.mount K n w)
  unfolding M.mount
  mount_pool n w has more =
      let p = adopt_pool (head w) n 0 (M.empty K w) (empty_pool w has) (omega arith) in
      record { fit = p.fit; size = omega (arith, p.size) }

  -- A property of the state and of the losers not yet released that a step and a release keep is kept by adopt.
  -- `Each` says of the releases still to come what the property needs of them: that none fails, or nothing.
  module _ (H : ℕ → Head Path) (Each : List ℕ → M.State K → Type 0) (Q : M.State K → List ℕ → Type 0) where
    pub record Steady : Type 0 where
      pub reads : (n : ℕ) (s : M.State K) → Q s [] → Q (M.read_all K n s) []
      pub steps : (s : M.State K) (h : Head Path) → H (length s.rows) ≡ h → head s.device (length s.rows) ≡ h → Fit H s s.losers
          → Q s s.losers → Q (M.step K s h) (M.step K s h).losers
      pub releases : (s : M.State K) (i : ℕ) (ls : List ℕ) → Fit H s (i ∷ ls) → Each (i ∷ ls) s → Q s (i ∷ ls) → Q (M.release K s i) ls
      pub later : (s : M.State K) (i : ℕ) (ls : List ℕ) → Each (i ∷ ls) s → Each ls (M.release K s i)

    module _ (S : Steady) where
      scan_steady : (w : Device) (n k : ℕ) (s : M.State K) → k + n ≤ N → Scanned H w k s → Q s s.losers → Q (M.scan K (head w) n s) (M.scan K (head w) n s).losers
      unfolding M.scan
      scan_steady w zero k s more T q = q
      scan_steady w (suc n) k s more T q =
          let u = M.scan K (head w) n s in
          let F = scan_fit H w n k s (omega arith) T in
          let here = F.device (length u.rows) in
          S.steps u (next_head H w u) (sym (F.fit.ahead (length u.rows) (omega arith) (omega (arith, F.size))) ∙ here) here F.fit (scan_steady w n k s (omega arith) T q)

      drain_steady : (ls : List ℕ) (s : M.State K) → Fit H s ls → Each ls s → Q s ls → Q (M.drain K ls s) []
      unfolding M.drain
      drain_steady [] s F e q = q
      drain_steady (i ∷ is) s F e q = drain_steady is (M.release K s i) (release_fit H s i is F) (S.later s i is e) (S.releases s i is F e q)

      module _ (n k : ℕ) (s : M.State K) (p : Pool H k s) (more : k + n ≤ N) (q : Q s []) where
        pub survey_steady : Q (M.survey K n s) (M.survey K n s).losers
        unfolding M.survey
        survey_steady = scan_steady s.device n k (M.read_all K n s) more (read_fit H n k s p more) (S.reads n s q)

        pub adopt_steady : Each (M.survey K n s).losers (M.survey K n s) → Q (M.adopt K n s) []
        unfolding M.adopt
        adopt_steady e = drain_steady (M.survey K n s).losers (M.survey K n s) (survey_fit H n k s p more).fit e survey_steady
