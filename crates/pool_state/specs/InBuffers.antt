-- Pools and their buffers: the view of a flat form, what a pool's buffers are, and what the queue's calls make of them.
use Rattle.std.specs.Prelude.{ℕ, suc, ◌+◌, ◌-◌, ◌≤◌, ◌<◌, ◌≡◌, refl, List, [], ◌∷◌, ◌++◌, false, take, drop, get_or, replicate}
use Rattle.std.proofs.Common.{sym, ap₂, ◌∙◌, subst, append_assoc, arith, add-one, take-suc-set}
use Rattle.std.proofs.Math.Path.{ap}
use Rattle.std.proofs.Math.Logic.{⊎_elim}
use mathlib.Core.List.Memᴰ
use Rattle.std.proofs.Math.ListN.{length, length-append}
use Rattle.std.proofs.lemmas.List.{replicate-append-replicate, take-append-le}
use Rattle.limits.specs.Limits.{last_counter}
use Rattle.lists.specs.Blocks.{pad, pad_fits, take_pad, snoc_pad}
use Rattle.lists.specs.Distinct.{In, Distinct, snoc_in, distinct_snoc, distinct_below}
use Rattle.lists.specs.Distinct.Distinct.{none, more}
use Rattle.slot_rows.specs.Rows.{at, is_bound, rows_of, flat_nums, flat_names, Flat}
use Rattle.slot_rows.proofs.InBuffers.{rows_flat, length_rows}
use Rattle.dir_rows.specs.Rows.{dirs_of, flat_dirs, FlatDirs}
use Rattle.dir_rows.proofs.InBuffer.{dirs_flat, length_dirs}
use Rattle.pool_state.specs.declared.Pool.{Pool}
use Rattle.pool_state.specs.State.{State, Valid, Bufs, bufs, queue_of, view, pool_of, flat, IsPool}
use Rattle.pool_state.specs.Queue.{queued, unqueued, spent, pushed, shifted, popped, ticked}

-- ---- a state and its buffers

-- The queue is no longer than the slots held,
pub queue_few : (s : State) → Valid s → length s.queue ≤ length s.rows
queue_few s ok = distinct_below (length s.rows) s.queue ok.waiting.once ok.waiting.inside

-- and fits the record.
pub queue_fits : (s : State) → Valid s → length s.queue ≤ 64
queue_fits s ok = omega (arith, queue_few s ok, ok.counts.few, ok.counts.small)

-- There is room for a slot that is not in the queue.
pub queue_room : (s : State) (i : ℕ) → Valid s → i < length s.rows → (In i s.queue → ⊥) → length s.queue < 64
queue_room s i ok h n =
    let k : suc (length s.queue) ≤ length s.rows = distinct_below (length s.rows) (i ∷ s.queue) (more n ok.waiting.once) within in
    omega (arith, ok.counts.few, ok.counts.small)
  where
    within : (x : ℕ) → In x (i ∷ s.queue) → x < length s.rows
    within x (Memᴰ.head e) = omega arith
    within x (Memᴰ.tail m) = ok.waiting.inside x m

-- The queue of a state's record is the state's.
pub queue_back : (s : State) → length s.queue ≤ 64 → queue_of (pool_of s) ≡ s.queue
unfolding queue_of pool_of
queue_back s h = take_pad 64 s.queue h

-- The buffers that hold a state hold this state.
pub view_flat : (s : State) → Valid s → view (flat s) ≡ s
unfolding view flat pool_of
view_flat s ok =
    rw (
      rows_flat s.chosen.rows s.rows ok.counts.few ok.slots.short,
      dirs_flat s.chosen.dir_rows s.dirs ok.counts.dirs_few ok.directories.short,
      queue_back s (queue_fits s ok),
    )

-- Buffers that hold a valid state, and nothing else, are a pool, and this state is their view.
pub is_pool_lem : (s : State) (b : Bufs) → Valid s → b ≡ flat s → (view b ≡ s) × IsPool b
is_pool_lem s b ok e =
    let v : view b ≡ s = ap view e ∙ view_flat s ok in
    (v, record { canon = ap flat v ∙ sym e; valid = subst Valid (sym v) ok })

-- Two calls in a row: what the second makes of its view, it makes of the first one's state.
pub chain : {A : Type 0} (s : State) (b : Bufs) (c : A) (f : State → A) → Valid s → b ≡ flat s → c ≡ f (view b) → c ≡ f s
chain s b c f ok e h = h ∙ ap f (is_pool_lem s b ok e).0

-- ---- the parts of a pool

module _ (b : Bufs) (P : IsPool b) where
  pub pool_canon : pool_of (view b) ≡ b.pool
  unfolding flat
  pool_canon = ap (λ (x : Bufs). x.pool) P.canon

  pub pool_rows : Flat b.pool.chosen.rows b.pool.held b.nums b.names
  unfolding flat view
  pool_rows = record {
    few = omega (arith, P.valid.counts.few, length_rows b.nums b.names b.pool.held);
    nums = ap (λ (x : Bufs). x.nums) P.canon;
    names = ap (λ (x : Bufs). x.names) P.canon;
    short = P.valid.slots.short;
  }

  pub pool_dirs : FlatDirs b.pool.chosen.dir_rows b.pool.dirs b.dirs
  unfolding flat view
  pool_dirs = record {
    few = omega (arith, P.valid.counts.dirs_few, length_dirs b.dirs b.pool.dirs);
    flat = ap (λ (x : Bufs). x.dirs) P.canon;
  }

-- Buffers put together again: the record is that of the state, and the rows are flat and hold its rows.
pub together : (s : State) (q : Pool) (l n d : List ℕ) → q ≡ pool_of s
    → rows_of l n q.held ≡ s.rows → Flat q.chosen.rows q.held l n
    → dirs_of d q.dirs ≡ s.dirs → FlatDirs q.chosen.dir_rows q.dirs d
    → bufs q l n d ≡ flat s
unfolding flat pool_of
together s q l n d e r F t G =
    let c : q.chosen.rows ≡ s.chosen.rows = ap (λ (x : Pool). x.chosen.rows) e in
    let k : q.chosen.dir_rows ≡ s.chosen.dir_rows = ap (λ (x : Pool). x.chosen.dir_rows) e in
    let x : l ≡ flat_nums s.chosen.rows s.rows = sym F.nums ∙ ap₂ flat_nums c r in
    let y : n ≡ flat_names s.chosen.rows s.rows = sym F.names ∙ ap₂ flat_names c r in
    let z : d ≡ flat_dirs s.chosen.dir_rows s.dirs = sym G.flat ∙ ap₂ flat_dirs k t in
    rw (e, x, y, z)

-- ---- the queue and the counter, in the record

-- The slot that joins is the last of the queue,
pub push_view : (q : Pool) (i : ℕ) → q.free < length q.queue → queue_of (pushed i q) ≡ queue_of q ++ (i ∷ [])
unfolding queue_of pushed
push_view q i h = rw add-one (take-suc-set q.queue q.free i h)

take_shift : (l : List ℕ) (k : ℕ) → k < length l → take k (shifted l) ≡ drop 1 (take (suc k) l)
unfolding shifted
take_shift [] k h = absurd (omega arith)
take_shift (x ∷ l) k h = take-append-le k l (0 ∷ []) (omega arith)

-- and the one that leaves was the first.
pub pop_view : (q : Pool) → 0 < q.free → q.free ≤ length q.queue → queue_of (popped q).pool ≡ drop 1 (queue_of q)
unfolding queue_of popped
pop_view q h k =
    let e : q.free ≡ suc (q.free - 1) = omega arith in
    take_shift q.queue (q.free - 1) (omega arith) ∙ ap (λ (n : ℕ). drop 1 (take n q.queue)) (sym e)

pub shift_pad : (w : ℕ) (l : List ℕ) → 0 < length l → length l ≤ w → shifted (pad w l) ≡ pad w (drop 1 l)
unfolding shifted
shift_pad w [] p h = absurd (omega arith)
shift_pad w (x ∷ l) p h =
    let z : w - suc (length l) + 1 ≡ w - length l = omega arith in
    ap shifted (pad_fits w (x ∷ l) h)
    ∙ append_assoc l (replicate (w - suc (length l)) 0) (0 ∷ [])
    ∙ ap (λ (t : List ℕ). l ++ t) (replicate-append-replicate {A = ℕ} (w - suc (length l)) 1 0 ∙ ap (λ (n : ℕ). replicate n 0) z)
    ∙ sym (pad_fits w l (omega arith))

module _ (s : State) (q : Pool) (e : q ≡ pool_of s) where
  pub push_pool : (i : ℕ) → length s.queue < 64 → pushed i q ≡ pool_of (queued i s)
  unfolding pushed pool_of queued
  push_pool i h =
      let n : length (s.queue ++ (i ∷ [])) ≡ length s.queue + 1 = length-append s.queue (i ∷ []) in
      rw (e, n, snoc_pad 64 s.queue i h)

  pub spend_pool : ticked q ≡ pool_of (spent s)
  unfolding ticked pool_of spent
  spend_pool = rw e

-- ---- and in the buffers

module _ (s : State) (b : Bufs) (e : b ≡ flat s) where
  record_of : b.pool ≡ pool_of s
  unfolding flat
  record_of = ap (λ (x : Bufs). x.pool) e

  pub push_flat : (i : ℕ) → length s.queue < 64 → bufs (pushed i b.pool) b.nums b.names b.dirs ≡ flat (queued i s)
  unfolding flat queued
  push_flat i h = rw (push_pool s b.pool record_of i h, e)

  pub spend_flat : bufs (ticked b.pool) b.nums b.names b.dirs ≡ flat (spent s)
  unfolding flat spent
  spend_flat = rw (spend_pool s b.pool record_of, e)

-- ---- a pool stays a pool

module _ (s : State) (ok : Valid s) where
  -- the first of the queue is in it,
  pub first_in : 0 < length s.queue → In (get_or s.queue 0 0) s.queue
  first_in h = go s.queue h
    where
      go : (q : List ℕ) → 0 < length q → In (get_or q 0 0) q
      go [] h = absurd (omega arith)
      go (x ∷ q) h = Memᴰ.head refl

  -- and once only
  pub first_gone : 0 < length s.queue → In (get_or s.queue 0 0) (drop 1 s.queue) → ⊥
  first_gone h m = go s.queue ok.waiting.once h m
    where
      go : (q : List ℕ) → Distinct q → 0 < length q → In (get_or q 0 0) (drop 1 q) → ⊥
      go [] d h m = omega arith
      go (x ∷ q) (more f d) h m = f m

  pub queued_valid : (i : ℕ) → i < length s.rows → is_bound (at s.rows i) ≡ false → (In i s.queue → ⊥) → Valid (queued i s)
  unfolding queued
  queued_valid i h f n =
      let w = ok.waiting in
      record {
        counts = ok.counts;
        slots = ok.slots;
        waiting =
            record {
              inside = λ x m. ⊎_elim (w.inside x) (λ e. omega arith) (snoc_in s.queue i x m);
              idle = λ x m. ⊎_elim (w.idle x) (λ e. ap (λ (j : ℕ). is_bound (at s.rows j)) e ∙ f) (snoc_in s.queue i x m);
              once = distinct_snoc i w.once n;
            };
        directories = ok.directories;
      }

  in-drop : (q : List ℕ) (x : ℕ) → In x (drop 1 q) → In x q
  in-drop [] x m = m
  in-drop (y ∷ q) x m = Memᴰ.tail m

  once_drop : (q : List ℕ) → Distinct q → Distinct (drop 1 q)
  once_drop [] d = none
  once_drop (y ∷ q) (more f d) = d

  pub unqueued_valid : Valid (unqueued s)
  unfolding unqueued
  unqueued_valid =
      let w = ok.waiting in
      record {
        counts = ok.counts;
        slots = ok.slots;
        waiting =
            record {
              inside = λ x m. w.inside x (in-drop s.queue x m);
              idle = λ x m. w.idle x (in-drop s.queue x m);
              once = once_drop s.queue w.once;
            };
        directories = ok.directories;
      }

  pub spent_valid : s.counter < last_counter → Valid (spent s)
  unfolding spent
  spent_valid h =
      let n = ok.counts in
      let r = ok.slots in
      record {
        counts =
            record {
              small = n.small;
              dirs_small = n.dirs_small;
              few = n.few;
              dirs_few = n.dirs_few;
              begun = omega arith;
              counted = omega arith;
            };
        slots = record { text = r.text; short = r.short; apart = r.apart; young = λ i. omega (arith, r.young i) };
        waiting = ok.waiting;
        directories = ok.directories;
      }
