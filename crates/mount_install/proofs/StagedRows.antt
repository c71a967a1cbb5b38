-- Staged rows: registering and queueing, over lists.
use Prim.Native.Nat.{ℕ, suc, ◌+◌, ◌≤◌, ◌<◌}
use native.Mathlib.Omega.{arith}
use mathlib.Core.Path.{◌≡◌, refl, sym, ap, ◌∙◌}
use mathlib.Core.Bool.{Bool, true, false, cond}
use mathlib.Core.List.{List, [], ◌∷◌, ◌++◌, append_assoc, append-nil}
use lib.Dec.{leb}
use lib.ListN.{length, take, set, length-append, length-set}
use lib.Seq.{take_all, take-take, take_at}
use borrow.Author.Tests.{leb-true, leb-false, le-leb, lt-leb}
use Rattle.path.specs.Path.{ancestors}
use Rattle.path.proofs.Theorems.{normal_short}
use Rattle.slot_rows.specs.Rows.{Row, none, path_of}
use Rattle.slot_rows.specs.Rows as Rows
use Rattle.dir_rows.specs.Dirs.{Dirs, absent, joined, registered}
use Rattle.dir_rows.specs.Rows.{flat_dirs, Short}
use Rattle.dir_rows.proofs.Joined.{joined_short}
use Rattle.dir_rows.proofs.Registering.{length_registered, ancestors_short, registered_dirs}
use Rattle.pool_state.specs.declared.Pool.{Pool}
use Rattle.pool_state.specs.State.{State, pool_of}
use Rattle.pool_state.specs.Queue.{queued, pushed}
use Rattle.pool_state.specs.InBuffers.{push_pool}
use Rattle.std.specs.Prelude.{Option, None, Some}
use Rattle.mount_survey.specs.Staged.{claimed, vacated}
use Rattle.mount_install.specs.Install.{answered, kept, pushed_all}

-- ---- directories

-- Registering more never shrinks the list.
pub claimed_more : (rs : List Row) (ds : List (List ℕ)) → length ds ≤ length (claimed rs ds)
unfolding claimed
claimed_more [] ds = omega arith
claimed_more (r ∷ rs) ds = omega (arith, claimed_more rs (registered ds (path_of r)), length_registered ds (path_of r))

-- What was there stays in front.
pub claimed_front : (rs : List Row) (ds : List (List ℕ)) → take (length ds) (claimed rs ds) ≡ ds
unfolding claimed joined
claimed_front [] ds = take_all (length ds) ds (omega arith)
claimed_front (r ∷ rs) ds =
    let es : List (List ℕ) = registered ds (path_of r) in
    let h : length ds ≤ length es = omega (arith, length_registered ds (path_of r)) in
    sym (take-take (length ds) (length es) (claimed rs es) h) ∙ ap (take (length ds)) (claimed_front rs es) ∙ take_at ds (absent ds (ancestors (path_of r))) (length ds) refl

-- Directories of paths that fit a row fit a row,
pub claimed_short : (rs : List Row) (ds : List (List ℕ)) → Rows.Short rs → Short ds → Short (claimed rs ds)
unfolding claimed
claimed_short [] ds h s = s
claimed_short (r ∷ rs) ds h s =
    claimed_short rs (registered ds (path_of r)) (λ i. h (suc i)) (joined_short ds (ancestors (path_of r)) s (ancestors_short (path_of r) (omega (arith, normal_short (path_of r), h 0))))

-- and directories stay such as 01 asks for.
pub claimed_dirs : (rs : List Row) (ds : List (List ℕ)) → Dirs ds → Dirs (claimed rs ds)
unfolding claimed
claimed_dirs [] ds D = D
claimed_dirs (r ∷ rs) ds D = claimed_dirs rs (registered ds (path_of r)) (registered_dirs ds (path_of r) D)

-- There is room, or there is not.
pub answered_yes : (cap : ℕ) (ds : List (List ℕ)) → length ds ≤ cap → answered cap ds ≡ Some (length ds)
unfolding answered
answered_yes cap ds h = rw (le-leb (length ds) cap h)

pub answered_no : (cap : ℕ) (ds : List (List ℕ)) → cap < length ds → answered cap ds ≡ None
unfolding answered
answered_no cap ds h = rw (lt-leb (length ds) cap h)

pub kept_yes : (cap : ℕ) (ds : List (List ℕ)) (b : List ℕ) → length ds ≤ cap → kept cap ds b ≡ flat_dirs cap ds
unfolding kept
kept_yes cap ds b h = rw (le-leb (length ds) cap h)

pub kept_no : (cap : ℕ) (ds : List (List ℕ)) (b : List ℕ) → cap < length ds → kept cap ds b ≡ b
unfolding kept
kept_no cap ds b h = rw (lt-leb (length ds) cap h)

pub said_yes : (cap : ℕ) (ds : List (List ℕ)) (r : Option ℕ) (e : ℕ) → r ≡ answered cap ds → r ≡ Some e → (length ds ≤ cap) × (e ≡ length ds)
unfolding answered
said_yes cap ds r e t o = go (leb (length ds) cap) refl (sym o ∙ t)
  where
    go : (b : Bool) → leb (length ds) cap ≡ b → Some e ≡ cond b (Some (length ds)) None → (length ds ≤ cap) × (e ≡ length ds)
    go true f q = (leb-true (length ds) cap f, cc)
    go false f q = cc

pub said_no : (cap : ℕ) (ds : List (List ℕ)) (r : Option ℕ) → r ≡ answered cap ds → r ≡ None → cap < length ds
unfolding answered
said_no cap ds r t o = go (leb (length ds) cap) refl (sym o ∙ t)
  where
    go : (b : Bool) → leb (length ds) cap ≡ b → None ≡ cond b (Some (length ds)) None → cap < length ds
    go true f q = cc
    go false f q = leb-false (length ds) cap f

-- ---- the queue

-- The pool with these slots at the queue's end, in their order.
abbrev pub queued_all : List ℕ → State → State
queued_all is s = record { chosen = s.chosen; rows = s.rows; dirs = s.dirs; queue = s.queue ++ is; counter = s.counter }

pub push_all : (is : List ℕ) (s : State) (q : Pool) → q ≡ pool_of s → length s.queue + length is ≤ 64 → pushed_all is q ≡ pool_of (queued_all is s)
unfolding pushed_all queued
push_all [] s q e h = e ∙ rw (append-nil s.queue)
push_all (i ∷ is) s q e h =
    let k : length (s.queue ++ (i ∷ [])) ≡ length s.queue + 1 = length-append s.queue (i ∷ []) in
    push_all is (queued i s) (pushed i q) (push_pool s q e i (omega arith)) (omega arith) ∙ rw (append_assoc s.queue (i ∷ []) is)

-- ---- losers

pub length_vacated : (is : List ℕ) (rs : List Row) → length (vacated is rs) ≡ length rs
unfolding vacated
length_vacated [] rs = refl
length_vacated (i ∷ is) rs = length_vacated is (set rs i none) ∙ length-set rs i none
