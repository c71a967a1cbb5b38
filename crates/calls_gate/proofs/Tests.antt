-- The ways of the tests and of a refusal, over plain values.
use Prim.Native.Nat.{ℕ, ◌*◌, ◌/◌, ◌≤◌, ◌<◌}
use native.Mathlib.Omega.{arith}
use mathlib.Core.Path.{◌≡◌, refl, sym, ap, ◌∙◌}
use mathlib.Core.Bool.{Bool, true, false, cond, false≢true}
use mathlib.Core.List.{List}
use lib.Dec.{eqb, leb}
use lib.ListN.{length}
use borrow.Author.Tests.{le-leb, lt-leb, eq-eqb, ne_eqb, eqb-true}
use Rattle.std.specs.Prelude.{Option, None, Some}
use Rattle.limits.specs.Limits.{max_path, row_width, dir_width}
use Rattle.text.specs.Text.{is_text}
use Rattle.device.specs.declared.Geometry.{Geometry}
use Rattle.device.specs.declared.Place.{Place}
use Rattle.device.specs.Device.{shape_b}
use Rattle.pool_state.specs.declared.Pool.{Pool}
use Rattle.pool_state.specs.Numbers.{IsNumber}
use Rattle.pool_state.specs.State.{Bufs, bufs}
use Rattle.pool_test.specs.Test.{is_pool}
use Rattle.pool_steps.specs.World.{Lent}
use Rattle.pool_steps.proofs.Numbers.{either}
use Rattle.mount.specs.Mount.{zero_pool}
use Rattle.calls_gate.specs.declared.Answer.{Answer}
use Rattle.calls_gate.specs.declared.Answer.TheVariants.{TooSmall}
use Rattle.calls_gate.specs.declared.Call.{Call}
use Rattle.calls_gate.specs.declared.Reply.{Reply}
use Rattle.calls_gate.specs.declared.Takes.{Takes}
use Rattle.calls_gate.specs.Answers.{answer_of, refused_as}
use Rattle.calls_gate.specs.Replies.{silently}
use Rattle.calls_gate.specs.Table.{takes_of, rows_b, holds_pool, mountable, text_if, refusal_of, zeroed, refused_b}

-- ---- the answer of a number

-- A number that is none of the first thirteen.
pub none_before : (n : ℕ) → (n ≡ 0 → ⊥) → (n ≡ 1 → ⊥) → (n ≡ 2 → ⊥) → (n ≡ 3 → ⊥) → (n ≡ 4 → ⊥) → (n ≡ 5 → ⊥) → (n ≡ 6 → ⊥) → (n ≡ 7 → ⊥)
    → (n ≡ 8 → ⊥) → (n ≡ 9 → ⊥) → (n ≡ 10 → ⊥) → (n ≡ 11 → ⊥) → (n ≡ 12 → ⊥) → TooSmall ≡ answer_of n
unfolding answer_of
none_before n a b c d e f g h i j k l m =
    rw (
      ne_eqb n 0 a,
      ne_eqb n 1 b,
      ne_eqb n 2 c,
      ne_eqb n 3 d,
      ne_eqb n 4 e,
      ne_eqb n 5 f,
      ne_eqb n 6 g,
      ne_eqb n 7 h,
      ne_eqb n 8 i,
      ne_eqb n 9 j,
      ne_eqb n 10 k,
      ne_eqb n 11 l,
      ne_eqb n 12 m,
    )

-- how the test of the rows goes
module _ (l n s : List ℕ) where
  pub rows_many : 64 < length l / row_width → false ≡ rows_b l n s
  unfolding rows_b
  rows_many h = let z = lt-leb (length l / row_width) 64 h in rw z

  module _ (h : length l / row_width ≤ 64) where
    small : leb (length l / row_width) 64 ≡ true
    small = le-leb (length l / row_width) 64 h

    pub dirs_many : 256 < length s / dir_width → false ≡ rows_b l n s
    unfolding rows_b
    dirs_many k = let z = lt-leb (length s / dir_width) 256 k in rw (small, z)

    module _ (k : length s / dir_width ≤ 256) where
      dirs_small : leb (length s / dir_width) 256 ≡ true
      dirs_small = le-leb (length s / dir_width) 256 k

      pub nums_cut : (length l ≡ length l / row_width * row_width → ⊥) → false ≡ rows_b l n s
      unfolding rows_b
      nums_cut ne = let z = ne_eqb (length l) (length l / row_width * row_width) ne in rw (small, dirs_small, z)

      module _ (e : length l ≡ length l / row_width * row_width) where
        nums_whole : eqb (length l) (length l / row_width * row_width) ≡ true
        nums_whole = eq-eqb (length l) (length l / row_width * row_width) e

        pub names_differ : (length n ≡ length l / row_width * max_path → ⊥) → false ≡ rows_b l n s
        unfolding rows_b
        names_differ ne = let z = ne_eqb (length n) (length l / row_width * max_path) ne in rw (small, dirs_small, nums_whole, z)

        pub names_agree : length n ≡ length l / row_width * max_path → eqb (length s) (length s / dir_width * dir_width) ≡ rows_b l n s
        unfolding rows_b
        names_agree q = let z = eq-eqb (length n) (length l / row_width * max_path) q in rw (small, dirs_small, nums_whole, z)

-- ---- the tests

pub text_if_lem : (asked : Bool) (path : List ℕ) (t : Bool) → asked ≡ true → t ≡ is_text path → t ≡ text_if asked path
unfolding text_if
text_if_lem asked path t a e = rw a e

pub text_not : (asked : Bool) (path : List ℕ) → asked ≡ false → true ≡ text_if asked path
unfolding text_if
text_not asked path a = rw a

-- t is the row of the call c
module _ (g : Geometry) (c : Call) (one two : List ℕ) (l : Lent) (t : Takes) (et : t ≡ takes_of c) where
  abbrev no : ℕ
  no = refusal_of g c one two l

  row_mounts : (b : Bool) → t.mounts ≡ b → (takes_of c).mounts ≡ b
  row_mounts b h = ap (λ (x : Takes). x.mounts) (sym et) ∙ h

  module _ (m : t.mounts ≡ true) (u : Bool) (f : u ≡ shape_b g l.dev.bytes l.dev.phys) where
    pub mount_shape : u ≡ false → 2 ≡ no
    unfolding refusal_of mountable
    mount_shape k = let z : shape_b g l.dev.bytes l.dev.phys ≡ false = sym f ∙ k in rw (row_mounts true m, z)

    module _ (k : u ≡ true) (v : Bool) (h : v ≡ rows_b l.bufs.nums l.bufs.names l.bufs.dirs) where
      abbrev goes : shape_b g l.dev.bytes l.dev.phys ≡ true
      goes = sym f ∙ k

      pub mount_rows : v ≡ false → 2 ≡ no
      unfolding refusal_of mountable
      mount_rows i =
          let z : rows_b l.bufs.nums l.bufs.names l.bufs.dirs ≡ false = sym h ∙ i in rw (row_mounts true m, goes, z)

      pub mount_none : v ≡ true → 0 ≡ no
      unfolding refusal_of mountable
      mount_none i =
          let z : rows_b l.bufs.nums l.bufs.names l.bufs.dirs ≡ true = sym h ∙ i in rw (row_mounts true m, goes, z)

  module _ (m : t.mounts ≡ false) (p : Bool) (e : p ≡ is_pool l.bufs) where
    pub bars_record : p ≡ false → 1 ≡ no
    unfolding refusal_of
    bars_record h = let z : is_pool l.bufs ≡ false = sym e ∙ h in rw (row_mounts false m, z)

    module _ (h : p ≡ true) (u : Bool) (f : u ≡ shape_b g l.dev.bytes l.dev.phys) where
      is : is_pool l.bufs ≡ true
      is = sym e ∙ h

      pub bars_shape : u ≡ false → 2 ≡ no
      unfolding refusal_of holds_pool
      bars_shape k = let z : shape_b g l.dev.bytes l.dev.phys ≡ false = sym f ∙ k in rw (row_mounts false m, is, z)

      module _ (k : u ≡ true) where
        fits : shape_b g l.dev.bytes l.dev.phys ≡ true
        fits = sym f ∙ k

        pub bars_few : length l.dev.phys < l.bufs.pool.held → 2 ≡ no
        unfolding refusal_of holds_pool
        bars_few i = let z = lt-leb l.bufs.pool.held (length l.dev.phys) i in rw (row_mounts false m, is, fits, z)

        module _ (i : l.bufs.pool.held ≤ length l.dev.phys) (a : Bool) (ea : a ≡ text_if t.first one) where
          holds : holds_pool g l ≡ true
          unfolding holds_pool
          holds = let z = le-leb l.bufs.pool.held (length l.dev.phys) i in rw (fits, z)

          on_one : text_if (takes_of c).first one ≡ a
          on_one = ap (λ (x : Takes). text_if x.first one) (sym et) ∙ sym ea

          pub bars_first : a ≡ false → 3 ≡ no
          unfolding refusal_of
          bars_first y = let z : text_if (takes_of c).first one ≡ false = on_one ∙ y in rw (row_mounts false m, is, holds, z)

          module _ (y : a ≡ true) (b : Bool) (eb : b ≡ text_if t.second two) where
            on_two : text_if (takes_of c).second two ≡ b
            on_two = ap (λ (x : Takes). text_if x.second two) (sym et) ∙ sym eb

            first : text_if (takes_of c).first one ≡ true
            first = on_one ∙ y

            pub bars_second : b ≡ false → 3 ≡ no
            unfolding refusal_of
            bars_second x =
                let z : text_if (takes_of c).second two ≡ false = on_two ∙ x in rw (row_mounts false m, is, holds, first, z)

            pub bars_none : b ≡ true → 0 ≡ no
            unfolding refusal_of
            bars_none x =
                let z : text_if (takes_of c).second two ≡ true = on_two ∙ x in rw (row_mounts false m, is, holds, first, z)

-- ---- a refusal

-- A reply that tells nothing is known by its record.
pub silent_is : (r : Reply) (a b : Answer) (p : Place) (q : Pool) → r ≡ silently a p q → a ≡ b → r ≡ silently b p r.pool
silent_is r a b p q e f = e ∙ ap (λ (x : Answer). silently x p q) f ∙ ap (silently b p) (sym (ap (λ (x : Reply). x.pool) e))

module _ (c : Call) (t : Takes) (et : t ≡ takes_of c) (b : Bufs) (r : Reply) (a : Answer) (p : Place) (q : Pool)
    (e : r ≡ silently a p q) where
  pub refuses_mount : (m s d : List ℕ) → t.mounts ≡ true → q ≡ zero_pool → m ≡ zeroed b.nums → s ≡ zeroed b.names
      → d ≡ zeroed b.dirs → bufs r.pool m s d ≡ refused_b c b
  unfolding refused_b
  refuses_mount m s d h x y z w =
      let k : (takes_of c).mounts ≡ true = ap (λ (r : Takes). r.mounts) (sym et) ∙ h in
      let v : r.pool ≡ zero_pool = ap (λ (x : Reply). x.pool) e ∙ x in
      rw (k, v, y, z, w) refl

  pub refuses_other : t.mounts ≡ false → q ≡ b.pool → bufs r.pool b.nums b.names b.dirs ≡ refused_b c b
  unfolding refused_b
  refuses_other h x =
      let k : (takes_of c).mounts ≡ false = ap (λ (r : Takes). r.mounts) (sym et) ∙ h in
      let v : r.pool ≡ b.pool = ap (λ (x : Reply). x.pool) e ∙ x in
      rw (k, v) refl

-- The number of a refusal is one of 01's.
pub refusal_number : (g : Geometry) (c : Call) (one two : List ℕ) (l : Lent) → IsNumber (refusal_of g c one two l)
unfolding refusal_of
refusal_number g c one two l =
    let second = either IsNumber (text_if (takes_of c).second two) {x = 0} {y = 3} (omega arith) (omega arith) in
    let first = either IsNumber (text_if (takes_of c).first one) {y = 3} second (omega arith) in
    either IsNumber (takes_of c).mounts (either IsNumber (mountable g l) (omega arith) (omega arith))
    (either IsNumber (is_pool l.bufs) (either IsNumber (holds_pool g l) first (omega arith)) (omega arith))

-- a refusal that there is, and none
pub as_some : (n : ℕ) (r : Option Answer) (a : Answer) → r ≡ refused_as n → r ≡ Some a → (n ≡ 0 → ⊥) × (a ≡ answer_of n)
as_some n r a e f = go (eqb n 0) refl (sym f ∙ e)
  where
    go : (t : Bool) → eqb n 0 ≡ t → Some a ≡ cond t None (Some (answer_of n)) → (n ≡ 0 → ⊥) × (a ≡ answer_of n)
    go true q h = cc
    go false q h = (λ z. false≢true (sym q ∙ eq-eqb n 0 z), cc)

pub as_none : (n : ℕ) (r : Option Answer) → r ≡ refused_as n → r ≡ None → n ≡ 0
as_none n r e f = go (eqb n 0) refl (sym f ∙ e)
  where
    go : (t : Bool) → eqb n 0 ≡ t → None ≡ cond t None (Some (answer_of n)) → n ≡ 0
    go true q h = eqb-true n 0 q
    go false q h = cc
