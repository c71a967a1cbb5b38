-- The ways out of what answers a request, where the definitions, opened, do not show them; and how long a body is that is whole.
use Rattle.std.specs.Prelude.{None, Option, Some}
use Prim.Native.Nat.{ℕ, ◌+◌, ◌-◌, ◌<◌, ◌≤◌}
use mathlib.Core.Path.{◌≡◌, refl, sym, ap, ap₂, ◌∙◌}
use mathlib.Core.Bool.{Bool, true, false, cond}
use mathlib.Core.List.{List, [], ◌++◌}
use native.Mathlib.Nat.{zero-add}
use native.Mathlib.Omega.{arith}
use borrow.Author.Tests.{lt-ltb, le-ltb, eq-eqb, ne_eqb, ltb-false}
use lib.ListN.{length, take, drop, get_or, replicate, length-append, length-take, length-drop}
use lib.Seq.{take_all, take-length}
use lib.Dec.{ltb}
use Rattle.le.specs.Le.{le, field, laid}
use Rattle.le.proofs.Fields.{length_le}
use Rattle.le.proofs.Parts.{length_mid, mid_back, copy_back, laid_nothing, laid_front, laid_before}
use Rattle.harness.specs.Calls.{Outcome, outcome}
use Rattle.served.specs.Requests.{Export, most_lent, plain_in, lent_in, two_in, export_of}
use Rattle.served.specs.Requests.{answer_for, answer_to, fitting, fronted, answered, frame, framed}
use Rattle.served.specs.Answers.{Bounded, export_bounded, length_answer, answers_short}

-- ---- a body that is whole is long enough

none : {n : ℕ} → None ≡ Some n → ⊥
none e = let z : ◌≡◌ {A = ℕ} 0 1 = cc in omega arith

-- a test that was passed, from what it gave
passed : (a b : ℕ) (x : Option ℕ) {n : ℕ} → cond (ltb a b) None x ≡ Some n → b ≤ a
passed a b x {n} e = go (ltb a b) refl e
  where
    go : (t : Bool) → ltb a b ≡ t → cond t None x ≡ Some n → b ≤ a
    go true f e = absurd (none e)
    go false f e = ltb-false a b f

pub plain_long : (k : ℕ) (body : List ℕ) {n : ℕ} → plain_in k body ≡ Some n → k ≤ length body
unfolding plain_in
plain_long k body e = passed (length body) k (Some 0) e

pub lent_long : (at : ℕ) (body : List ℕ) {n : ℕ} → lent_in at body ≡ Some n → at + 4 ≤ length body
unfolding lent_in
lent_long at body e = passed (length body) (at + 4) _ e

pub two_long : (body : List ℕ) {n : ℕ} → two_in body ≡ Some n → 4 + field body 0 4 ≤ length body
unfolding two_in
two_long body e =
    let h : 4 ≤ length body = passed (length body) 4 _ e in
    let l : field body 0 4 ≤ length body - 4 = passed (length body - 4) (field body 0 4) (Some 0) (rw (le-ltb (length body) 4 h) at e) in
    omega arith

-- ---- bodies taken apart

-- `&s[a..]` is all from a on
pub from_on : (a : ℕ) (s : List ℕ) → take (length s - a) (drop a s) ≡ drop a s
from_on a s = take_all (length s - a) (drop a s) (rw length-drop (omega arith))

-- ---- the answer

module _ (request out : List ℕ) where
  pub empty_answer : answer_to request ≡ [] → outcome 0 out ≡ answered request out
  unfolding answered fitting
  empty_answer e = sym (ap (outcome 0) (laid_nothing out 0)) ∙ rw (e, le-ltb (length out) 0 (omega arith))

  pub crowded_answer : length out < length (answer_to request) → outcome 0 out ≡ answered request out
  unfolding answered fitting
  crowded_answer h = sym (ap (outcome 0) (laid_nothing out 0)) ∙ rw (lt-ltb (length out) (length (answer_to request)) h)

  pub fitting_answer : (s : List ℕ) → answer_to request ≡ s → length s ≤ length out → fronted s out ≡ answered request out
  unfolding answered fitting
  fitting_answer s e h = rw (e, le-ltb (length out) (length s) h)

  pub nothing_asked : length request ≡ 0 → outcome 0 out ≡ answered request out
  unfolding answer_to
  nothing_asked e = empty_answer (rw (eq-eqb (length request) 0 e))

  module _ (h : length request ≡ 0 → ⊥) where
    abbrev pub x : Export
    x = export_of (get_or request 0 0)

    abbrev pub body : List ℕ
    body = take (length request - 1) (drop 1 request)

    answer_is : {f : Option ℕ} → f ≡ x.lends body → answer_to request ≡ answer_for x (drop 1 request) f
    unfolding answer_to
    answer_is e =
        rw (ne_eqb (length request) 0 h)
        (ap (answer_for x (drop 1 request)) (sym (e ∙ ap x.lends (from_on 1 request))))

    pub not_whole : {f : Option ℕ} → f ≡ x.lends body → f ≡ None → outcome 0 out ≡ answered request out
    not_whole e g = empty_answer (answer_is (sym g ∙ e))

    module _ {f : Option ℕ} {n w : ℕ} (e : f ≡ x.lends body) (g : f ≡ Some n) (v : w ≡ x.width) where
      bounded : Bounded x
      bounded = export_bounded (get_or request 0 0)

      answer_of_lem : answer_to request ≡ answer_for x (drop 1 request) (Some n)
      answer_of_lem = answer_is (sym g ∙ e)

      long : length (answer_to request) ≡ w + n
      long = ap length answer_of_lem ∙ length_answer x bounded (drop 1 request) n ∙ ap (λ (k : ℕ). k + n) (sym v)

      pub end_fits : w + n ≤ 8 + most_lent
      end_fits = omega (arith, v, bounded.narrow, bounded.few body n (sym e ∙ g))

      pub no_room : length out < w + n → outcome 0 out ≡ answered request out
      no_room l = crowded_answer (omega (arith, long))

      module _ (l : w + n ≤ length out) where
        pub lent_part : x.lends body ≡ Some (length (take (w + n - w) (drop w out)))
        lent_part = sym e ∙ g ∙ ap Some (sym (length_mid w n out l))

        pub whole_answer : {r : ℕ} {ys o : List ℕ} → outcome r ys ≡ x.comes body (replicate (length (take (w + n - w) (drop w out))) 170)
            → o ≡ laid (take w out ++ (ys ++ drop (w + n - w) (drop w out))) 0 (le w r) → outcome (w + n) o ≡ answered request out
        whole_answer {r} {ys} {o} f i =
            let c : Outcome = x.comes (drop 1 request) (replicate n 170) in
            let k : outcome r ys ≡ c =
            f ∙ ap₂ (λ (b : List ℕ) (m : ℕ). x.comes b (replicate m 170)) (from_on 1 request) (length_mid w n out l) in
            let a : answer_to request ≡ le w r ++ ys =
            answer_of_lem ∙ ap (λ (m : ℕ). le m c.answer ++ c.out) (sym v) ∙ ap (λ (d : Outcome). le w d.answer ++ d.out) (sym k) in
            let m : length (le w r ++ ys) ≡ w + n = sym (ap length a) ∙ long in
            let q : length (le w r ++ ys) ≡ w + length ys = length-append (le w r) ys ∙ ap (λ (j : ℕ). j + length ys) (length_le w r) in
            let b : o ≡ laid (laid out w ys) 0 (le w r) =
            i ∙ ap (λ (d : List ℕ). laid d 0 (le w r)) (mid_back w n out ys (omega (arith, m, q))) in
            let z : 0 + length (le w r) ≡ w = zero-add (length (le w r)) ∙ length_le w r in
            let t : laid (laid out w ys) 0 (le w r) ≡ laid out 0 (le w r ++ ys) =
            ap (λ (j : ℕ). laid (laid out j ys) 0 (le w r)) (sym z) ∙ laid_before out (le w r) ys 0 (omega (arith, z)) in
            ap₂ outcome (sym m) (b ∙ t) ∙ fitting_answer (le w r ++ ys) a (omega (arith, m))

-- ---- its length before it

fitting_short : (k : ℕ) (s : List ℕ) → length (fitting k s) ≤ length s
unfolding fitting
fitting_short k s = go (ltb k (length s))
  where
    go : (t : Bool) → length (cond t [] s) ≤ length s
    go true = omega arith
    go false = omega arith

module _ (request out : List ℕ) where
  pub answer_small : {n : ℕ} {ys : List ℕ} → outcome n ys ≡ answered request out → n ≤ 8 + most_lent
  unfolding answered
  answer_small e = omega (arith, ap (λ (c : Outcome). c.answer) e, fitting_short (length out) (answer_to request), answers_short request)

  pub framed_done : 4 ≤ length out → {n : ℕ} {ys o : List ℕ} → outcome n ys ≡ answered request (take (length out - 4) (drop 4 out))
      → o ≡ laid (take 4 out ++ (ys ++ drop (length out - 4) (drop 4 out))) 0 (le 4 n) → outcome (4 + n) o ≡ framed request out
  unfolding framed answered frame
  framed_done h {n} {ys} {o} e i =
      let part : List ℕ = take (length out - 4) (drop 4 out) in
      let room : length part ≡ length out - 4 = simp (length-take, length-drop) (omega arith) in
      let s : List ℕ = fitting (length out - 4) (answer_to request) in
      let f : outcome n ys ≡ fronted s part = e ∙ ap (λ (k : ℕ). fronted (fitting k (answer_to request)) part) room in
      let m : n ≡ length s = ap (λ (c : Outcome). c.answer) f in
      let back : take 4 out ++ (ys ++ drop (length out - 4) (drop 4 out)) ≡ laid out 4 s =
      copy_back 4 (length out - 4) out s (omega arith) (rw take-length (ap (λ (c : Outcome). c.out) f ∙ laid_front part s)) in
      let t : o ≡ laid out 0 (le 4 n ++ s) = i ∙ ap (λ (d : List ℕ). laid d 0 (le 4 n)) back ∙ laid_before out (le 4 n) s 0 h in
      let q : 4 + n ≡ length (le 4 (length s) ++ s) = ap (λ (k : ℕ). 4 + k) m ∙ sym (length-append (le 4 (length s)) s) in
      ap₂ outcome q (t ∙ ap (λ (k : ℕ). laid out 0 (le 4 k ++ s)) m) ∙ rw (le-ltb (length out) 4 h)
