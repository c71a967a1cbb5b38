-- Laws of a part of a slice that is lent and comes back, and of `laid`, which says what the whole then is.
use Prim.Native.Nat.{ℕ, ◌+◌, ◌-◌, ◌≤◌}
use mathlib.Core.Path.{◌≡◌, refl, sym, ap, ap₂, ◌∙◌, subst}
use mathlib.Core.List.{List, [], ◌++◌, append_assoc, append-nil}
use native.Mathlib.Nat.{add-zero, zero-add, add-sub_cancel_left}
use native.Mathlib.Omega.{arith}
use lib.ListN.{length, take, drop, length-append, length-take, length-drop, drop_of_length-le, take-append-drop}
use lib.Seq.{take_at, drop_at, take-append-le, drop-append-le, drop-append-add, take-take, drop-drop, take-length, take_all, take-add, length-take-le}
use Rattle.le.specs.Le.{laid}

-- ---- a part that is lent

-- The length of `&d[a..a + w]`.
pub length_mid : (a w : ℕ) (d : List ℕ) → a + w ≤ length d → length (take (a + w - a) (drop a d)) ≡ w
length_mid a w d h = simp (length-take, length-drop) (omega arith)

-- `&mut d[a..a + w]` comes back as ys.
pub mid_back : (a w : ℕ) (d ys : List ℕ) → length ys ≡ w → take a d ++ (ys ++ drop (a + w - a) (drop a d)) ≡ laid d a ys
unfolding laid
mid_back a w d ys e = rw (add-sub_cancel_left a w, drop-drop, e)

-- `&mut d[a..]`, m elements, comes back from a copier of s.
pub copy_back : (a m : ℕ) (d s : List ℕ) {ys : List ℕ} → a + m ≡ length d → ys ≡ take (length s) s ++ drop (length s) (take m (drop a d))
    → take a d ++ (ys ++ drop m (drop a d)) ≡ laid d a s
unfolding laid
copy_back a m d s e h =
    let l : length (drop a d) ≤ m = rw length-drop (omega arith) in
    rw (h, take-length, take_all m (drop a d) l, drop_of_length-le (drop a d) l, append-nil, drop-drop)

-- A run of parts, one laid behind the other: p reaches over d up to a, and ys comes next.
pub next : (a k : ℕ) (d p ys : List ℕ) {l l' : List ℕ} → length p ≡ a → length ys ≡ k → l ≡ p ++ drop a d → l' ≡ laid l a ys
    → l' ≡ (p ++ ys) ++ drop (a + k) d
unfolding laid
next a k d p ys {l} {l'} ep ey el e =
    let f : drop (length p + k) (p ++ drop (length p) d) ≡ drop (length p + k) d =
    drop-append-add p (drop (length p) d) k ∙ drop-drop k (length p) d in
    let f' : drop (a + k) (p ++ drop a d) ≡ drop (a + k) d =
    subst (λ (n : ℕ). drop (n + k) (p ++ drop n d) ≡ drop (n + k) d) ep f in
    e ∙ rw (el, take_at p (drop a d) a ep, ey, f') (sym (append_assoc p ys (drop (a + k) d)))

-- Two parts of d, one behind the other, are one part.
pub glue : (a w : ℕ) (d : List ℕ) {p q : List ℕ} → p ≡ take a d → q ≡ take w (drop a d) → p ++ q ≡ take (a + w) d
glue a w d e f = ap₂ (λ (x y : List ℕ). x ++ y) e f ∙ sym (take-add a w d)

-- A part that lies inside p is the same part of p with anything behind it.
pub part_append : (p r : List ℕ) (i k : ℕ) → i + k ≤ length p → take k (drop i (p ++ r)) ≡ take k (drop i p)
part_append p r i k l =
    let a : i ≤ length p = omega arith in
    let b : k ≤ length (drop i p) = rw length-drop (omega arith) in
    ap (take k) (drop-append-le i p r a) ∙ take-append-le k (drop i p) r b

-- ---- what is laid

-- Nothing, laid anywhere, changes nothing.
pub laid_nothing : (d : List ℕ) (at : ℕ) → laid d at [] ≡ d
unfolding laid
laid_nothing d at = rw add-zero (take-append-drop at d)

-- From the start on: ys, then the rest of d.
pub laid_front : (d ys : List ℕ) → laid d 0 ys ≡ ys ++ drop (length ys) d
unfolding laid
laid_front d ys = rw zero-add

-- All of d is laid over.
pub laid_whole : (d ys : List ℕ) → length ys ≡ length d → laid d 0 ys ≡ ys
laid_whole d ys e =
    let l : length d ≤ length ys = omega arith in
    laid_front d ys ∙ ap (λ (r : List ℕ). ys ++ r) (drop_of_length-le d l) ∙ append-nil ys

module _ (d : List ℕ) (at : ℕ) (ys : List ℕ) where
  -- What lies inside keeps the length.
  pub length_laid : at + length ys ≤ length d → length (laid d at ys) ≡ length d
  unfolding laid
  length_laid h = simp (length-append, length-take, length-drop) (omega arith)

  module _ (h : at ≤ length d) where
    -- In front of the place all is as in d.
    pub take_laid : (i : ℕ) → i ≤ at → take i (laid d at ys) ≡ take i d
    unfolding laid
    take_laid i l =
        let n : i ≤ length (take at d) = rw (length-take-le at d h) l in
        take-append-le i (take at d) _ n ∙ take-take i at d l

    -- Behind what was laid too.
    pub drop_laid : (i : ℕ) → at + length ys ≤ i → drop i (laid d at ys) ≡ drop i d
    unfolding laid
    drop_laid i l =
        let p : List ℕ = take at d ++ ys in
        let n : length p ≡ at + length ys = simp length-append (rw (length-take-le at d h)) in
        let k : length p + (i - (at + length ys)) ≡ i = omega arith in
        let m : at + length ys + (i - (at + length ys)) ≡ i = omega arith in
        ap (drop i) (sym (append_assoc (take at d) ys _))
        ∙ ap (λ (j : ℕ). drop j (p ++ drop (at + length ys) d)) (sym k)
        ∙ drop-append-add p _ (i - (at + length ys))
        ∙ drop-drop (i - (at + length ys)) (at + length ys) d
        ∙ ap (λ (j : ℕ). drop j d) m

    -- From the place on: ys, then the rest of d.
    pub drop_laid_at : drop at (laid d at ys) ≡ ys ++ drop (at + length ys) d
    unfolding laid
    drop_laid_at = drop_at (take at d) _ at (length-take-le at d h)

    -- What was laid is read back.
    pub laid_read : take (length ys) (drop at (laid d at ys)) ≡ ys
    laid_read = ap (take (length ys)) drop_laid_at ∙ take_at ys _ (length ys) refl

    -- A part of what was laid is that part of ys.
    pub laid_read_inside : (i k : ℕ) → i + k ≤ length ys → take k (drop (at + i) (laid d at ys)) ≡ take k (drop i ys)
    laid_read_inside i k l =
        ap (take k) (sym (drop-drop i at (laid d at ys)) ∙ ap (drop i) drop_laid_at) ∙ part_append ys _ i k l

    -- A part that ends at the place or before it is as in d.
    pub laid_read_before : (i k : ℕ) → i + k ≤ at → take k (drop i (laid d at ys)) ≡ take k (drop i d)
    unfolding laid
    laid_read_before i k l =
        let n : i + k ≤ length (take at d) = rw (length-take-le at d h) l in
        part_append (take at d) _ i k n
        ∙ sym (part_append (take at d) (drop at d) i k n)
        ∙ ap (λ (s : List ℕ). take k (drop i s)) (take-append-drop at d)

    -- A part that starts where ys ends or behind it is as in d.
    pub laid_read_behind : (i k : ℕ) → at + length ys ≤ i → take k (drop i (laid d at ys)) ≡ take k (drop i d)
    laid_read_behind i k l = ap (take k) (drop_laid i l)

    -- Two parts, laid one behind the other, are laid as one.
    pub laid_laid : (zs : List ℕ) → laid (laid d at ys) (at + length ys) zs ≡ laid d at (ys ++ zs)
    unfolding laid
    laid_laid zs =
        let e : ℕ = at + length ys in
        let n : length (take at d ++ ys) ≡ e = simp length-append (rw (length-take-le at d h)) in
        let front : take e (laid d at ys) ≡ take at d ++ ys = ap (take e) (sym (append_assoc (take at d) ys _)) ∙ take_at (take at d ++ ys) _ e n in
        let m : e + length zs ≡ at + length (ys ++ zs) = rw length-append (omega arith) in
        let back : drop (e + length zs) (laid d at ys) ≡ drop (at + length (ys ++ zs)) d = drop_laid (e + length zs) (omega arith) ∙ ap (λ (j : ℕ). drop j d) m in
        ap₂ (λ (f b : List ℕ). f ++ (zs ++ b)) front back
        ∙ append_assoc (take at d) ys _
        ∙ ap (λ (r : List ℕ). take at d ++ r) (sym (append_assoc ys zs _))

-- A part laid in front of another is laid with it as one.
pub laid_before : (d us vs : List ℕ) (at : ℕ) → at + length us ≤ length d → laid (laid d (at + length us) vs) at us ≡ laid d at (us ++ vs)
unfolding laid
laid_before d us vs at h =
    let e : List ℕ = laid d (at + length us) vs in
    let n : at + length (us ++ vs) ≡ at + length us + length vs = rw length-append (omega arith) in
    ap₂ (λ (x y : List ℕ). x ++ (us ++ y)) (take_laid d (at + length us) vs h at (omega arith)) (drop_laid_at d (at + length us) vs h)
    ∙ rw (n, append_assoc us vs (drop (at + length us + length vs) d))

-- ---- what is laid within a part

pub drop_laid_in : (d ys : List ℕ) (a k : ℕ) → a ≤ length d → drop a (laid d (a + k) ys) ≡ laid (drop a d) k ys
unfolding laid
drop_laid_in d ys a k h =
    let e : a + k + length ys ≡ a + (k + length ys) = omega arith in
    rw (take-add a k d, append_assoc, e, ← drop-drop (k + length ys) a d) (drop_at (take a d) _ a (length-take-le a d h))

pub laid_append : (p q ys : List ℕ) (k : ℕ) → k + length ys ≤ length p → laid (p ++ q) k ys ≡ laid p k ys ++ q
unfolding laid
laid_append p q ys k h =
    let l : k ≤ length p = omega arith in
    rw (take-append-le k p q l, drop-append-le (k + length ys) p q h, append_assoc, append_assoc)

pub take_laid_in : (d ys : List ℕ) (s k : ℕ) → k + length ys ≤ s → s ≤ length d → take s (laid d k ys) ≡ laid (take s d) k ys
take_laid_in d ys s k h l =
    let n : length (take s d) ≡ s = length-take-le s d l in
    let m : k + length ys ≤ length (take s d) = omega arith in
    ap (λ (x : List ℕ). take s (laid x k ys)) (sym (take-append-drop s d))
    ∙ ap (take s) (laid_append (take s d) (drop s d) ys k m)
    ∙ take_at (laid (take s d) k ys) (drop s d) s (length_laid (take s d) k ys m ∙ n)
