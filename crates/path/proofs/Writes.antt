-- Laws of writing the normal spelling into a buffer, component by component, and of its length.
use Rattle.std.proofs.Common.{◌≡◌, ℕ, ◌+◌, ◌-◌, ◌<◌, ◌≤◌, Bool, true, false, not, eqb, List, [], ◌++◌, length, get_or, take, drop, set, sym, refl, ap, ◌∙◌, append_assoc, append-nil, add-one, arith, length-append, length-drop, length-take-le}
use mathlib.Core.Bool.{false≢true}
use Rattle.std.specs.Int.{from_bool}
use lib.Seq.{set_split}
use Rattle.le.specs.Le.{laid}
use Rattle.le.proofs.Parts.{mid_back, laid_nothing, length_laid, laid_laid}
use Rattle.path.specs.Path.{slash, join, normal}
use Rattle.path.specs.Walk.{left, Next}
use Rattle.path.proofs.Walks.{root_at}

-- ---- a slash

pub put_true : (d : List ℕ) (at : ℕ) (sep : Bool) → sep ≡ true → at < length d → (set d at 47 ≡ laid d at (slash sep)) × (at + 1 ≡ at + length (slash sep))
unfolding laid slash
put_true d at true e h = (rw (set_split d at 47 h, add-one), refl)
put_true d at false e h = absurd (false≢true e)

pub put_false : (d : List ℕ) (at : ℕ) (sep : Bool) → sep ≡ false → (d ≡ laid d at (slash sep)) × (at ≡ at + length (slash sep))
unfolding slash
put_false d at true e = absurd (false≢true (sym e))
put_false d at false e = (sym (laid_nothing d at), omega arith)

-- the slash has its place
pub slash_room : (sep : Bool) (at n : ℕ) → sep ≡ true → at + length (slash sep) ≤ n → at < n
unfolding slash
slash_room true at n e h = omega arith
slash_room false at n e h = absurd (false≢true e)

-- ---- a text in pieces

-- N goes into d₀ from the front: d is the buffer so far, out bytes are in, g is still to come
pub record Writing (N d₀ d : List ℕ) (out : ℕ) (g : List ℕ) : Type 0 where
  pub done : List ℕ
  pub whole : N ≡ done ++ g
  pub long : length done ≡ out
  pub stands : d ≡ laid d₀ 0 done

pub writing_length : {N d₀ d : List ℕ} {out : ℕ} {g : List ℕ} → Writing N d₀ d out g → length N ≤ length d₀ → length d ≡ length d₀
writing_length {N} {d₀} {d} {out} {g} w fits =
    ap length w.stands ∙ length_laid d₀ 0 w.done (omega (arith, ap length w.whole, length-append w.done g))

module _ {N d₀ d : List ℕ} {out : ℕ} (x g : List ℕ) (w : Writing N d₀ d out (x ++ g)) (fits : length N ≤ length d₀) where
  pub writing_room : out + length x ≤ length d
  writing_room =
      omega (arith, writing_length w fits, w.long, ap length w.whole, length-append w.done (x ++ g), length-append x g)

  pub writing_more : (e : List ℕ) (r : ℕ) → (e ≡ laid d out x) × (r ≡ out + length x) → Writing N d₀ e r g
  writing_more e r p =
      let z : out ≡ 0 + length w.done = omega (arith, w.long) in
      record {
        done = w.done ++ x;
        whole = w.whole ∙ sym (append_assoc w.done x g);
        long = omega (arith, length-append w.done x, w.long, p.1);
        stands = p.0 ∙ ap (λ (l : List ℕ). laid l out x) w.stands ∙ ap (λ (n : ℕ). laid (laid d₀ 0 w.done) n x) z ∙ laid_laid d₀ 0 w.done (omega arith) x;
      }

pub writing_all : (N d₀ d : List ℕ) (out : ℕ) → Writing N d₀ d out [] → (d ≡ laid d₀ 0 N) × (out ≡ length N)
writing_all N d₀ d out w =
    let e : w.done ≡ N = sym (w.whole ∙ append-nil w.done) in
    (w.stands ∙ ap (laid d₀ 0) e, sym w.long ∙ ap length e)

-- ---- the normal spelling, along a walk

length_part : (s : List ℕ) (a e : ℕ) → e ≤ length s → length (take (e - a) (drop a s)) ≡ e - a
length_part s a e h = length-take-le (e - a) (drop a s) (omega (arith, length-drop a s))

pub normal_start : (s d : List ℕ) → Writing (normal s) d d 0 (join false (left s 0))
unfolding normal left
normal_start s d = record { done = []; whole = refl; long = refl; stands = sym (laid_nothing d 0) }

module _ (s d₀ d : List ℕ) (out i : ℕ) (sep : Bool) (w : Writing (normal s) d₀ d out (join sep (left s i))) where
  pub normal_done : left s i ≡ [] → (d ≡ laid d₀ 0 (normal s)) × (out ≡ length (normal s))
  unfolding join
  normal_done n = writing_all (normal s) d₀ d out (rw n at w)

module _ (s d₀ d : List ℕ) (out i a e : ℕ) (sep : Bool) (w : Writing (normal s) d₀ d out (join sep (left s i))) (n : Next s i a e) where
  normal_turn : Writing (normal s) d₀ d out (slash sep ++ (take (e - a) (drop a s) ++ join (not (eqb (get_or s a 0) 47)) (left s e)))
  unfolding join
  normal_turn = rw (← root_at s a e n.some (omega (arith, n.some, n.inside))) (rw n.gives at w)

  -- there is room for the slash, and then for the component
  module _ (fits : length (normal s) ≤ length d₀) where
    pub slash_fits : out + length (slash sep) ≤ length d
    slash_fits = writing_room (slash sep) _ normal_turn fits

    module _ (d' : List ℕ) (out' : ℕ) (p : (d' ≡ laid d out (slash sep)) × (out' ≡ out + length (slash sep))) where
      abbrev part : List ℕ
      part = take (e - a) (drop a s)

      slashed : Writing (normal s) d₀ d' out' (part ++ join (not (eqb (get_or s a 0) 47)) (left s e))
      slashed = writing_more (slash sep) _ normal_turn fits d' out' p

      pub part_fits : out' + (e - a) ≤ length d'
      part_fits = omega (arith, length_part s a e n.inside, writing_room part _ slashed fits)

      pub part_put : (ys l : List ℕ) → ys ≡ part → l ≡ take out' d' ++ (ys ++ drop (out' + (e - a) - out') (drop out' d'))
          → Writing (normal s) d₀ l (out' + (e - a)) (join (not (eqb (get_or s a 0) 47)) (left s e))
      part_put ys l f g =
          let k = length_part s a e n.inside in
          writing_more part _ slashed fits l (out' + (e - a)) (g ∙ rw f (mid_back out' (e - a) d' part k), omega (arith, k))

-- ---- its length

pub len_start : (s : List ℕ) → length (normal s) ≡ 0 + length (join false (left s 0))
unfolding normal left
len_start s = omega arith

module _ (s : List ℕ) (out i : ℕ) (sep : Bool) (w : length (normal s) ≡ out + length (join sep (left s i))) where
  pub len_done : left s i ≡ [] → out ≡ length (normal s)
  unfolding join
  len_done n = let z : length (join sep (left s i)) ≡ 0 = rw n in omega arith

  module _ (a e : ℕ) (n : Next s i a e) where
    len_step : length (join sep (left s i)) ≡ length (slash sep) + ((e - a) + length (join (not (eqb (get_or s a 0) 47)) (left s e)))
    unfolding join
    len_step =
        ap (λ (cs : List (List ℕ)). length (join sep cs)) n.gives
        ∙ rw (root_at s a e n.some (omega (arith, n.some, n.inside))) (simp length-append (omega (arith, length_part s a e n.inside)))

    pub len_turn : (k : ℕ) → k ≡ length (slash sep) → length (normal s) ≡ out + k + (e - a) + length (join (not (eqb (get_or s a 0) 47)) (left s e))
    len_turn k z = omega (arith, len_step)

pub slash_one : (sep : Bool) → from_bool sep ≡ length (slash sep)
unfolding slash
slash_one true = refl
slash_one false = refl
