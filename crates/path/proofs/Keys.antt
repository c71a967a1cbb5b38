-- Laws of the key: it is that of the last component, and reads its last eight bytes.
use Rattle.std.proofs.Common.{◌≡◌, ℕ, ◌+◌, ◌-◌, ◌*◌, ◌/◌, ◌%◌, ◌<◌, ◌≤◌, List, [], ◌∷◌, ◌++◌, length, take, drop, sym, refl, ap, ◌∙◌, arith, length-drop, take_all}
use Rattle.le.specs.Le.{unle}
use Rattle.path.specs.Path.{components, last_of, tail8, text_key, key_of}
use Rattle.path.specs.Walk.{Last}

pub tail_all : (c : List ℕ) → length c < 8 → unle c ≡ tail8 c
unfolding tail8
tail_all c h = let z : length c - 8 ≡ 0 = omega arith in rw z refl

pub tail_eight : (c : List ℕ) → 8 ≤ length c → unle (take 8 (drop (length c - 8) c)) ≡ tail8 c
unfolding tail8
tail_eight c h = rw (take_all 8 (drop (length c - 8) c) (omega (arith, length-drop (length c - 8) c)))

last_snoc : (cs : List (List ℕ)) (c : List ℕ) → last_of (cs ++ c ∷ []) ≡ c
unfolding last_of
last_snoc [] c = refl
last_snoc (x ∷ []) c = refl
last_snoc (x ∷ y ∷ cs) c = last_snoc (y ∷ cs) c

last_is : (s : List ℕ) (a e : ℕ) → Last s a e → last_of (components s) ≡ take (e - a) (drop a s)
last_is s a e n = ap last_of n.gives ∙ last_snoc (components (take a s)) (take (e - a) (drop a s))

pub text_key_is : (s : List ℕ) (x r : ℕ) → x ≡ tail8 s → r ≡ (x % 4294967296 + x / 4294967296 * 31 + length s % 65536) % 4294967296
    → r ≡ text_key s
unfolding text_key
text_key_is s x r h e = e ∙ ap (λ (y : ℕ). (y % 4294967296 + y / 4294967296 * 31 + length s % 65536) % 4294967296) h

pub key_is : (s : List ℕ) (a e r : ℕ) → Last s a e → r ≡ text_key (take (e - a) (drop a s)) → r ≡ key_of s
unfolding key_of
key_is s a e r n h = h ∙ ap text_key (sym (last_is s a e n))

pub key_none : (s : List ℕ) (r : ℕ) → components s ≡ [] → r ≡ text_key [] → r ≡ key_of s
unfolding key_of last_of
key_none s r n h = h ∙ rw n
