-- The examples of RFC 3629, section 7, and what sections 3, 4 and 10 refuse.
use Rattle.std.specs.Prelude.{◌≡◌, refl, [], ◌∷◌, true, false}
use Rattle.text.specs.Text.{lead_of, lead_of3, lead_of4, step_of, walk_of, is_text}

-- "A", U+2262, U+0391, "."
not_identical_alpha : is_text (0x41 ∷ 0xE2 ∷ 0x89 ∷ 0xA2 ∷ 0xCE ∷ 0x91 ∷ 0x2E ∷ []) ≡ true
unfolding is_text walk_of step_of lead_of lead_of3 lead_of4
not_identical_alpha = refl

-- U+D55C, U+AD6D, U+C5B4: Korean "hangugeo"
hangugeo : is_text (0xED ∷ 0x95 ∷ 0x9C ∷ 0xEA ∷ 0xB5 ∷ 0xAD ∷ 0xEC ∷ 0x96 ∷ 0xB4 ∷ []) ≡ true
unfolding is_text walk_of step_of lead_of lead_of3 lead_of4
hangugeo = refl

-- U+65E5, U+672C, U+8A9E: Japanese "nihongo"
nihongo : is_text (0xE6 ∷ 0x97 ∷ 0xA5 ∷ 0xE6 ∷ 0x9C ∷ 0xAC ∷ 0xE8 ∷ 0xAA ∷ 0x9E ∷ []) ≡ true
unfolding is_text walk_of step_of lead_of lead_of3 lead_of4
nihongo = refl

-- U+233B4 behind a byte order mark
stump_of_tree : is_text (0xEF ∷ 0xBB ∷ 0xBF ∷ 0xF0 ∷ 0xA3 ∷ 0x8E ∷ 0xB4 ∷ []) ≡ true
unfolding is_text walk_of step_of lead_of lead_of3 lead_of4
stump_of_tree = refl

-- U+10FFFF, the last character
last_character : is_text (0xF4 ∷ 0x8F ∷ 0xBF ∷ 0xBF ∷ []) ≡ true
unfolding is_text walk_of step_of lead_of lead_of3 lead_of4
last_character = refl

-- NUL in two bytes (section 10)
overlong_two : is_text (0xC0 ∷ 0x80 ∷ []) ≡ false
unfolding is_text walk_of step_of lead_of lead_of3 lead_of4
overlong_two = refl

-- "/" in three bytes
overlong_three : is_text (0xE0 ∷ 0x80 ∷ 0xAF ∷ []) ≡ false
unfolding is_text walk_of step_of lead_of lead_of3 lead_of4
overlong_three = refl

-- U+D800, a surrogate (section 3)
surrogate : is_text (0xED ∷ 0xA0 ∷ 0x80 ∷ []) ≡ false
unfolding is_text walk_of step_of lead_of lead_of3 lead_of4
surrogate = refl

-- U+110000, one above the last
above_the_last : is_text (0xF4 ∷ 0x90 ∷ 0x80 ∷ 0x80 ∷ []) ≡ false
unfolding is_text walk_of step_of lead_of lead_of3 lead_of4
above_the_last = refl

-- a tail without a first byte
tail_alone : is_text (0x80 ∷ []) ≡ false
unfolding is_text walk_of step_of lead_of lead_of3 lead_of4
tail_alone = refl

-- characters cut before their last byte
cut_two : is_text (0x41 ∷ 0xCE ∷ []) ≡ false
unfolding is_text walk_of step_of lead_of lead_of3 lead_of4
cut_two = refl

cut_four : is_text (0xF0 ∷ 0xA3 ∷ 0x8E ∷ []) ≡ false
unfolding is_text walk_of step_of lead_of lead_of3 lead_of4
cut_four = refl
