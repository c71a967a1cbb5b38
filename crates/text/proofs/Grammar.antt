-- The test decides the grammar: `is_text s ≡ true` exactly if `Text s`, of every list of numbers. No premise says that they are
-- bytes: each row of the grammar bounds its bytes by F4, and the test lets no greater number pass. Assumes nothing.
use Rattle.std.specs.Prelude.{ℕ, ◌<◌, ◌≡◌, List, [], ◌∷◌, true}
use Rattle.std.proofs.Common.{arith, eqb-true}
use Rattle.text.specs.Text.{Text, none, more, utf8_1, between, walk_of, is_text}
use Rattle.text.specs.Greatest.{greatest}
use Rattle.text.proofs.Steps.{walk_sound, text_walk}

-- What the test lets pass is text by the grammar.
pub text_sound : {s : List ℕ} → is_text s ≡ true → Text s
unfolding is_text
text_sound {s} e = walk_sound s between (eqb-true (walk_of between s).left 0 e)

-- Text by the grammar passes the test.
pub text_complete : {s : List ℕ} → Text s → is_text s ≡ true
unfolding is_text
text_complete t = rw (text_walk t)

-- A run whose greatest byte is below 128 is text: its characters are all UTF8-1.
pub ascii_text : (s : List ℕ) → greatest s < 128 → Text s
unfolding greatest
ascii_text [] h = none
ascii_text (b ∷ s) h = more (utf8_1 {a = b} (omega arith)) (ascii_text s (omega arith))

pub ascii_is_text : (s : List ℕ) → greatest s < 128 → is_text s ≡ true
ascii_is_text s h = text_complete (ascii_text s h)
