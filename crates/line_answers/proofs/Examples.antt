-- Numbers and answers as text: 48 is `0`, 49 is `1`, 50 is `2`.
use Rattle.std.specs.Prelude.{◌≡◌, refl, [], ◌∷◌}
use Rattle.line_answers.specs.Decimal.{digits_of, decimal_of}
use Rattle.line_answers.specs.Answers.{spaced, no_text, made_text}

zero_digit : decimal_of 0 ≡ 48 ∷ []
unfolding decimal_of digits_of
zero_digit = refl

ten_digits : decimal_of 10 ≡ 49 ∷ 48 ∷ []
unfolding decimal_of digits_of
ten_digits = refl

-- the last number of a u64, 18446744073709551615
last_digits : decimal_of 18446744073709551615 ≡ 49 ∷ 56 ∷ 52 ∷ 52 ∷ 54 ∷ 55 ∷ 52 ∷ 52 ∷ 48 ∷ 55 ∷ 51 ∷ 55 ∷ 48 ∷ 57 ∷ 53 ∷ 53 ∷ 49 ∷ 54 ∷ 49 ∷ 53 ∷ []
unfolding decimal_of digits_of
last_digits = refl

-- `ok 1 2 0`
made_second : made_text 1 2 0 ≡ 111 ∷ 107 ∷ 32 ∷ 49 ∷ 32 ∷ 50 ∷ 32 ∷ 48 ∷ 10 ∷ []
unfolding made_text spaced decimal_of digits_of
made_second = refl

-- `no 10`
no_ten : no_text 10 ≡ 110 ∷ 111 ∷ 32 ∷ 49 ∷ 48 ∷ 10 ∷ []
unfolding no_text spaced decimal_of digits_of
no_ten = refl
