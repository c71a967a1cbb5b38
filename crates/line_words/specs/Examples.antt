-- 01's own lines, and lines of no form. 97 is `a`, 98 is `b`, 99 is `c`, 47 is `/`, 32 is a space.
use Rattle.std.specs.Prelude.{◌≡◌, refl, [], ◌∷◌, ◌++◌}
use Rattle.lists.specs.Same.{same}
use Rattle.path.specs.Path.{cut, grow}
use Rattle.line_words.specs.Words.{words_of}
use Rattle.line_words.specs.Commands.{create, move, dump, what, create_word, mv_word, dump_word, request_of, request_by, one_word, two_words, three_words}

-- `create a/b`
a_create : request_of (create_word ++ 32 ∷ 97 ∷ 47 ∷ 98 ∷ []) ≡ create (97 ∷ 47 ∷ 98 ∷ [])
unfolding request_of request_by two_words words_of cut grow same
a_create = refl

-- `mv a/b c`
a_move : request_of (mv_word ++ 32 ∷ 97 ∷ 47 ∷ 98 ∷ 32 ∷ 99 ∷ []) ≡ move (97 ∷ 47 ∷ 98 ∷ []) (99 ∷ [])
unfolding request_of request_by three_words words_of cut grow same
a_move = refl

-- `dump`
a_dump : request_of dump_word ≡ dump
unfolding request_of request_by one_word words_of cut grow same
a_dump = refl

-- an empty line
empty_line : request_of [] ≡ what
unfolding request_of request_by one_word words_of same
empty_line = refl

-- `create ` has an empty word behind its space
empty_word : request_of (create_word ++ 32 ∷ []) ≡ what
unfolding request_of request_by two_words words_of cut grow
empty_word = refl

-- `mv a  b` has one between two spaces
two_spaces : request_of (mv_word ++ 32 ∷ 97 ∷ 32 ∷ 32 ∷ 98 ∷ []) ≡ what
unfolding request_of request_by words_of cut grow
two_spaces = refl

-- `dump a` is no form
dump_a_word : request_of (dump_word ++ 32 ∷ 97 ∷ []) ≡ what
unfolding request_of request_by two_words words_of cut grow same
dump_a_word = refl
