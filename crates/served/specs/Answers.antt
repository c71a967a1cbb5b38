-- What holds of every answer: how long it is, so that a buffer of 1 MiB has room for each.
use Rattle.std.specs.Prelude.{None, Option, Some}
use Rattle.std.specs.Prelude.{ℕ, ◌+◌, ◌-◌, ◌≤◌, ◌≡◌, refl, Bool, true, false, cond, not, List, [], length, take, drop, get_or, replicate, eqb, ltb}
use Rattle.std.proofs.Common.{ap₂, subst, ◌∙◌, arith, le-ltb, ltb-false, length-append, length-take, length-drop, lit≤}
use Rattle.std.proofs.lemmas.List.{length-replicate}
use Rattle.le.specs.Le.{le, field, laid}
use Rattle.le.proofs.Fields.{length_le}
use Rattle.le.proofs.Parts.{length_laid}
use Rattle.text.specs.Text.{is_text}
use Rattle.path.specs.Path.{components, has_parent, normal, parent_of}
use Rattle.header.specs.Block.{block_len, max_path, header_of, encoded, decoded}
use Rattle.header.specs.declared.Header.{Header}
use Rattle.header.proofs.BlockLaws.{length_encoded}
use Rattle.output.specs.Writer.{poured}
use Rattle.script.specs.Script.{script_m}
use Rattle.harness.specs.Calls.{Outcome, outcome, refusal, encode_call, numbers_of, said_of, decode_call, spelled, normal_call, parent_call}
use Rattle.served.specs.Requests.{Export, most_lent, plain_in, lent_in, two_in, encode_of, script_of, export_of}
use Rattle.served.specs.Requests.{answer_for, answer_to, fitting, fronted, frame, framed}

-- ---- a call keeps the length of the buffer that it is lent

-- The buffer of an outcome is as long as it was.
pub record SameLength (out : List ℕ) (c : Outcome) : Type 0 where
  pub same : length c.out ≡ length out

-- it is the buffer as it was
stays : (a : ℕ) (out : List ℕ) → SameLength out (outcome a out)
stays a out = record { same = refl }

-- of both ways, so of the one that is taken
either : (out : List ℕ) (t : Bool) {x y : Outcome} → SameLength out x → SameLength out y → SameLength out (cond t x y)
either out true p q = p
either out false p q = q

-- what lies inside of it is laid over it
over : (out ys : List ℕ) (a b : ℕ) (x : Outcome) → SameLength out x → length ys ≤ b
    → SameLength out (cond (ltb (length out) b) x (outcome a (laid out 0 ys)))
over out ys a b x e h = go (ltb (length out) b) refl
  where
    go : (t : Bool) → ltb (length out) b ≡ t → SameLength out (cond t x (outcome a (laid out 0 ys)))
    go true f = e
    go false f = record { same = length_laid out 0 ys (omega (arith, ltb-false (length out) b f)) }

-- call by call
encode_keeps : (u l g : ℕ) (path out : List ℕ) → SameLength out (encode_call u l g path out)
unfolding encode_call
encode_keeps u l g path out = either out (not (is_text path)) (stays 3 out) (go (ltb max_path (length path)) refl)
  where
    h : Header
    h = header_of (not (eqb u 0)) (length path) l g

    rest : Outcome
    rest = cond (ltb (length out) block_len) (outcome 13 out) (outcome 0 (laid out 0 (encoded h path)))

    go : (t : Bool) → ltb max_path (length path) ≡ t → SameLength out (cond t (outcome 4 out) rest)
    go true f = stays 4 out
    go false f =
        let n : length (encoded h path) ≡ block_len = length_encoded h path (ltb-false max_path (length path) f) in
        over out (encoded h path) 0 block_len (outcome 13 out) (stays 13 out) (omega (arith, n))

length_numbers : (h : Header) → length (numbers_of h) ≡ 32
unfolding numbers_of
length_numbers h = refl

decode_keeps : (block out : List ℕ) → SameLength out (decode_call block out)
unfolding decode_call
decode_keeps block out = go (decoded (take block_len block) (length block))
  where
    go : (d : Option Header) → SameLength out (cond (ltb (length out) 32) (outcome 13 out) (said_of out d))
    go None = either out (ltb (length out) 32) (stays 13 out) (stays 1 out)
    go (Some h) = over out (numbers_of h) 0 32 (outcome 13 out) (stays 13 out) (omega (arith, length_numbers h))

spelled_keeps : (s out : List ℕ) → SameLength out (spelled s out)
unfolding spelled
spelled_keeps s out = over out s (length s) (length s) (outcome (refusal 13) out) (stays (refusal 13) out) (omega arith)

normal_keeps : (path out : List ℕ) → SameLength out (normal_call path out)
unfolding normal_call
normal_keeps path out = either out (not (is_text path)) (stays (refusal 3) out) (spelled_keeps (normal path) out)

parent_keeps : (path out : List ℕ) → SameLength out (parent_call path out)
unfolding parent_call
parent_keeps path out =
    either out (not (is_text path)) (stays (refusal 3) out)
    (either out (not (has_parent (components path))) (stays (refusal 5) out) (spelled_keeps (parent_of path) out))

script_keeps : (script out : List ℕ) → SameLength out (script_of script out)
unfolding script_of poured
script_keeps script out =
    let xs : List ℕ = script_m script in
    record { same = simp (length-append, length-take, length-drop) (omega arith) }

-- ---- every row of the table

-- A row is as the table's columns are: a number of at most 8 bytes, no more lent than the limit, and of the same length afterwards.
pub record Bounded (x : Export) : Type 0 where
  pub narrow : x.width ≤ 8
  pub few : (body : List ℕ) (n : ℕ) → x.lends body ≡ Some n → n ≤ most_lent
  pub keeps : (body out : List ℕ) → SameLength out (x.comes body out)

-- what is lent, where something is
abbrev number : Option ℕ → ℕ
number None = 0
number (Some n) = n

-- nothing, or at most so much
few_if : (t : Bool) (x : Option ℕ) → number x ≤ most_lent → number (cond t None x) ≤ most_lent
few_if true x h = lit≤ tt
few_if false x h = h

-- what each of the three ways of a body lends
few_plain : (k : ℕ) (body : List ℕ) → number (plain_in k body) ≤ most_lent
unfolding plain_in
few_plain k body = few_if (ltb (length body) k) (Some 0) (omega arith)

few_lent : (at : ℕ) (body : List ℕ) → number (lent_in at body) ≤ most_lent
unfolding lent_in
few_lent at body = few_if (ltb (length body) (at + 4)) _ (go (ltb most_lent (field body at 4)) refl)
  where
    go : (t : Bool) → ltb most_lent (field body at 4) ≡ t → number (cond t None (Some (field body at 4))) ≤ most_lent
    go true f = lit≤ tt
    go false f = ltb-false most_lent (field body at 4) f

few_two : (body : List ℕ) → number (two_in body) ≤ most_lent
unfolding two_in
few_two body = few_if (ltb (length body) 4) _ (few_if (ltb (length body - 4) (field body 0 4)) (Some 0) (omega arith))

-- a row, column by column
row : (x : Export) → x.width ≤ 8 → ((body : List ℕ) → number (x.lends body) ≤ most_lent)
    → ((body out : List ℕ) → SameLength out (x.comes body out)) → Bounded x
row x w f k = record { narrow = w; few = λ body n e. subst (λ (y : Option ℕ). number y ≤ most_lent) e (f body); keeps = k }

-- of both rows, so of the one that is taken
either_row : (t : Bool) {x y : Export} → Bounded x → Bounded y → Bounded (cond t x y)
either_row true p q = p
either_row false p q = q

-- Every row is bounded.
pub export_bounded : (call : ℕ) → Bounded (export_of call)
unfolding export_of encode_of
export_bounded call =
    either_row (eqb call 1) (row _ (omega arith) (few_plain 4) (λ body out. stays _ out))
    (either_row (eqb call 2) (row _ (omega arith) (few_lent 17) (λ body. encode_keeps _ _ _ _))
    (either_row (eqb call 3) (row _ (omega arith) (few_lent 0) (λ body. decode_keeps _))
    (either_row (eqb call 4) (row _ (omega arith) (few_plain 0) (λ body out. stays _ out))
    (either_row (eqb call 5) (row _ (omega arith) few_two (λ body out. stays _ out))
    (either_row (eqb call 6) (row _ (omega arith) (few_lent 0) (λ body. normal_keeps _))
    (either_row (eqb call 7) (row _ (omega arith) (few_lent 0) (λ body. parent_keeps _))
    (either_row (eqb call 8) (row _ (omega arith) (few_lent 0) (λ body. script_keeps _))
    (row _ (omega arith) (λ body. omega arith) (λ body out. stays _ out)))))))))

-- ---- answers

-- An answer is the number and what was lent.
pub length_answer : (x : Export) → Bounded x → (body : List ℕ) (n : ℕ) → length (answer_for x body (Some n)) ≡ x.width + n
length_answer x b body n =
    length-append (le x.width _) _
    ∙ ap₂ (λ (i j : ℕ). i + j) (length_le x.width _) ((b.keeps body (replicate n 170)).same ∙ length-replicate {A = ℕ} n 170)

-- No answer is longer than this.
pub answers_short : (request : List ℕ) → length (answer_to request) ≤ 8 + most_lent
unfolding answer_to
answers_short request = go (eqb (length request) 0)
  where
    x : Export
    x = export_of (get_or request 0 0)

    b : Bounded x
    b = export_bounded (get_or request 0 0)

    of : (f : Option ℕ) → x.lends (drop 1 request) ≡ f → length (answer_for x (drop 1 request) f) ≤ 8 + most_lent
    of None e = omega arith
    of (Some n) e = omega (arith, length_answer x b (drop 1 request) n, b.narrow, b.few (drop 1 request) n e)

    go : (t : Bool) → length (cond t [] (answer_for x (drop 1 request) (x.lends (drop 1 request)))) ≤ 8 + most_lent
    go true = omega arith
    go false = of (x.lends (drop 1 request)) refl

-- In a buffer of 1 MiB every request finds its whole answer, its length before it.
pub answered_whole : (request out : List ℕ) → 0x100000 ≤ length out → framed request out ≡ fronted (frame (answer_to request)) out
unfolding framed fitting
answered_whole request out h =
    rw (le-ltb (length out) 4 (omega arith), le-ltb (length out - 4) (length (answer_to request)) (omega (arith, answers_short request)))
