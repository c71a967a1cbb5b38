-- What a refusal of an exported call leaves: the buffer as it was. (That there is one outcome is said of the contracts, in promises_tied.)
use Rattle.std.specs.Prelude.{None, Option, Some}
use Rattle.header.specs.declared.Header.{Header}
use Rattle.std.specs.Prelude.{ℕ, ◌^◌, ◌<◌, ◌≤◌, ◌≡◌, refl, Bool, true, false, cond, not, List, length, take, ltb}
use Rattle.std.proofs.Common.{arith, ltb-false}
use Rattle.le.specs.Le.{laid}
use Rattle.text.specs.Text.{is_text}
use Rattle.path.specs.Path.{components, has_parent, normal, parent_of}
use Rattle.header.specs.Block.{block_len, max_path, decoded}
use Rattle.harness.specs.Calls.{Outcome, outcome, refusal, said_of, encode_call, decode_call, spelled, normal_call, parent_call}

-- ---- a refusal leaves the buffer as it was

-- An outcome whose answer is refused has out as it was.
abbrev pub RefusedOutStays : (ℕ → Type 0) → List ℕ → Outcome → Type 0
RefusedOutStays Refused out c = Refused c.answer → c.out ≡ out

-- it holds of both ways, so of the one that is taken
either : (Refused : ℕ → Type 0) (out : List ℕ) (t : Bool) {x y : Outcome} → RefusedOutStays Refused out x → RefusedOutStays Refused out y
    → RefusedOutStays Refused out (cond t x y)
either Refused out true p q = p
either Refused out false p q = q

-- An answer that is not 0 is a refusal, or says absent.
abbrev pub NotDone : ℕ → Type 0
NotDone r = r ≡ 0 → ⊥

pub header_encode_refused_out_stays : (u l g : ℕ) (path out : List ℕ) → RefusedOutStays NotDone out (encode_call u l g path out)
unfolding encode_call
header_encode_refused_out_stays u l g path out =
    either NotDone out (not (is_text path)) (λ n. refl)
    (either NotDone out (ltb max_path (length path)) (λ n. refl)
    (either NotDone out (ltb (length out) block_len) (λ n. refl)
    (λ n. absurd (n refl))))

pub header_decode_refused_out_stays : (block out : List ℕ) → RefusedOutStays NotDone out (decode_call block out)
unfolding decode_call
header_decode_refused_out_stays block out = either NotDone out (ltb (length out) 32) (λ n. refl) (said (decoded (take block_len block) (length block)))
  where
    said : (d : Option Header) → RefusedOutStays NotDone out (said_of out d)
    said None = λ n. refl
    said (Some h) = λ n. absurd (n refl)

-- From 2^32 on an answer with a value has a number. The count of a spelling stays below, as out has fewer bytes than that.
abbrev pub Numbered : ℕ → Type 0
Numbered r = 2 ^ 32 ≤ r

spelled_out_stays : (s out : List ℕ) → length out < 2 ^ 32 → RefusedOutStays Numbered out (spelled s out)
unfolding spelled
spelled_out_stays s out h = go (ltb (length out) (length s)) refl
  where
    go : (t : Bool) → ltb (length out) (length s) ≡ t → RefusedOutStays Numbered out (cond t (outcome (refusal 13) out) (outcome (length s) (laid out 0 s)))
    go true e = λ n. refl
    go false e = λ n. absurd (omega (arith, ltb-false (length out) (length s) e))

pub path_normal_refused_out_stays : (path out : List ℕ) → length out < 2 ^ 32 → RefusedOutStays Numbered out (normal_call path out)
unfolding normal_call
path_normal_refused_out_stays path out h = either Numbered out (not (is_text path)) (λ n. refl) (spelled_out_stays (normal path) out h)

pub path_parent_refused_out_stays : (path out : List ℕ) → length out < 2 ^ 32 → RefusedOutStays Numbered out (parent_call path out)
unfolding parent_call
path_parent_refused_out_stays path out h =
    either Numbered out (not (is_text path)) (λ n. refl)
    (either Numbered out (not (has_parent (components path))) (λ n. refl) (spelled_out_stays (parent_of path) out h))
