-- The format of the exported calls: what each answers, and what the buffer that was lent to it then holds. (`slot_check` answers `fnv_from`.)
use Rattle.std.specs.Prelude.{None, Option, Some}
use Rattle.std.specs.Prelude.{ℕ, ◌*◌, ◌^◌, cond, not, List, ◌++◌, length, take, replicate, eqb, ltb}
use Rattle.le.specs.Le.{le, laid}
use Rattle.text.specs.Text.{is_text}
use Rattle.path.specs.Path.{components, same_path, has_parent, normal, parent_of}
use Rattle.header.specs.Block.{block_len, max_path, header_of, flags_of, encoded, decoded}
use Rattle.header.specs.declared.Header.{Header}
use Rattle.pool_state.specs.declared.Pool.{Pool}
use Rattle.pool_state.specs.State.{State, bufs, view, choosing}
use Rattle.pool_test.specs.Test.{is_pool}
use Rattle.inner_open.specs.Files.{open_read_m}

-- What a call leaves: its answer, and the lent buffer.
pub record Outcome : Type 0 where
  pub answer : ℕ
  pub out : List ℕ

abbrev pub outcome : ℕ → List ℕ → Outcome
outcome r o = record { answer = r; out = o }

-- "An answer with a value is number * 2^32 + value .. and value is 0 in a refusal."
unfoldable pub refusal : ℕ → ℕ
refusal number = number * 2 ^ 32

-- ---- header

-- header_encode: "0 and the block in out's first 512 bytes; 3, then 4, then 13 (out below 512 bytes), out unchanged. in_use: 0 is free, anything
-- else in use". The block carries the path and the length as they were given, in use or not.
unfoldable pub encode_call : ℕ → ℕ → ℕ → List ℕ → List ℕ → Outcome
encode_call in_use len generation path out =
    cond (not (is_text path)) (outcome 3 out)
    (cond (ltb max_path (length path)) (outcome 4 out)
    (cond (ltb (length out) block_len) (outcome 13 out)
    (outcome 0 (laid out 0 (encoded (header_of (not (eqb in_use 0)) (length path) len generation) path)))))

-- "in_use, path length, file length, generation as four u64".
unfoldable pub numbers_of : Header → List ℕ
numbers_of h = le 8 (flags_of h.in_use) ++ le 8 h.path_len ++ le 8 h.len ++ le 8 h.generation

-- The outcome for each case of what a block says: 1 for absent, 0 and its numbers for a header.
abbrev pub said_of : List ℕ → Option Header → Outcome
said_of out None = outcome 1 out
said_of out (Some h) = outcome 0 (laid out 0 (numbers_of h))

-- header_decode: "out below 32 bytes: 13. Else 0 and .. in out's first 32 bytes; or 1 for absent, out unchanged. The first 512 bytes of block
-- count; fewer are a short read."
unfoldable pub decode_call : List ℕ → List ℕ → Outcome
decode_call block out = cond (ltb (length out) 32) (outcome 13 out) (said_of out (decoded (take block_len block) (length block)))

-- ---- text and paths

-- text_is: "1 if UTF-8, else 0".
unfoldable pub text_call : List ℕ → ℕ
text_call s = cond (is_text s) 1 0

-- path_same: "3 if either isn't text, else 1 or 0".
unfoldable pub same_call : List ℕ → List ℕ → ℕ
same_call a b =
    cond (not (is_text a)) 3
    (cond (not (is_text b)) 3
    (cond (same_path a b) 1 0))

-- A spelling that is to go to the front of out: "13 (out unchanged), else the count of bytes written".
unfoldable pub spelled : List ℕ → List ℕ → Outcome
spelled s out = cond (ltb (length out) (length s)) (outcome (refusal 13) out) (outcome (length s) (laid out 0 s))

-- path_normal: 3, then as any spelling.
unfoldable pub normal_call : List ℕ → List ℕ → Outcome
normal_call path out = cond (not (is_text path)) (outcome (refusal 3) out) (spelled (normal path) out)

-- path_parent: "3, 5 (no parent), 13, else the count of the normal spelling of the parent".
unfoldable pub parent_call : List ℕ → List ℕ → Outcome
parent_call path out =
    cond (not (is_text path)) (outcome (refusal 3) out)
    (cond (not (has_parent (components path))) (outcome (refusal 5) out)
    (spelled (parent_of path) out))

-- ---- the record

-- The record of these counts, with an empty queue.
abbrev pub counted_pool : ℕ → ℕ → ℕ → ℕ → ℕ → Pool
counted_pool rows dir_rows held dirsHeld counter = record {
  chosen = choosing rows dir_rows;
  held = held;
  dirs = dirsHeld;
  counter = counter;
  free = 0;
  queue = replicate 64 0;
}

-- record_check: 1 for a pool, 0 for none.
unfoldable pub record_call : List ℕ → List ℕ → List ℕ → ℕ → ℕ → ℕ → ℕ → ℕ → ℕ
record_call nums names dirs rows dir_rows held dirsHeld counter = cond (is_pool (bufs (counted_pool rows dir_rows held dirsHeld counter) nums names dirs)) 1 0

-- Each of so many searches finds the path, or none does.
unfoldable pub hits : List ℕ → State → ℕ → ℕ
hits path s times = cond (eqb (open_read_m path s).out 0) times 0

-- record_lookups: how many searches found the path, and 0 where it is no pool.
unfoldable pub lookups_call : List ℕ → List ℕ → List ℕ → ℕ → ℕ → ℕ → ℕ → ℕ → List ℕ → ℕ → ℕ
lookups_call nums names dirs rows dir_rows held dirsHeld counter path times =
    let b = bufs (counted_pool rows dir_rows held dirsHeld counter) nums names dirs in
    cond (is_pool b) (hits path (view b) times) 0
