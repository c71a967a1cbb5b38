-- The contract of each exported call, as the checker has it: it asks for nothing (`..IsTotal`), it is the equation with the call's
-- definition (`..IsCall`), and two ends that it allows are the same, in the answer and in every byte of the lent buffer (`..OneOutcome`).
use Rattle.std.specs.Prelude.{ℕ, ◌≡◌}
use seplogic.Ra.Ura.{Ura}
use base.Logic.{SProp}
use prog.Memory.{Memory}
use prog.Routine.{Routine}
use types.Logic.{Logic}
use contract.Monad.{Fun}
use contract.Lifetimes.{Lfts}
use contract.Notation as Notation
use denote.Triple.Entry.{Args, Res}
use denote.Triple.Clauses.{AtExit}
use Rattle.fnv.specs.Fnv.{fnv_from}
use Rattle.output.specs.Writer.{Shown, shown, poured}
use Rattle.script.specs.Script.{script_m}
use Rattle.harness.specs.Calls.{Outcome, outcome, encode_call, decode_call, text_call, same_call, normal_call, parent_call}
use Rattle.harness.specs.Calls.{record_call, lookups_call}
use Rattle.harness.specs.contracts.slot_check as slot-check
use Rattle.harness.specs.contracts.header_encode as header-encode
use Rattle.harness.specs.contracts.header_decode as header-decode
use Rattle.harness.specs.contracts.text_is as text-is
use Rattle.harness.specs.contracts.path_same as path-same
use Rattle.harness.specs.contracts.path_normal as path-normal
use Rattle.harness.specs.contracts.path_parent as path_parent
use Rattle.harness.specs.contracts.pool_script as pool-script
use Rattle.harness.specs.contracts.record_check as record-check
use Rattle.harness.specs.contracts.record_lookups as record-lookups
use Rattle.promises_tied.specs.Decided.{Decided}

module _ {M : Type 1} {𝓤 : Ura M} (𝓛 : Logic 𝓤) (mem : Memory → SProp 𝓤) (run : Routine → Fun 𝓤) where
  abbrev 𝓝 : Notation.Connectives 𝓤
  𝓝 = Notation.connectives 𝓤

  open 𝓝 use {⌜◌⌝, ⊤ₛ}

  -- slot_check: what its end shows, and what it comes to.
  module _ (κs : Lfts 1) (a : Args slot-check.signature κs) where
    abbrev pub slot_check_sees : Res slot-check.signature κs → AtExit slot-check.ended κs → ℕ
    slot_check_sees r z = r

    abbrev pub slot_check_call : ℕ
    slot_check_call =
        fnv_from a.0 a.1.0.now

    abbrev pub SlotCheckIsTotal : Type 2
    SlotCheckIsTotal = (slot-check.clauses 𝓛 mem run κs a).requires tt ≡ ⊤ₛ

    abbrev pub SlotCheckIsCall : Type 2
    SlotCheckIsCall = (r : Res slot-check.signature κs) (z : AtExit slot-check.ended κs)
        → (slot-check.clauses 𝓛 mem run κs a).ensures tt r z ≡ ⌜ slot_check_sees r z ≡ slot_check_call ⌝

    abbrev pub SlotCheckOneOutcome : Type 1
    SlotCheckOneOutcome = Decided 𝓤 slot-check.ended (slot-check.clauses 𝓛 mem run) κs a slot_check_sees

  -- header_encode: what its end shows, and what it comes to.
  module _ (κs : Lfts 2) (a : Args header-encode.signature κs) where
    abbrev pub header_encode_sees : Res header-encode.signature κs → AtExit header-encode.ended κs → Outcome
    header_encode_sees r z = outcome r z.1.1.1.1.0.now

    abbrev pub header_encode_call : Outcome
    header_encode_call =
        encode_call a.0 a.1.0 a.1.1.0 a.1.1.1.0.now a.1.1.1.1.0.now

    abbrev pub HeaderEncodeIsTotal : Type 2
    HeaderEncodeIsTotal = (header-encode.clauses 𝓛 mem run κs a).requires tt ≡ ⊤ₛ

    abbrev pub HeaderEncodeIsCall : Type 2
    HeaderEncodeIsCall = (r : Res header-encode.signature κs) (z : AtExit header-encode.ended κs)
        → (header-encode.clauses 𝓛 mem run κs a).ensures tt r z ≡ ⌜ header_encode_sees r z ≡ header_encode_call ⌝

    abbrev pub HeaderEncodeOneOutcome : Type 1
    HeaderEncodeOneOutcome = Decided 𝓤 header-encode.ended (header-encode.clauses 𝓛 mem run) κs a header_encode_sees

  -- header_decode: what its end shows, and what it comes to.
  module _ (κs : Lfts 2) (a : Args header-decode.signature κs) where
    abbrev pub header_decode_sees : Res header-decode.signature κs → AtExit header-decode.ended κs → Outcome
    header_decode_sees r z = outcome r z.1.0.now

    abbrev pub header_decode_call : Outcome
    header_decode_call =
        decode_call a.0.now a.1.0.now

    abbrev pub HeaderDecodeIsTotal : Type 2
    HeaderDecodeIsTotal = (header-decode.clauses 𝓛 mem run κs a).requires tt ≡ ⊤ₛ

    abbrev pub HeaderDecodeIsCall : Type 2
    HeaderDecodeIsCall = (r : Res header-decode.signature κs) (z : AtExit header-decode.ended κs)
        → (header-decode.clauses 𝓛 mem run κs a).ensures tt r z ≡ ⌜ header_decode_sees r z ≡ header_decode_call ⌝

    abbrev pub HeaderDecodeOneOutcome : Type 1
    HeaderDecodeOneOutcome = Decided 𝓤 header-decode.ended (header-decode.clauses 𝓛 mem run) κs a header_decode_sees

  -- text_is: what its end shows, and what it comes to.
  module _ (κs : Lfts 1) (a : Args text-is.signature κs) where
    abbrev pub text_is_sees : Res text-is.signature κs → AtExit text-is.ended κs → ℕ
    text_is_sees r z = r

    abbrev pub text_is_call : ℕ
    text_is_call =
        text_call a.0.now

    abbrev pub TextIsIsTotal : Type 2
    TextIsIsTotal = (text-is.clauses 𝓛 mem run κs a).requires tt ≡ ⊤ₛ

    abbrev pub TextIsIsCall : Type 2
    TextIsIsCall = (r : Res text-is.signature κs) (z : AtExit text-is.ended κs)
        → (text-is.clauses 𝓛 mem run κs a).ensures tt r z ≡ ⌜ text_is_sees r z ≡ text_is_call ⌝

    abbrev pub TextIsOneOutcome : Type 1
    TextIsOneOutcome = Decided 𝓤 text-is.ended (text-is.clauses 𝓛 mem run) κs a text_is_sees

  -- path_same: what its end shows, and what it comes to.
  module _ (κs : Lfts 2) (a : Args path-same.signature κs) where
    abbrev pub path_same_sees : Res path-same.signature κs → AtExit path-same.ended κs → ℕ
    path_same_sees r z = r

    abbrev pub path_same_call : ℕ
    path_same_call =
        same_call a.0.now a.1.0.now

    abbrev pub PathSameIsTotal : Type 2
    PathSameIsTotal = (path-same.clauses 𝓛 mem run κs a).requires tt ≡ ⊤ₛ

    abbrev pub PathSameIsCall : Type 2
    PathSameIsCall = (r : Res path-same.signature κs) (z : AtExit path-same.ended κs)
        → (path-same.clauses 𝓛 mem run κs a).ensures tt r z ≡ ⌜ path_same_sees r z ≡ path_same_call ⌝

    abbrev pub PathSameOneOutcome : Type 1
    PathSameOneOutcome = Decided 𝓤 path-same.ended (path-same.clauses 𝓛 mem run) κs a path_same_sees

  -- path_normal: what its end shows, and what it comes to.
  module _ (κs : Lfts 2) (a : Args path-normal.signature κs) where
    abbrev pub path_normal_sees : Res path-normal.signature κs → AtExit path-normal.ended κs → Outcome
    path_normal_sees r z = outcome r z.1.0.now

    abbrev pub path_normal_call : Outcome
    path_normal_call =
        normal_call a.0.now a.1.0.now

    abbrev pub PathNormalIsTotal : Type 2
    PathNormalIsTotal = (path-normal.clauses 𝓛 mem run κs a).requires tt ≡ ⊤ₛ

    abbrev pub PathNormalIsCall : Type 2
    PathNormalIsCall = (r : Res path-normal.signature κs) (z : AtExit path-normal.ended κs)
        → (path-normal.clauses 𝓛 mem run κs a).ensures tt r z ≡ ⌜ path_normal_sees r z ≡ path_normal_call ⌝

    abbrev pub PathNormalOneOutcome : Type 1
    PathNormalOneOutcome = Decided 𝓤 path-normal.ended (path-normal.clauses 𝓛 mem run) κs a path_normal_sees

  -- path_parent: what its end shows, and what it comes to.
  module _ (κs : Lfts 2) (a : Args path_parent.signature κs) where
    abbrev pub path_parent_sees : Res path_parent.signature κs → AtExit path_parent.ended κs → Outcome
    path_parent_sees r z = outcome r z.1.0.now

    abbrev pub path_parent_call : Outcome
    path_parent_call =
        parent_call a.0.now a.1.0.now

    abbrev pub PathParentIsTotal : Type 2
    PathParentIsTotal = (path_parent.clauses 𝓛 mem run κs a).requires tt ≡ ⊤ₛ

    abbrev pub PathParentIsCall : Type 2
    PathParentIsCall = (r : Res path_parent.signature κs) (z : AtExit path_parent.ended κs)
        → (path_parent.clauses 𝓛 mem run κs a).ensures tt r z ≡ ⌜ path_parent_sees r z ≡ path_parent_call ⌝

    abbrev pub PathParentOneOutcome : Type 1
    PathParentOneOutcome = Decided 𝓤 path_parent.ended (path_parent.clauses 𝓛 mem run) κs a path_parent_sees

  -- pool_script: what its end shows, and what it comes to.
  module _ (κs : Lfts 2) (a : Args pool-script.signature κs) where
    abbrev pub pool_script_sees : Res pool-script.signature κs → AtExit pool-script.ended κs → Shown
    pool_script_sees r z = shown z.1.0.now r

    abbrev pub pool_script_call : Shown
    pool_script_call =
        poured (script_m a.0.now) a.1.0.now

    abbrev pub PoolScriptIsTotal : Type 2
    PoolScriptIsTotal = (pool-script.clauses 𝓛 mem run κs a).requires tt ≡ ⊤ₛ

    abbrev pub PoolScriptIsCall : Type 2
    PoolScriptIsCall = (r : Res pool-script.signature κs) (z : AtExit pool-script.ended κs)
        → (pool-script.clauses 𝓛 mem run κs a).ensures tt r z ≡ ⌜ pool_script_sees r z ≡ pool_script_call ⌝

    abbrev pub PoolScriptOneOutcome : Type 1
    PoolScriptOneOutcome = Decided 𝓤 pool-script.ended (pool-script.clauses 𝓛 mem run) κs a pool_script_sees

  -- record_check: what its end shows, and what it comes to.
  module _ (κs : Lfts 3) (a : Args record-check.signature κs) where
    abbrev pub record_check_sees : Res record-check.signature κs → AtExit record-check.ended κs → ℕ
    record_check_sees r z = r

    abbrev pub record_check_call : ℕ
    record_check_call =
        record_call a.0.now a.1.0.now a.1.1.0.now a.1.1.1.0 a.1.1.1.1.0 a.1.1.1.1.1.0
        a.1.1.1.1.1.1.0 a.1.1.1.1.1.1.1.0

    abbrev pub RecordCheckIsTotal : Type 2
    RecordCheckIsTotal = (record-check.clauses 𝓛 mem run κs a).requires tt ≡ ⊤ₛ

    abbrev pub RecordCheckIsCall : Type 2
    RecordCheckIsCall = (r : Res record-check.signature κs) (z : AtExit record-check.ended κs)
        → (record-check.clauses 𝓛 mem run κs a).ensures tt r z ≡ ⌜ record_check_sees r z ≡ record_check_call ⌝

    abbrev pub RecordCheckOneOutcome : Type 1
    RecordCheckOneOutcome = Decided 𝓤 record-check.ended (record-check.clauses 𝓛 mem run) κs a record_check_sees

  -- record_lookups: what its end shows, and what it comes to.
  module _ (κs : Lfts 4) (a : Args record-lookups.signature κs) where
    abbrev pub record_lookups_sees : Res record-lookups.signature κs → AtExit record-lookups.ended κs → ℕ
    record_lookups_sees r z = r

    abbrev pub record_lookups_call : ℕ
    record_lookups_call =
        lookups_call a.0.now a.1.0.now a.1.1.0.now a.1.1.1.0 a.1.1.1.1.0 a.1.1.1.1.1.0
        a.1.1.1.1.1.1.0 a.1.1.1.1.1.1.1.0 a.1.1.1.1.1.1.1.1.0.now a.1.1.1.1.1.1.1.1.1.0

    abbrev pub RecordLookupsIsTotal : Type 2
    RecordLookupsIsTotal = (record-lookups.clauses 𝓛 mem run κs a).requires tt ≡ ⊤ₛ

    abbrev pub RecordLookupsIsCall : Type 2
    RecordLookupsIsCall = (r : Res record-lookups.signature κs) (z : AtExit record-lookups.ended κs)
        → (record-lookups.clauses 𝓛 mem run κs a).ensures tt r z ≡ ⌜ record_lookups_sees r z ≡ record_lookups_call ⌝

    abbrev pub RecordLookupsOneOutcome : Type 1
    RecordLookupsOneOutcome = Decided 𝓤 record-lookups.ended (record-lookups.clauses 𝓛 mem run) κs a record_lookups_sees
