-- The statements of specs/Exports.antt: each tie computes, and what both ends are decides.
use mathlib.Core.Path.{refl}
use seplogic.Ra.Ura.{Ura}
use base.Logic.{SProp}
use prog.Memory.{Memory}
use prog.Routine.{Routine}
use types.Logic.{Logic}
use contract.Monad.{Fun}
use contract.Lifetimes.{Lfts}
use denote.Triple.Entry.{Args}
use Rattle.harness.specs.contracts.slot_check as slot-check
use Rattle.harness.specs.contracts.header_encode as header-encode
use Rattle.harness.specs.contracts.header_decode as header-decode
use Rattle.harness.specs.contracts.text_is as text-is
use Rattle.harness.specs.contracts.path_same as path-same
use Rattle.harness.specs.contracts.path_normal as path-normal
use Rattle.harness.specs.contracts.path_parent as path_parent
use Rattle.harness.specs.contracts.pool_script as pool-script
use Rattle.harness.specs.contracts.record_check as record-check
use Rattle.harness.specs.contracts.record_lookups as record-lookups
use Rattle.promises_tied.specs.Exports.{slot_check_sees, slot_check_call, SlotCheckIsTotal, SlotCheckIsCall, SlotCheckOneOutcome}
use Rattle.promises_tied.specs.Exports.{header_encode_sees, header_encode_call, HeaderEncodeIsTotal, HeaderEncodeIsCall}
use Rattle.promises_tied.specs.Exports.{HeaderEncodeOneOutcome}
use Rattle.promises_tied.specs.Exports.{header_decode_sees, header_decode_call, HeaderDecodeIsTotal, HeaderDecodeIsCall}
use Rattle.promises_tied.specs.Exports.{HeaderDecodeOneOutcome}
use Rattle.promises_tied.specs.Exports.{text_is_sees, text_is_call, TextIsIsTotal, TextIsIsCall, TextIsOneOutcome}
use Rattle.promises_tied.specs.Exports.{path_same_sees, path_same_call, PathSameIsTotal, PathSameIsCall, PathSameOneOutcome}
use Rattle.promises_tied.specs.Exports.{path_normal_sees, path_normal_call, PathNormalIsTotal, PathNormalIsCall, PathNormalOneOutcome}
use Rattle.promises_tied.specs.Exports.{path_parent_sees, path_parent_call, PathParentIsTotal, PathParentIsCall, PathParentOneOutcome}
use Rattle.promises_tied.specs.Exports.{pool_script_sees, pool_script_call, PoolScriptIsTotal, PoolScriptIsCall, PoolScriptOneOutcome}
use Rattle.promises_tied.specs.Exports.{record_check_sees, record_check_call, RecordCheckIsTotal, RecordCheckIsCall}
use Rattle.promises_tied.specs.Exports.{RecordCheckOneOutcome}
use Rattle.promises_tied.specs.Exports.{record_lookups_sees, record_lookups_call, RecordLookupsIsTotal, RecordLookupsIsCall}
use Rattle.promises_tied.specs.Exports.{RecordLookupsOneOutcome}
use Rattle.promises_tied.proofs.Facts.{alike, both_facts}

module _ {M : Type 1} {𝓤 : Ura M} (𝓛 : Logic 𝓤) (mem : Memory → SProp 𝓤) (run : Routine → Fun 𝓤) where
  module _ (κs : Lfts 1) (a : Args slot-check.signature κs) where
    pub slot_check_is_total : SlotCheckIsTotal 𝓛 mem run κs a
    slot_check_is_total = refl

    pub slot_check_is_call : SlotCheckIsCall 𝓛 mem run κs a
    slot_check_is_call r z = refl

    pub slot_check_one_outcome : SlotCheckOneOutcome 𝓛 mem run κs a
    slot_check_one_outcome g h r s y z =
        let v = slot_check_sees 𝓛 mem run κs a r y in
        let w = slot_check_sees 𝓛 mem run κs a s z in
        both_facts 𝓤 _ _ _ (alike (slot_check_call 𝓛 mem run κs a) v w)

  module _ (κs : Lfts 2) (a : Args header-encode.signature κs) where
    pub header_encode_is_total : HeaderEncodeIsTotal 𝓛 mem run κs a
    header_encode_is_total = refl

    pub header_encode_is_call : HeaderEncodeIsCall 𝓛 mem run κs a
    header_encode_is_call r z = refl

    pub header_encode_one_outcome : HeaderEncodeOneOutcome 𝓛 mem run κs a
    header_encode_one_outcome g h r s y z =
        let v = header_encode_sees 𝓛 mem run κs a r y in
        let w = header_encode_sees 𝓛 mem run κs a s z in
        both_facts 𝓤 _ _ _ (alike (header_encode_call 𝓛 mem run κs a) v w)

  module _ (κs : Lfts 2) (a : Args header-decode.signature κs) where
    pub header_decode_is_total : HeaderDecodeIsTotal 𝓛 mem run κs a
    header_decode_is_total = refl

    pub header_decode_is_call : HeaderDecodeIsCall 𝓛 mem run κs a
    header_decode_is_call r z = refl

    pub header_decode_one_outcome : HeaderDecodeOneOutcome 𝓛 mem run κs a
    header_decode_one_outcome g h r s y z =
        let v = header_decode_sees 𝓛 mem run κs a r y in
        let w = header_decode_sees 𝓛 mem run κs a s z in
        both_facts 𝓤 _ _ _ (alike (header_decode_call 𝓛 mem run κs a) v w)

  module _ (κs : Lfts 1) (a : Args text-is.signature κs) where
    pub text_is_is_total : TextIsIsTotal 𝓛 mem run κs a
    text_is_is_total = refl

    pub text_is_is_call : TextIsIsCall 𝓛 mem run κs a
    text_is_is_call r z = refl

    pub text_is_one_outcome : TextIsOneOutcome 𝓛 mem run κs a
    text_is_one_outcome g h r s y z =
        let v = text_is_sees 𝓛 mem run κs a r y in
        let w = text_is_sees 𝓛 mem run κs a s z in
        both_facts 𝓤 _ _ _ (alike (text_is_call 𝓛 mem run κs a) v w)

  module _ (κs : Lfts 2) (a : Args path-same.signature κs) where
    pub path_same_is_total : PathSameIsTotal 𝓛 mem run κs a
    path_same_is_total = refl

    pub path_same_is_call : PathSameIsCall 𝓛 mem run κs a
    path_same_is_call r z = refl

    pub path_same_one_outcome : PathSameOneOutcome 𝓛 mem run κs a
    path_same_one_outcome g h r s y z =
        let v = path_same_sees 𝓛 mem run κs a r y in
        let w = path_same_sees 𝓛 mem run κs a s z in
        both_facts 𝓤 _ _ _ (alike (path_same_call 𝓛 mem run κs a) v w)

  module _ (κs : Lfts 2) (a : Args path-normal.signature κs) where
    pub path_normal_is_total : PathNormalIsTotal 𝓛 mem run κs a
    path_normal_is_total = refl

    pub path_normal_is_call : PathNormalIsCall 𝓛 mem run κs a
    path_normal_is_call r z = refl

    pub path_normal_one_outcome : PathNormalOneOutcome 𝓛 mem run κs a
    path_normal_one_outcome g h r s y z =
        let v = path_normal_sees 𝓛 mem run κs a r y in
        let w = path_normal_sees 𝓛 mem run κs a s z in
        both_facts 𝓤 _ _ _ (alike (path_normal_call 𝓛 mem run κs a) v w)

  module _ (κs : Lfts 2) (a : Args path_parent.signature κs) where
    pub path_parent_is_total : PathParentIsTotal 𝓛 mem run κs a
    path_parent_is_total = refl

    pub path_parent_is_call : PathParentIsCall 𝓛 mem run κs a
    path_parent_is_call r z = refl

    pub path_parent_one_outcome : PathParentOneOutcome 𝓛 mem run κs a
    path_parent_one_outcome g h r s y z =
        let v = path_parent_sees 𝓛 mem run κs a r y in
        let w = path_parent_sees 𝓛 mem run κs a s z in
        both_facts 𝓤 _ _ _ (alike (path_parent_call 𝓛 mem run κs a) v w)

  module _ (κs : Lfts 2) (a : Args pool-script.signature κs) where
    pub pool_script_is_total : PoolScriptIsTotal 𝓛 mem run κs a
    pool_script_is_total = refl

    pub pool_script_is_call : PoolScriptIsCall 𝓛 mem run κs a
    pool_script_is_call r z = refl

    pub pool_script_one_outcome : PoolScriptOneOutcome 𝓛 mem run κs a
    pool_script_one_outcome g h r s y z =
        let v = pool_script_sees 𝓛 mem run κs a r y in
        let w = pool_script_sees 𝓛 mem run κs a s z in
        both_facts 𝓤 _ _ _ (alike (pool_script_call 𝓛 mem run κs a) v w)

  module _ (κs : Lfts 3) (a : Args record-check.signature κs) where
    pub record_check_is_total : RecordCheckIsTotal 𝓛 mem run κs a
    record_check_is_total = refl

    pub record_check_is_call : RecordCheckIsCall 𝓛 mem run κs a
    record_check_is_call r z = refl

    pub record_check_one_outcome : RecordCheckOneOutcome 𝓛 mem run κs a
    record_check_one_outcome g h r s y z =
        let v = record_check_sees 𝓛 mem run κs a r y in
        let w = record_check_sees 𝓛 mem run κs a s z in
        both_facts 𝓤 _ _ _ (alike (record_check_call 𝓛 mem run κs a) v w)

  module _ (κs : Lfts 4) (a : Args record-lookups.signature κs) where
    pub record_lookups_is_total : RecordLookupsIsTotal 𝓛 mem run κs a
    record_lookups_is_total = refl

    pub record_lookups_is_call : RecordLookupsIsCall 𝓛 mem run κs a
    record_lookups_is_call r z = refl

    pub record_lookups_one_outcome : RecordLookupsOneOutcome 𝓛 mem run κs a
    record_lookups_one_outcome g h r s y z =
        let v = record_lookups_sees 𝓛 mem run κs a r y in
        let w = record_lookups_sees 𝓛 mem run κs a s z in
        both_facts 𝓤 _ _ _ (alike (record_lookups_call 𝓛 mem run κs a) v w)
