-- One law for each way out: `rows_many`, `dirs_many`, `nums_cut`, `names_differ`, `names_agree`.
use Rattle.calls_gate.proofs.Tests.{rows_many, dirs_many, nums_cut, names_differ, names_agree}
use Rattle.calls_gate.proofs.rows_ok.Goals as goal

pub returns-then-cap-gt64 : goal.returns-then-cap-gt64
returns-then-cap-gt64 c =
    rows_many _ _ _ c.if-cap-gt64.true

pub returns-then-dir_cap-gt256 : goal.returns-then-dir_cap-gt256
returns-then-dir_cap-gt256 c =
    dirs_many _ _ _ c.if-cap-gt64.false c.if-dir_cap-gt256.true

pub returns-then-nums-cap : goal.returns-then-nums-cap
returns-then-nums-cap c =
    nums_cut _ _ _ c.if-cap-gt64.false c.if-dir_cap-gt256.false c.if-nums-cap.true

pub returns-then-names-cap : goal.returns-then-names-cap
returns-then-names-cap c =
    names_differ _ _ _ c.if-cap-gt64.false c.if-dir_cap-gt256.false c.if-nums-cap.false c.if-names-cap.true

pub returns : goal.returns
returns c =
    names_agree _ _ _ c.if-cap-gt64.false c.if-dir_cap-gt256.false c.if-nums-cap.false c.if-names-cap.false
