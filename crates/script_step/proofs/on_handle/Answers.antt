-- Each way out by what its tests say.
use Rattle.script_step.proofs.Ways.{is_read, is_write, is_set_len, is_file_len, is_sync}
use Rattle.script_step.proofs.on_handle.Goals as goal

pub returns-then-code-eq5 : goal.returns-then-code-eq5
returns-then-code-eq5 c =
    is_read _ c.if-code-eq5.true

pub returns-then-code-eq6 : goal.returns-then-code-eq6
returns-then-code-eq6 c =
    is_write _ c.if-code-eq5.false c.if-code-eq6.true

pub returns-then-code-eq7 : goal.returns-then-code-eq7
returns-then-code-eq7 c =
    is_set_len _ c.if-code-eq5.false c.if-code-eq6.false c.if-code-eq7.true

pub returns-then-code-eq8 : goal.returns-then-code-eq8
returns-then-code-eq8 c =
    is_file_len _ c.if-code-eq5.false c.if-code-eq6.false c.if-code-eq7.false c.if-code-eq8.true

pub returns : goal.returns
returns c =
    is_sync _ c.if-code-eq5.false c.if-code-eq6.false c.if-code-eq7.false c.if-code-eq8.false
