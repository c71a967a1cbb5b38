-- One law for each way out: `remove_none`, `remove_last`, `remove_done`.
use Rattle.pool_state.specs.InBuffers.{pool_rows}
use Rattle.inner_open.proofs.Ways.{file_busy, remove_none, remove_last, remove_done}
use Rattle.inner_open.proofs.remove_file.Goals as goal

pub find_row-i-requires : goal.find_row-i-requires
find_row-i-requires c =
    pool_rows _ c.requires.pool

pub returns-then-n-i : goal.returns-then-n-i
returns-then-n-i c =
    remove_none _ _ _ _ c.requires.pool _ c.find_row-i.ensures.row c.if-n-i.true

pub returns-then-counter-ge-LAST_COUNTER : goal.returns-then-counter-ge-LAST_COUNTER
returns-then-counter-ge-LAST_COUNTER c =
    remove_last _ _ _ _ c.requires.pool _ c.find_row-i.ensures.row c.if-n-i.false c.if-counter-ge-LAST_COUNTER.true

pub release-released-requires : goal.release-released-requires
release-released-requires c =
    let p = c.requires in record {
      ready = p;
      slot_lt_held = (
        c.if-n-i.false,
        file_busy _ p.pool _ _ c.find_row-i.ensures.row c.if-n-i.false,
        c.if-counter-ge-LAST_COUNTER.false,
      );
    }

pub returns : goal.returns
returns c =
    let p = c.requires in
    remove_done _ _ _ _ p.pool _ c.find_row-i.ensures.row c.if-n-i.false c.if-counter-ge-LAST_COUNTER.false _ _
    c.release-released.ensures
