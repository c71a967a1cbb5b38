-- One law for each way out: `release_stopped`, `release_done`.
use Rattle.pool_state.specs.InBuffers.{pool_rows}
use Rattle.pool_steps.proofs.Ways.{on_device, room, release_stopped, release_done}
use Rattle.pool_steps.proofs.release.Goals as goal

pub unbind_row-requires : goal.unbind_row-requires
unbind_row-requires c =
    (pool_rows _ c.requires.ready.pool, c.requires.slot_lt_held.0)

pub next_generation-spent-requires : goal.next_generation-spent-requires
next_generation-spent-requires c =
    c.requires.slot_lt_held.2

pub free_slot-freed-requires : goal.free_slot-freed-requires
free_slot-freed-requires c =
    on_device _ _ _ c.requires.ready c.requires.slot_lt_held.0

pub returns-then-last-ne0 : goal.returns-then-last-ne0
returns-then-last-ne0 c =
    release_stopped _ _ c.requires.ready _ c.requires.slot_lt_held.0 c.requires.slot_lt_held.1 _ _ _ c.unbind_row.ensures.rows c.unbind_row.ensures.flat _ c.next_generation-spent.ensures _
    c.free_slot-freed.ensures.same c.if-last-ne0.true

pub push_free-requires : goal.push_free-requires
push_free-requires c =
    room _ _ c.requires.ready _ c.requires.slot_lt_held.0 c.requires.slot_lt_held.1 _ c.next_generation-spent.ensures

pub returns : goal.returns
returns c =
    release_done _ _ c.requires.ready _ c.requires.slot_lt_held.0 c.requires.slot_lt_held.1 _ _ _ c.unbind_row.ensures.rows c.unbind_row.ensures.flat _ c.next_generation-spent.ensures _
    c.free_slot-freed.ensures.same _ c.if-last-ne0.false c.push_free.ensures
