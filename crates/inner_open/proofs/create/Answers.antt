-- One law for each way out: `create_stopped`, `create_done`.
use mathlib.Core.Path.{refl}
use Rattle.inner_open.proofs.Ways.{spend_room, slot_device, push_room, bind_ready, answered, create_stopped, create_done}
use Rattle.inner_open.proofs.create.Goals as goal

pub pop_free-popped-requires : goal.pop_free-popped-requires
pop_free-popped-requires c =
    c.requires.free_nonzero.0

pub next_generation-spent-requires : goal.next_generation-spent-requires
next_generation-spent-requires c =
    spend_room _ _ c.requires.ready c.requires.free_nonzero.0 c.requires.free_nonzero.1 _ c.pop_free-popped.ensures

pub data_truncate-cut-requires : goal.data_truncate-cut-requires
data_truncate-cut-requires c =
    let all = slot_device _ _ c.requires.ready c.requires.free_nonzero.0 c.requires.free_nonzero.1 _ c.pop_free-popped.ensures in
    record { shape = all.0; slot_in_bounds = all.1 }

pub push_free-requires : goal.push_free-requires
push_free-requires c =
    push_room _ _ c.requires.ready c.requires.free_nonzero.0 c.requires.free_nonzero.1 _ c.pop_free-popped.ensures _
    c.next_generation-spent.ensures

pub returns-then-last-ne0 : goal.returns-then-last-ne0
returns-then-last-ne0 c =
    answered _ _ _ _ _ _ _ _ c.refused.ensures
    (create_stopped _ _ c.requires.ready c.requires.free_nonzero.0 c.requires.free_nonzero.1 _ c.pop_free-popped.ensures _
    c.next_generation-spent.ensures _ _ _ c.data_truncate-cut.ensures.same
    c.if-last-ne0.true _ c.push_free.ensures)

pub bind-made-requires : goal.bind-made-requires
bind-made-requires c =
    let all = bind_ready _ _ c.requires.ready c.requires.free_nonzero.0 c.requires.free_nonzero.1 _ c.pop_free-popped.ensures _
    c.next_generation-spent.ensures _ c.requires.free_nonzero.2 c.requires.path_len_bound in
    record { pool = all.0; path_len_bound = all.1 }

pub returns : goal.returns
returns c =
    create_done _ _ c.requires.ready c.requires.free_nonzero.0 c.requires.free_nonzero.1 _ c.pop_free-popped.ensures _
    c.next_generation-spent.ensures _ _ _ c.data_truncate-cut.ensures.same
    c.if-last-ne0.false _ refl _ c.bind-made.ensures
