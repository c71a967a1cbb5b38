-- `register_path` meets its contract by `held_done` and `next_done`: the path is there, or is the first row more.
use mathlib.Core.Path.{sym, ◌∙◌}
use Rattle.dir_rows.proofs.Firsts.{held_room, held_done, new_room, next_room, next_done}
use Rattle.dir_rows.proofs.register_path.Goals as goal

pub register_ancestors-requires : goal.register_ancestors-requires
register_ancestors-requires c =
    let s = c.requires in
    let h = sym c.dir_find.ensures ∙ c.if-dir_find.true in
    (s.0, held_room _ _ _ _ s.1 h, s.2)

pub returns-then-dir_find : goal.returns-then-dir_find
returns-then-dir_find c =
    let s = c.requires in
    let h = sym c.dir_find.ensures ∙ c.if-dir_find.true in let all = held_done _ _ _ _ s.1 h _ _ (c.register_ancestors.ensures.rows, c.register_ancestors.ensures.flat) in
    record { rows = all.0; flat = all.1 }

pub put_dir-requires : goal.put_dir-requires
put_dir-requires c =
    let s = c.requires in
    let h = sym c.dir_find.ensures ∙ c.if-dir_find.false in
    (s.0, new_room _ _ _ _ s.1 h, s.2)

pub register_ancestors-requires-2 : goal.register_ancestors-requires-2
register_ancestors-requires-2 c =
    let s = c.requires in
    let h = sym c.dir_find.ensures ∙ c.if-dir_find.false in
    (c.put_dir.ensures.flat, next_room _ _ _ _ s.1 h _ (c.put_dir.ensures.rows, c.put_dir.ensures.flat), s.2)

pub returns : goal.returns
returns c =
    let s = c.requires in
    let h = sym c.dir_find.ensures ∙ c.if-dir_find.false in let all = next_done _ _ _ _ s.1 h _ (c.put_dir.ensures.rows, c.put_dir.ensures.flat) _ _ (c.register_ancestors-2.ensures.rows, c.register_ancestors-2.ensures.flat) in
    record { rows = all.0; flat = all.1 }
