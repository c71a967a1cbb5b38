-- Carried by `both_put`: two runs, one behind the other, are one.
use Rattle.inner_list.proofs.Ways.{files_fit, dirs_fit, both_put}
use Rattle.inner_list.proofs.fill.Goals as goal

pub put_entries-at-requires : goal.put_entries-at-requires
put_entries-at-requires c =
    files_fit _ _ _ _ _ _ c.args.buf.now c.requires.0 c.requires.1 c.sort.ensures
    c.sort-2.ensures c.requires.2

pub put_entries-requires : goal.put_entries-requires
put_entries-requires c =
    dirs_fit _ _ _ _ _ _ c.args.buf.now c.requires.0 c.requires.1 c.sort.ensures
    c.sort-2.ensures c.requires.2 _ _ (c.put_entries-at.ensures.end, c.put_entries-at.ensures.written)

pub returns : goal.returns
returns c =
    let p = both_put _ _ _ _ _ _ c.args.buf.now c.requires.0 c.requires.1 c.sort.ensures
    c.sort-2.ensures c.requires.2 _ _ (c.put_entries-at.ensures.end, c.put_entries-at.ensures.written) _ _
    (c.put_entries.ensures.end, c.put_entries.ensures.written) in
    record { size = p.0; first = c.sort.ensures; second = c.sort-2.ensures; written = p.1 }
