-- One law for each way out: `not_held`, `too_small`, `done`.
use native.Mathlib.Omega.{arith}
use mathlib.Core.Path.{sym, ◌∙◌}
use Rattle.inner_list.proofs.Outs.{files_front, folders_front, dirs_lent, files_ready, dirs_ready, size_low, not_held, too_small, fill_ready, done}
use Rattle.inner_list.proofs.read_dir.Goals as goal

pub dir_find-requires : goal.dir_find-requires
dir_find-requires c =
    dirs_lent _ c.requires c.args.path.now

pub returns-then-not-dir_find : goal.returns-then-not-dir_find
returns-then-not-dir_find c =
    not_held _ c.requires _ _ (sym c.dir_find.ensures ∙ c.if-not-dir_find.true)

pub child_files-f-requires : goal.child_files-f-requires
child_files-f-requires c =
    files_ready _ c.requires c.args.path.now

pub child_dirs-d-requires : goal.child_dirs-d-requires
child_dirs-d-requires c =
    dirs_ready _ c.requires c.args.path.now

pub slice_bounds-files-end : goal.slice_bounds-files-end
slice_bounds-files-end c =
    let f = files_front _ c.requires c.args.path.now _ _ (c.child_files-f.ensures.count, c.child_files-f.ensures.picked) in
    f.fits

pub slice_bounds-size_of-end : goal.slice_bounds-size_of-end
slice_bounds-size_of-end c =
    let f = files_front _ c.requires c.args.path.now _ _ (c.child_files-f.ensures.count, c.child_files-f.ensures.picked) in
    f.long

pub slice_bounds-folders-end : goal.slice_bounds-folders-end
slice_bounds-folders-end c =
    let d = folders_front _ c.requires c.args.path.now _ _ (c.child_dirs-d.ensures.count, c.child_dirs-d.ensures.picked) in
    d.fits

pub slice_bounds-size_of-end-2 : goal.slice_bounds-size_of-end-2
slice_bounds-size_of-end-2 c =
    let d = folders_front _ c.requires c.args.path.now _ _ (c.child_dirs-d.ensures.count, c.child_dirs-d.ensures.picked) in
    d.long

pub overflow_add-size : goal.overflow_add-size
overflow_add-size c =
    let f = files_front _ c.requires c.args.path.now _ _ (c.child_files-f.ensures.count, c.child_files-f.ensures.picked) in
    let d = folders_front _ c.requires c.args.path.now _ _ (c.child_dirs-d.ensures.count, c.child_dirs-d.ensures.picked) in
    omega (arith, size_low _ _ f.few c.size_of.ensures, size_low _ _ d.few c.size_of-2.ensures)

pub returns-then-buf-size : goal.returns-then-buf-size
returns-then-buf-size c =
    let f = files_front _ c.requires c.args.path.now _ _ (c.child_files-f.ensures.count, c.child_files-f.ensures.picked) in
    let d = folders_front _ c.requires c.args.path.now _ _ (c.child_dirs-d.ensures.count, c.child_dirs-d.ensures.picked) in
    too_small _ c.requires _ c.args.buf.now (sym c.dir_find.ensures ∙ c.if-not-dir_find.false) _ _ _ _ f d _ _ c.size_of.ensures
    c.size_of-2.ensures c.if-buf-size.true

pub slice_bounds-files-end-2 : goal.slice_bounds-files-end-2
slice_bounds-files-end-2 c =
    let f = files_front _ c.requires c.args.path.now _ _ (c.child_files-f.ensures.count, c.child_files-f.ensures.picked) in
    f.fits

pub slice_bounds-fill-end : goal.slice_bounds-fill-end
slice_bounds-fill-end c =
    let f = files_front _ c.requires c.args.path.now _ _ (c.child_files-f.ensures.count, c.child_files-f.ensures.picked) in
    f.long

pub slice_bounds-folders-end-2 : goal.slice_bounds-folders-end-2
slice_bounds-folders-end-2 c =
    let d = folders_front _ c.requires c.args.path.now _ _ (c.child_dirs-d.ensures.count, c.child_dirs-d.ensures.picked) in
    d.fits

pub slice_bounds-fill-end-2 : goal.slice_bounds-fill-end-2
slice_bounds-fill-end-2 c =
    let d = folders_front _ c.requires c.args.path.now _ _ (c.child_dirs-d.ensures.count, c.child_dirs-d.ensures.picked) in
    d.long

pub fill-end-requires : goal.fill-end-requires
fill-end-requires c =
    let f = files_front _ c.requires c.args.path.now _ _ (c.child_files-f.ensures.count, c.child_files-f.ensures.picked) in
    let d = folders_front _ c.requires c.args.path.now _ _ (c.child_dirs-d.ensures.count, c.child_dirs-d.ensures.picked) in
    fill_ready _ c.requires _ c.args.buf.now (sym c.dir_find.ensures ∙ c.if-not-dir_find.false) _ _ _ _ f d _ _ c.size_of.ensures
    c.size_of-2.ensures c.if-buf-size.false

pub returns : goal.returns
returns c =
    let f = files_front _ c.requires c.args.path.now _ _ (c.child_files-f.ensures.count, c.child_files-f.ensures.picked) in
    let d = folders_front _ c.requires c.args.path.now _ _ (c.child_dirs-d.ensures.count, c.child_dirs-d.ensures.picked) in
    done _ c.requires _ c.args.buf.now (sym c.dir_find.ensures ∙ c.if-not-dir_find.false) _ _ _ _ f d _ _ c.size_of.ensures
    c.size_of-2.ensures _ _ c.if-buf-size.false c.fill-end.ensures.size c.fill-end.ensures.written
