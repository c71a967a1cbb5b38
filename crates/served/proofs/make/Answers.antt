-- The body is as long as the row of the call needs it.
use Rattle.std.specs.Prelude.{Option}
use Rattle.std.proofs.Common.{ℕ, List, sym, ap, ◌∙◌}
use Rattle.served.specs.Requests.{export_of}
use Rattle.served.proofs.Ways.{plain_long, lent_long, two_long}
use Rattle.served.proofs.make.Goals as goal

-- what the row of a number says is lent
abbrev lent : List ℕ → ℕ → Option ℕ
lent body call = (export_of call).lends body

-- 3, 6, 7 and 8: the number that says what is lent comes first
pub slice_bounds-header_decode-count : goal.slice_bounds-header_decode-count
unfolding export_of
slice_bounds-header_decode-count c =
    let body = c.args.body.now in
    lent_long 0 body (sym (ap (lent body) c.in-3.is) ∙ c.requires)

pub slice_bounds-header_decode-start : goal.slice_bounds-header_decode-start
unfolding export_of
slice_bounds-header_decode-start c =
    let body = c.args.body.now in
    lent_long 0 body (sym (ap (lent body) c.in-3.is) ∙ c.requires)

pub slice_bounds-path_normal-count : goal.slice_bounds-path_normal-count
unfolding export_of
slice_bounds-path_normal-count c =
    let body = c.args.body.now in
    lent_long 0 body (sym (ap (lent body) c.in-6.is) ∙ c.requires)

pub slice_bounds-path_normal-start : goal.slice_bounds-path_normal-start
unfolding export_of
slice_bounds-path_normal-start c =
    let body = c.args.body.now in
    lent_long 0 body (sym (ap (lent body) c.in-6.is) ∙ c.requires)

pub slice_bounds-path_parent-count : goal.slice_bounds-path_parent-count
unfolding export_of
slice_bounds-path_parent-count c =
    let body = c.args.body.now in
    lent_long 0 body (sym (ap (lent body) c.in-7.is) ∙ c.requires)

pub slice_bounds-path_parent-start : goal.slice_bounds-path_parent-start
unfolding export_of
slice_bounds-path_parent-start c =
    let body = c.args.body.now in
    lent_long 0 body (sym (ap (lent body) c.in-7.is) ∙ c.requires)

pub slice_bounds-pool_script-count : goal.slice_bounds-pool_script-count
unfolding export_of
slice_bounds-pool_script-count c =
    let body = c.args.body.now in
    lent_long 0 body (sym (ap (lent body) c.in-8.is) ∙ c.requires)

pub slice_bounds-pool_script-start : goal.slice_bounds-pool_script-start
unfolding export_of
slice_bounds-pool_script-start c =
    let body = c.args.body.now in
    lent_long 0 body (sym (ap (lent body) c.in-8.is) ∙ c.requires)

pub check-requires : goal.check-requires
unfolding export_of
check-requires c =
    let body = c.args.body.now in
    plain_long 4 body (sym (ap (lent body) c.in-1.is) ∙ c.requires)

pub encode-requires : goal.encode-requires
unfolding export_of
encode-requires c =
    let body = c.args.body.now in
    lent_long 17 body (sym (ap (lent body) c.in-2.is) ∙ c.requires)

pub same-requires : goal.same-requires
unfolding export_of
same-requires c =
    let body = c.args.body.now in
    two_long body (sym (ap (lent body) c.in-5.is) ∙ c.requires)
