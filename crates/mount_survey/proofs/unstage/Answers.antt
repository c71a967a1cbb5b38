-- Carried by `nums_cut` and `names_cut`: zeros over the last rows leave the first ones.
use Rattle.std.proofs.Common.{rules, arith, ◌-◌, ◌*◌}
use Rattle.limits.specs.Limits.{max_path, row_width}
use Rattle.lists.specs.Stores.{zeros_back}
use Rattle.slot_rows.proofs.InBuffers.{nums_long, names_long}
use Rattle.mount_survey.proofs.FirstRowsStay.{nums_cut, names_cut}
use Rattle.mount_survey.proofs.unstage.Goals as goal

pub returns : goal.returns
returns c =
    let a = c.args in let pre = c.requires in record {
      nums = nums_cut _ _ _ _ _ pre.0 pre.1 _
          (zeros_back a.nums.now (a.n * row_width) (a.m * row_width) ((a.m - a.n) * row_width) (omega arith) (omega (arith, nums_long _ _ _ _ pre.0, pre.0.few)) (c.fill.ensures.after (search rules)));
      names = names_cut _ _ _ _ _ pre.0 pre.1 _
          (zeros_back a.names.now (a.n * max_path) (a.m * max_path) ((a.m - a.n) * max_path) (omega arith) (omega (arith, names_long _ _ _ _ pre.0, pre.0.few)) (c.fill-2.ensures.after (search rules)));
    }
