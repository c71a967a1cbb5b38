-- Case by case; `is_metadata` is the last.
use mathlib.Core.Path.{sym, ap}
use borrow.Author.Rules.{rules}
use Rattle.script_step.specs.Operate.{on_path}
use Rattle.script_step.proofs.Ways.{is_metadata}
use Rattle.script_step.proofs.on_path.Goals as goal

pub returns-in-10 : goal.returns-in-10
unfolding on_path
returns-in-10 c =
    sym (ap on_path c.in-10.is)

pub returns-in-11 : goal.returns-in-11
unfolding on_path
returns-in-11 c =
    sym (ap on_path c.in-11.is)

pub returns-in-12 : goal.returns-in-12
unfolding on_path
returns-in-12 c =
    sym (ap on_path c.in-12.is)

pub returns-in-13 : goal.returns-in-13
unfolding on_path
returns-in-13 c =
    sym (ap on_path c.in-13.is)

pub returns-in-14 : goal.returns-in-14
unfolding on_path
returns-in-14 c =
    sym (ap on_path c.in-14.is)

pub returns-in-15 : goal.returns-in-15
unfolding on_path
returns-in-15 c =
    sym (ap on_path c.in-15.is)

pub returns-in_default : goal.returns-in_default
returns-in_default c =
    search (rules, is_metadata)
