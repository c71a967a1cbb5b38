-- Patching what is left gives the whole.
use Rattle.std.proofs.Common.{◌≡◌, ◌-◌, ◌≤◌, length}
use Rattle.script_format.specs.Format.{patched_m}
use Rattle.script_format.proofs.patch.Given as goal

abbrev pub invariant-loop : goal.invariant-loop
invariant-loop l = (l.at ≤ length l.s) × (patched_m l.s (l.count - l.counter) l.at l.bytes ≡ patched_m l.s l.count l.i l.initial.bytes)
