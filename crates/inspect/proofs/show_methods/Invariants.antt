use Rattle.std.proofs.Common.{◌-◌, ◌≤◌, length}
use Rattle.inspect.proofs.show_methods.Given as goal

abbrev pub invariant-loop-sections : goal.invariant-loop-sections
invariant-loop-sections g l = record { inside : l.at ≤ length l.bundle; short : l.methods ≤ l.at; some : l.accepted ≤ l.methods }

abbrev pub decreases-loop-sections : goal.decreases-loop-sections
decreases-loop-sections g l = length l.bundle - l.at
