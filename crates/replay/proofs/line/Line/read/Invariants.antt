use Rattle.std.proofs.Common.{◌≤◌}
use Rattle.replay.proofs.line.Line.read.Given as goal

abbrev pub invariant-loop-slot : goal.invariant-loop-slot
invariant-loop-slot g l = l.count ≤ l.slot-index
