use Rattle.std.proofs.Common.{length}
use Rattle.replay.proofs.Totals.run_file.Given as goal

abbrev pub decreases-loop-list : goal.decreases-loop-list
decreases-loop-list g l = length l.list
