use Rattle.std.proofs.Common.{rules}
use lib.ListN.{length-set}
use Rattle.output.proofs.Writing.{copy_more}
use Rattle.output.proofs.put.Goals as goal

pub loop-i-preserved : goal.loop-i-preserved
loop-i-preserved c = (simp length-set (search rules), copy_more _ _ _ _ _ c.loop-i-test.true c.loop-i.invariant.1)
