use Rattle.std.proofs.Common.{arith}
use Rattle.descriptors.proofs.Laws.{end_there}
use Rattle.descriptors.proofs.field_at.Goals as goal

pub returns : goal.returns
returns c = end_there _ _ _ c.loop-at.invariant.1 (omega arith) (omega arith) c.at-2.ensures
