use Rattle.descriptors.proofs.Laws.{begins_got}
use Rattle.descriptors.proofs.begins_with.Goals as goal

pub returns : goal.returns
returns c = begins_got c.args.text.now c.args.at _ _ c.eq.ensures c.get.ensures.lookup
