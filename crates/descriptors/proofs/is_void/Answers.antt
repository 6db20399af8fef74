use Rattle.descriptors.proofs.Laws.{void_got}
use Rattle.descriptors.proofs.is_void.Goals as goal

pub returns : goal.returns
returns c = void_got c.args.text.now c.args.at _ _ c.eq.ensures c.as_slice.ensures c.get.ensures.lookup
