use Rattle.station.proofs.Laws.{few_in_whole}
use Rattle.station.proofs.nk_method_whole.Goals as goal

pub method_parts-requires : goal.method_parts-requires
method_parts-requires c = rw c.method_whole.ensures.answers (few_in_whole _ c.args.text.now)
