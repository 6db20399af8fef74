use Rattle.station.proofs.Laws.{few_in_prefix}
use Rattle.station.proofs.nk_method_prefix.Goals as goal

pub method_parts-requires : goal.method_parts-requires
method_parts-requires c = rw c.method_prefix.ensures.answers (few_in_prefix _ c.args.text.now)
