use Rattle.std.proofs.Common.{◌∙◌, ap, arith}
use Rattle.std.specs.Option.{is_some}
use Rattle.lookup.proofs.Answers.{is_offset}
use Rattle.lookup.proofs.SortedRecords.is_offset.Goals as goal

pub returns : goal.returns
returns c = c.is_some.ensures ∙ ap is_some c.index_of.ensures ∙ is_offset _ _ _ (omega arith)
