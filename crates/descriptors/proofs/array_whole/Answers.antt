use Rattle.std.proofs.Common.{rules, sym, ◌∙◌}
use Rattle.descriptors.proofs.Laws.{array_short_refused}
use Rattle.descriptors.proofs.array_whole.Goals as goal

pub returns-in_err-parts : goal.returns-in_err-parts
returns-in_err-parts c = array_short_refused c.in_ok-text.ensures c.in_ok-text.text.within (sym c.begins_with.ensures ∙ c.if-not-begins_with.false) c.in_err-parts.ensures (search rules)
