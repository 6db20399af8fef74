use Rattle.std.proofs.Common.{rules, arith, sym, ap, ◌∙◌, Ok}
use Rattle.class_names.proofs.Rules.{ends_in}
use Rattle.descriptors.proofs.Laws.{object_refused, object_not_ended}
use Rattle.descriptors.proofs.object_at.Goals as goal

-- the name's `;` lies in the text
pub overflow_sub-end : goal.overflow_sub-end
overflow_sub-end c = omega (arith, ends_in _ _ _ c.requires (sym c.in_ok-end.ensures ∙ ap Ok c.in-Semicolon.is))

pub overflow_cast-end : goal.overflow_cast-end
overflow_cast-end c = omega (arith, c.args.text.within, ends_in _ _ _ c.requires (sym c.in_ok-end.ensures ∙ ap Ok c.in-Semicolon.is))

pub returns-in_err-end : goal.returns-in_err-end
returns-in_err-end c = object_refused _ _ _ c.in_err-end.ensures (search rules)

pub returns-in-TextEnd : goal.returns-in-TextEnd
returns-in-TextEnd c = object_not_ended _ _ _ (search rules) c.at.ensures
