use Rattle.std.proofs.Common.{rules, arith, sym, ◌∙◌}
use Rattle.laws.specs.Bytes.{byte}
use Rattle.laws.proofs.Lists.{begins_in}
use Rattle.methods.proofs.Laws.{return_refused, parameter_refused}
use Rattle.methods.proofs.next_part.Goals as goal

pub overflow_add-at : goal.overflow_add-at
overflow_add-at c = omega (arith, begins_in (byte ")") c.args.text.bytes.now c.args.at (sym c.begins_with.ensures ∙ c.if-begins_with.true))

pub returns-in_err-part : goal.returns-in_err-part
returns-in_err-part c = return_refused _ _ (sym c.begins_with.ensures ∙ c.if-begins_with.true) c.in_err-part.ensures (search rules)

pub returns-in_err-part-2 : goal.returns-in_err-part-2
returns-in_err-part-2 c = parameter_refused _ _ (sym c.begins_with.ensures ∙ c.if-begins_with.false) c.in_err-part-2.ensures (search rules)
