use Rattle.std.proofs.Common.{arith, sym, ◌∙◌}
use Rattle.descriptors.proofs.Laws.{void_in}
use Rattle.descriptors.proofs.return_at.Goals as goal

pub overflow_add-result : goal.overflow_add-result
overflow_add-result c = omega (arith, void_in c.args.text.bytes.now c.args.start (sym c.is_void.ensures ∙ c.if-is_void.true))
