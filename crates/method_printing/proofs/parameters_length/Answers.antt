use mathlib.Core.Path.{sym}
use native.Mathlib.Omega.{arith}
use Rattle.method_printing.proofs.Laws.{summing_end, summing_broken, summing_more, field_bound}
use Rattle.method_printing.proofs.parameters_length.Goals as goal

pub returns-then-not-is_field_part : goal.returns-then-not-is_field_part
returns-then-not-is_field_part c =
    rw c.at.ensures (summing_broken _ _ _ _ c.loop-words.invariant c.loop-words-test.true _ c.part_of-part.ensures c.if-not-is_field_part.ensures)

pub overflow_add-length : goal.overflow_add-length
overflow_add-length c =
    let small = field_bound c.args.text.bytes.now c.part_of-part.result c.args.text.within (sym c.if-not-is_field_part.ensures) in
    omega (arith, c.loop-words.invariant.bound, c.part_length.ensures, small)

pub loop-words-preserved : goal.loop-words-preserved
loop-words-preserved c =
    summing_more _ _ _ _ c.loop-words.invariant c.loop-words-test.true _ c.part_of-part.ensures c.if-not-is_field_part.ensures _ c.part_length.ensures _ c.min-length.ensures

pub returns : goal.returns
returns c = summing_end _ _ _ _ c.loop-words.invariant c.loop-words-test.false
