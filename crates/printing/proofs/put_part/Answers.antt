use native.Mathlib.Omega.{arith}
use lib.ListN.{length-set}
use Rattle.printing.proofs.Laws.{some_length, object_length, name_copied, return_part, part_byte, part_range, letter_written, object_written}
use Rattle.printing.proofs.put_part.Goals as goal

pub put_run-requires : goal.put_run-requires
put_run-requires c = omega (arith, some_length c.args.part, c.requires.1)

pub overflow_cast-out : goal.overflow_cast-out
overflow_cast-out c = omega (arith, part_byte _ c.args.part ((return_part c.args.text.now c.args.part).0 c.requires.0))

pub bounds-out-letter_at : goal.bounds-out-letter_at
bounds-out-letter_at c = omega (arith, some_length c.args.part, c.requires.1, c.put_run.auto)

pub slice_bounds-put-end : goal.slice_bounds-put-end
slice_bounds-put-end c = part_range _ c.args.part ((return_part c.args.text.now c.args.part).0 c.requires.0) c.if-part.true

pub put-requires : goal.put-requires
put-requires c =
    let r = part_range _ c.args.part ((return_part c.args.text.now c.args.part).0 c.requires.0) c.if-part.true in
    simp (length-set, name_copied c.args.text.now c.args.part r) (omega (arith, object_length c.args.part c.if-part.true, c.requires.1, c.put_run.auto))

pub bounds-out-letter_at-then-part : goal.bounds-out-letter_at-then-part
bounds-out-letter_at-then-part c = omega (arith, object_length c.args.part c.if-part.true, c.requires.1, c.put_run.auto, simp length-set at c.put.auto.out)

pub returns-then-part : goal.returns-then-part
returns-then-part c =
    let r = part_range _ c.args.part ((return_part c.args.text.now c.args.part).0 c.requires.0) c.if-part.true in
    object_written c.args.text.now c.args.part _ _ c.args.at c.put_run.ensures c.if-part.true r _ c.put.ensures

pub returns-else-part : goal.returns-else-part
returns-else-part c = letter_written c.args.text.now c.args.part _ _ c.args.at c.put_run.ensures c.if-part.false
