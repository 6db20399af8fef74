use Rattle.std.proofs.Common.{◌+◌, arith}
use Rattle.read.proofs.Laws.{next_byte, room_for_a_byte, none_yet, byte_of_part, within_part}
use Rattle.read.proofs.number.Goals as goal

pub loop-b-init : goal.loop-b-init
loop-b-init g c = none_yet _ _

pub overflow_mul-value : goal.overflow_mul-value
overflow_mul-value g c =
    let before = within_part c.args.at.0 g.row.N _ c.args.code.now c.loop-b-test.true in
    omega (arith, room_for_a_byte _ (omega (arith, before, c.requires.0)) c.loop-b.invariant.fits)

pub loop-b-preserved : goal.loop-b-preserved
loop-b-preserved g c =
    let before = within_part c.args.at.0 g.row.N _ c.args.code.now c.loop-b-test.true in
    rw (byte_of_part c.args.at.0 g.row.N _ c.args.code.now before) (next_byte _ g.row.N before c.requires.1 (omega (arith, c.type_inv.code (c.args.at.0 + c.loop-b.b-index))) c.loop-b.invariant)
