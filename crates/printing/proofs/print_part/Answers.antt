use Rattle.output.proofs.Writing.{refused_after, passed_on}
use Rattle.printing.proofs.Laws.{print_broken, part_refused, part_fits, part_printed}
use Rattle.printing.proofs.print_part.Goals as goal

pub returns-then-not-kept : goal.returns-then-not-kept
returns-then-not-kept c =
    let r = refused_after _ _ _ _ (print_broken _ _ _ _ c.args.text.within c.if-not-kept.true) in
    record { answers = rw c.at.ensures r.0; writes = r.1 }

pub returns-in_err-check_room : goal.returns-in_err-check_room
returns-in_err-check_room c =
    let r = passed_on _ _ _ _ _ c.from_residual.ensures.1 (part_refused c.args.text.bytes.now c.args.part _ _ c.args.text.within c.if-not-kept.false c.requires _ c.part_length-length.ensures _ c.in_err-check_room.ensures) in
    record { answers = r.0; writes = r.1 }

pub put_part-requires : goal.put_part-requires
put_part-requires c =
    part_fits c.args.text.bytes.now c.args.part _ c.args.out.now c.args.text.within c.if-not-kept.false c.requires _ c.part_length-length.ensures c.in_ok-check_room.ensures

pub returns : goal.returns
returns c =
    let r = part_printed c.args.text.bytes.now c.args.part _ _ c.args.text.within c.if-not-kept.false c.requires _ c.part_length-length.ensures c.in_ok-check_room.ensures _ c.put_part.ensures in
    record { answers = r.0; writes = r.1 }
