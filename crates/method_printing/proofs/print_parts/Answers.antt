use native.Mathlib.Omega.{arith}
use lib.ListN.{length}
use Rattle.output.proofs.Writing.{refused_after, passed_on}
use Rattle.printing.proofs.Laws.{print_broken}
use Rattle.method_printing.specs.Printing.{parts_of, method_bytes}
use Rattle.method_printing.proofs.Laws.{return_broken, parameters_broken, method_bound, method_refused, method_fits, method_printed}
use Rattle.method_printing.proofs.print_parts.Goals as goal

pub returns-then-not-is_return_part : goal.returns-then-not-is_return_part
returns-then-not-is_return_part c =
    let broken = return_broken c.args.text.bytes.now (parts_of c.args.records.now) c.args.returned c.if-not-is_return_part.ensures in
    let r = refused_after _ _ c.args.out.now _ (print_broken c.args.text.bytes.now _ (method_bytes c.args.text.bytes.now (parts_of c.args.records.now) c.args.returned) (length c.args.out.now) c.args.text.within broken) in
    record { answers = rw c.at.ensures r.0; writes = r.1 }

pub returns-in_err-length : goal.returns-in_err-length
returns-in_err-length c =
    let none = parameters_broken c.args.text.bytes.now _ c.args.returned c.if-not-is_return_part.ensures _ c.in_err-length.ensures in
    let r = passed_on _ _ _ _ _ c.from_residual.ensures.1 (rw none.1 (print_broken c.args.text.bytes.now _ _ _ c.args.text.within none.0)) in
    record { answers = r.0; writes = r.1 }

pub overflow_add-length : goal.overflow_add-length
overflow_add-length c =
    let bound = method_bound c.args.text.bytes.now _ c.args.returned c.if-not-is_return_part.ensures c.args.text.within _ c.in_ok-length.ensures in
    omega (arith, c.part_length.ensures, bound)

pub overflow_add-length-2 : goal.overflow_add-length-2
overflow_add-length-2 c =
    let bound = method_bound c.args.text.bytes.now _ c.args.returned c.if-not-is_return_part.ensures c.args.text.within _ c.in_ok-length.ensures in
    omega (arith, c.part_length.ensures, bound)

pub returns-in_err-check_room : goal.returns-in_err-check_room
returns-in_err-check_room c =
    let refused = method_refused c.args.text.bytes.now _ c.args.returned c.if-not-is_return_part.ensures c.args.text.within _ c.in_ok-length.ensures
    _ c.part_length.ensures c.args.out.now _ c.in_err-check_room.ensures in
    let r = passed_on _ _ _ _ _ c.from_residual-in_err-check_room.ensures.1 refused in
    record { answers = r.0; writes = r.1 }

pub put_method-requires : goal.put_method-requires
put_method-requires c =
    method_fits c.args.text.bytes.now _ c.args.returned c.if-not-is_return_part.ensures c.args.text.within _ c.in_ok-length.ensures
    _ c.part_length.ensures c.args.out.now c.in_ok-check_room.ensures

pub returns : goal.returns
returns c =
    let r = method_printed c.args.text.bytes.now _ c.args.returned c.if-not-is_return_part.ensures c.args.text.within _ c.in_ok-length.ensures
    _ c.part_length.ensures c.args.out.now c.in_ok-check_room.ensures _ c.put_method.ensures in
    record { answers = r.0; writes = r.1 }
