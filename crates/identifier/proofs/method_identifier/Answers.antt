use Rattle.output.proofs.Writing.{passed_on}
use Rattle.identifier.proofs.Laws.{refused_before, then_writing, within_limits, identifier_ends}
use Rattle.identifier.proofs.method_identifier.Goals as goal

pub returns-in_err-check_method : goal.returns-in_err-check_method
returns-in_err-check_method c =
    let r = passed_on _ _ _ _ _ c.from_residual.ensures.1 (refused_before c.args.name.now c.args.descriptor.now _ _ c.in_err-check_method.ensures) in
    record { answers = r.0; writes = r.1 }

pub write_identifier-requires : goal.write_identifier-requires
write_identifier-requires c = within_limits c.args.name.now c.args.descriptor.now c.in_ok-check_method.ensures

pub returns : goal.returns
returns c =
    let writes = then_writing c.args.name.now c.args.descriptor.now _ c.in_ok-check_method.ensures in
    let r = identifier_ends c.args.name.now c.args.descriptor.now c.args.out.now writes c.write_identifier.ensures.answers c.write_identifier.ensures.writes in
    record { answers = r.0; writes = r.1 }
