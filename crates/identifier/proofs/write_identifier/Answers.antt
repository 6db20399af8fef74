use Rattle.identifier.proofs.Laws.{identifier_written}
use Rattle.identifier.proofs.write_identifier.Goals as goal

pub returns : goal.returns
returns c =
    let r = identifier_written c.args.name.now c.args.descriptor.now c.args.out.now c.if-out-length.false _ _ c.put.ensures c.put-2.ensures in
    record { answers = r.0; writes = r.1 }
