use Rattle.inspect.proofs.Laws.{accepted_sorted, accepted_held}
use Rattle.inspect.proofs.show_code.Goals as goal

pub invariant_of-show_instructions : goal.invariant_of-show_instructions
invariant_of-show_instructions g c = record {
  sorted = accepted_sorted c.args.code.now c.args.pool.now c.args.lent.now.records c.args.lent.now.entries c.decode.ensures.answers c.in-Ok.is c.decode.ensures.stores_records c.decode.ensures.stores_entries;
}

pub show_instructions-requires : goal.show_instructions-requires
show_instructions-requires g c =
    accepted_held c.args.code.now c.args.pool.now c.args.lent.now.records c.args.lent.now.entries c.decode.ensures.answers c.in-Ok.is c.decode.ensures.stores_records c.decode.ensures.stores_entries
