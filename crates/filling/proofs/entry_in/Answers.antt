use Rattle.std.proofs.Common.{arith}
use Rattle.filling.proofs.Entries.{table_entry, lookup_entry}
use Rattle.filling.proofs.entry_in.Goals as goal

pub returns-in-TableSwitch : goal.returns-in-TableSwitch
returns-in-TableSwitch c =
    let inside = rw c.in-TableSwitch.is at c.requires.1 in
    rw c.in-TableSwitch.is (table_entry c.args.code.now _ _ _ _ _ inside (omega arith) c.number.ensures)

pub returns-in-LookupSwitch : goal.returns-in-LookupSwitch
returns-in-LookupSwitch c =
    let inside = rw c.in-LookupSwitch.is at c.requires.1 in
    rw c.in-LookupSwitch.is (lookup_entry c.args.code.now _ _ _ _ inside c.number-in-LookupSwitch.ensures c.number-in-LookupSwitch-2.ensures)
