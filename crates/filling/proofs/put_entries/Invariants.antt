use Rattle.switches.specs.Entries.{entries_in}
use Rattle.filling.proofs.Laws.{Filled}
use Rattle.filling.proofs.put_entries.Given as goal

abbrev pub invariant-loop-i : goal.invariant-loop-i
invariant-loop-i l = Filled l.initial.entries l.first.0 (entries_in l.code l.instruction) l.i l.entries
