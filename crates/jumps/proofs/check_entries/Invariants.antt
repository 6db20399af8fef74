-- What is left decides as the whole.
use Rattle.lookup.specs.Lookup.{offsets_of}
use Rattle.jumps.specs.Jumps.{words_check}
use Rattle.jumps.specs.Stored.{entry_jump}
use Rattle.jumps.proofs.Laws.{Left}
use Rattle.jumps.proofs.check_entries.Given as goal

abbrev pub invariant-loop-i : goal.invariant-loop-i
invariant-loop-i l = Left (words_check (offsets_of l.starts.records.now l.starts.count) l.at) (entry_jump l.entries l.first) 1 l.number l.i
