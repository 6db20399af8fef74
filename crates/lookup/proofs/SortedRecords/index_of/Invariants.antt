-- What is left of the span answers as all the records.
use Rattle.std.proofs.Common.{◌≡◌, ◌+◌, ◌≤◌}
use Rattle.records.specs.Records.{index}
use Rattle.lookup.specs.Lookup.{first_from}
use Rattle.lookup.proofs.SortedRecords.index_of.Given as goal

abbrev pub invariant-loop-span : goal.invariant-loop-span
invariant-loop-span l = record {
  within : l.from + l.span ≤ l.self.count;
  same : first_from l.self.records.now l.offset (index l.from) l.span ≡ first_from l.self.records.now l.offset (index 0) l.self.count;
}

abbrev pub decreases-loop-span : goal.decreases-loop-span
decreases-loop-span l = l.span
