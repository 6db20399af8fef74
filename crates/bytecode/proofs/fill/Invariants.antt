-- The loop's invariant is `Filling`.
use Prim.Native.Nat.{◌-◌}
use mathlib.Core.Path.{◌≡◌}
use lib.ListN.{length}
use Rattle.records.specs.Records.{record_room, entry_room}
use Rattle.bytecode.proofs.Filling.{Filling}
use Rattle.bytecode.proofs.fill.Given as goal

abbrev pub invariant-loop-at : goal.invariant-loop-at
invariant-loop-at l = (l.record_room ≡ record_room l.initial.records) × (l.entry_room ≡ entry_room l.initial.entries) × Filling l.code l.pool l.initial.records l.initial.entries l.records l.entries l.at l.count l.stored

abbrev pub decreases-loop-at : goal.decreases-loop-at
decreases-loop-at l = length l.code - l.at
