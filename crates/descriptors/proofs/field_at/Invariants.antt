-- The loop's invariant: what is left at the offset, after so many dimensions, decides as the whole.
use Rattle.std.proofs.Common.{◌≡◌, ◌≤◌, drop}
use Rattle.descriptors.specs.Texts.{max_dimensions, field_from}
use Rattle.descriptors.proofs.field_at.Given as goal

abbrev pub invariant-loop-at : goal.invariant-loop-at
invariant-loop-at l =
    (l.dimensions ≤ max_dimensions) × (field_from l.dimensions l.at (drop l.at l.text.bytes.now) ≡ field_from 0 l.start (drop l.start l.text.bytes.now))
