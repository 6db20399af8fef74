-- The loop's invariant: what is left at the offset decides as the whole.
use Rattle.std.proofs.Common.{false, ◌≡◌, drop}
use Rattle.class_names.specs.Names.{name_from}
use Rattle.class_names.proofs.name_end.Given as goal

abbrev pub invariant-loop-at : goal.invariant-loop-at
invariant-loop-at l = name_from l.started l.at (drop l.at l.text) ≡ name_from false l.start (drop l.start l.text)
