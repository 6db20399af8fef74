-- The loop's invariant: the segments that are left decide as all of them do.
use Rattle.std.proofs.Common.{◌≡◌, drop}
use Rattle.names.specs.Names.{is_binary_name, segments}
use Rattle.names.proofs.Laws.{names_left}
use Rattle.names.proofs.is_binary_name.Given as goal

abbrev pub invariant-loop-b : goal.invariant-loop-b
invariant-loop-b l = names_left l.started (segments (drop l.b-index l.name)) ≡ is_binary_name l.name
