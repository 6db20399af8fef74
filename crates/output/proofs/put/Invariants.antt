-- The loop's invariant: the bytes before i are written.
use Rattle.std.proofs.Common.{◌≡◌, length, take}
use lib.Seq.{sets}
use Rattle.output.proofs.put.Given as goal

abbrev pub invariant-loop-i : goal.invariant-loop-i
invariant-loop-i l = (length l.out ≡ length l.initial.out) × (l.out ≡ sets l.initial.out l.at (take l.i l.bytes))
