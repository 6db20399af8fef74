use Rattle.read.specs.Reads.{NumberAt}
use Rattle.read.proofs.number.Given as goal

-- the bytes so far
abbrev pub invariant-loop-b : goal.invariant-loop-b
invariant-loop-b g l = NumberAt l.b-index l.code l.fn.at l.value
