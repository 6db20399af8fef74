-- The loop's invariant is `Putting`.
use Rattle.method_printing.proofs.Laws.{Putting}
use Rattle.method_printing.proofs.put_parameters.Given as goal

abbrev pub invariant-loop-words : goal.invariant-loop-words
invariant-loop-words l = Putting l.text l.records l.initial.out l.at l.out l.next l.words-index
