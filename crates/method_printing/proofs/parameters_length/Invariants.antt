-- The loop's invariant is `Summing`.
use Rattle.method_printing.proofs.Laws.{Summing}
use Rattle.method_printing.proofs.parameters_length.Given as goal

abbrev pub invariant-loop-words : goal.invariant-loop-words
invariant-loop-words l = Summing l.text.bytes.now l.records l.length l.words-index
