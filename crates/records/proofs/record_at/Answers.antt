use native.Mathlib.Nat.{add-zero}
use Rattle.std.proofs.Common.{◌<◌, ◌/◌, ℕ, [], length, arith}
use Rattle.records.specs.Records.{record_words}
use Rattle.records.proofs.Rows.{word_of_row}
use Rattle.records.proofs.record_at.Goals as goal

pub returns : goal.returns
returns c =
    let store = c.args.records.now in
    let i = c.args.index.0 in
    let word : (j : ℕ) → j < record_words → _ = λ j l. word_of_row record_words (length store / record_words) store i j [] (omega (arith, c.requires)) l in
    rw (c.as_chunks.ensures.front, word 0 (omega arith), add-zero, word 1 (omega arith), word 2 (omega arith), word 3 (omega arith), word 4 (omega arith), word 5 (omega arith))
