use native.Mathlib.Nat.{add-zero}
use Rattle.std.proofs.Common.{◌<◌, ◌/◌, ℕ, [], length, arith}
use Rattle.records.specs.Records.{entry_words}
use Rattle.records.proofs.Rows.{word_of_row}
use Rattle.records.proofs.entry_at.Goals as goal

pub returns : goal.returns
returns c =
    let store = c.args.entries.now in
    let i = c.args.index.0 in
    let word : (j : ℕ) → j < entry_words → _ = λ j l. word_of_row entry_words (length store / entry_words) store i j [] (omega (arith, c.requires)) l in
    rw (c.as_chunks.ensures.front, word 0 (omega arith), add-zero, word 1 (omega arith))
