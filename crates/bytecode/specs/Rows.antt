-- What lines leave in the two stores, in a row.
use Rattle.std.specs.Prelude.{ℕ, ◌+◌, List, [], ◌∷◌, ◌++◌}
use Rattle.instruction.specs.Entries.{entries_of}
use Rattle.lines.specs.Lines.{Line}
use Rattle.records.specs.Records.{index, words_of, all_entry_words}
use Rattle.switches.specs.Entries.{entries_in}
use Rattle.filling.specs.Filling.{record_of}

-- The words of lines in a row, record after record, so many entries being stored before theirs
unfoldable pub record_row : ℕ → List Line → List ℕ
record_row first [] = []
record_row first (l ∷ lines) = words_of (record_of l.at (index first) l.instruction) ++ record_row (first + entries_of l.instruction) lines

unfoldable pub entry_row : List ℕ → List Line → List ℕ
entry_row code [] = []
entry_row code (l ∷ lines) = all_entry_words (entries_in code l.instruction) ++ entry_row code lines
