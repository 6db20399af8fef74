-- Document 01, "Instructions as records": an instruction is a record of six words, a switch entry two.
use Rattle.std.specs.Prelude.{ℕ, ◌+◌, ◌*◌, ◌/◌, List, [], ◌∷◌, ◌++◌, length, get_or}
use Rattle.read.specs.declared.CodeOffset.{CodeOffset}
use Rattle.records.specs.declared.Record.{Record}
use Rattle.records.specs.declared.RecordIndex.{RecordIndex}
use Rattle.records.specs.declared.SwitchEntry.{SwitchEntry}

abbrev pub record_words : ℕ
record_words = 6

abbrev pub entry_words : ℕ
entry_words = 2

-- A store's capacity: its length divided by the words of what it holds, rounded down
abbrev pub record_room : List ℕ → ℕ
record_room records = length records / record_words

abbrev pub entry_room : List ℕ → ℕ
entry_room entries = length entries / entry_words

abbrev pub index : ℕ → RecordIndex
index i = record { 0 = i }

-- The words of a record in their order, and the record at an index of a store
abbrev pub words_of : Record → List ℕ
words_of r = r.offset ∷ r.kind ∷ r.a ∷ r.b ∷ r.c ∷ r.d ∷ []

abbrev pub record_at : List ℕ → RecordIndex → Record
record_at records i = record {
  offset = get_or records (i.0 * record_words) 0;
  kind = get_or records (i.0 * record_words + 1) 0;
  a = get_or records (i.0 * record_words + 2) 0;
  b = get_or records (i.0 * record_words + 3) 0;
  c = get_or records (i.0 * record_words + 4) 0;
  d = get_or records (i.0 * record_words + 5) 0;
}

abbrev pub offset_at : List ℕ → RecordIndex → CodeOffset
offset_at records i = record { 0 = (record_at records i).offset }

-- The same for entries, and the words of several
abbrev pub entry_words_of : SwitchEntry → List ℕ
entry_words_of e = e.key ∷ e.jump ∷ []

abbrev pub entry_at : List ℕ → RecordIndex → SwitchEntry
entry_at entries i = record { key = get_or entries (i.0 * entry_words) 0; jump = get_or entries (i.0 * entry_words + 1) 0 }

unfoldable pub all_entry_words : List SwitchEntry → List ℕ
all_entry_words [] = []
all_entry_words (e ∷ es) = entry_words_of e ++ all_entry_words es
