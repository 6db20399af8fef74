-- What is written into a store is read there, and what lies before it is as it was. The proofs are in proofs/Reading.antt.
use Rattle.std.specs.Prelude.{ℕ, ◌+◌, ◌*◌, ◌≤◌, ◌<◌, List, ◌≡◌, length}
use Rattle.std.proofs.lemmas.List.Edits.{sets}
use Rattle.laws.specs.Listed.{listed}
use Rattle.records.specs.declared.Record.{Record}
use Rattle.records.specs.declared.SwitchEntry.{SwitchEntry}
use Rattle.records.specs.Records.{record_words, entry_words, record_room, entry_room, index, words_of, record_at, entry_at, all_entry_words}

-- A record: proved as `record_there` and `record_before`
abbrev pub RecordThere : Type 0
RecordThere =
    (records : List ℕ) (i : ℕ) (r : Record) → i < record_room records
    → record_at (sets records (i * record_words) (words_of r)) (index i) ≡ r

abbrev pub RecordBefore : Type 0
RecordBefore =
    (records words : List ℕ) (i j : ℕ) → j < i → record_at (sets records (i * record_words) words) (index j) ≡ record_at records (index j)

-- Several entries, at the indexes from the first on: proved as `entries_there` and `entry_before`
abbrev pub EntriesThere : Type 0
EntriesThere =
    (entries : List ℕ) (first : ℕ) (es : List SwitchEntry) → first + length es ≤ entry_room entries
    → listed (λ (i : ℕ). entry_at (sets entries (first * entry_words) (all_entry_words es)) (index (first + i))) 0 (length es) ≡ es

abbrev pub EntryBefore : Type 0
EntryBefore =
    (entries words : List ℕ) (first j : ℕ) → j < first → entry_at (sets entries (first * entry_words) words) (index j) ≡ entry_at entries (index j)
