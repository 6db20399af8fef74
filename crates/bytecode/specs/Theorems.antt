-- What the stores hold afterwards, without steps. The proofs are in proofs/Rows.antt, proofs/Stored.antt,
-- proofs/Accepted.antt and proofs/Deciding.antt.
use Rattle.std.specs.Prelude.{ℕ, ◌+◌, ◌*◌, List, ◌++◌, ◌≡◌, length, drop, replicate, Ok, Err}
use Rattle.std.proofs.lemmas.List.Edits.{sets}
use Rattle.lines.specs.Lines.{Lines, lines_of, list_of}
use Rattle.records.specs.Records.{record_words, entry_words, record_room, entry_room}
use Rattle.jumps.specs.declared.Failure.{Failure}
use Rattle.jumps.specs.Stored.{jumps_from, jumps_in}
use Rattle.bytecode.specs.Decoding.{counts, fitted, run_from, records_from, entries_from, jumps_of, decoding, records_after, entries_after}
use Rattle.bytecode.specs.Rows.{record_row, entry_row}

-- Lines are stored in a row from any marks on, and nothing else of a store changes: proved as `records_in_row` and
-- `entries_in_row`
abbrev pub RecordsInRow : Type 0
RecordsInRow =
    (ls : Lines) (k m : ℕ) (records : List ℕ) → records_from k m ls records ≡ sets records (k * record_words) (record_row m (list_of ls))

abbrev pub EntriesInRow : Type 0
EntriesInRow =
    (code : List ℕ) (ls : Lines) (m : ℕ) (entries : List ℕ) → entries_from code m ls entries ≡ sets entries (m * entry_words) (entry_row code (list_of ls))

-- From any marks on: lines for which there is room after k records and m entries, and that fill so many of each, are told by
-- the records from k on. Proved as `stored_say`
abbrev pub StoredSay : Type 0
StoredSay =
    (code pool records entries : List ℕ) (k m room_of_records room_of_entries count stored : ℕ)
    → k + room_of_records ≡ record_room records → m + room_of_entries ≡ entry_room entries
    → run_from k m (fitted code pool room_of_records room_of_entries) ≡ Ok (counts (k + count) (m + stored))
    → jumps_from (records_from k m (fitted code pool room_of_records room_of_entries) records) k count (entries_from code m (fitted code pool room_of_records room_of_entries) entries)
    ≡ jumps_of code (fitted code pool room_of_records room_of_entries)

-- An accepted code has all its words at the front of the stores, and the words past them are as they were: proved as
-- `accepted_stores`
abbrev pub AcceptedStores : Type 0
AcceptedStores =
    (code pool records entries : List ℕ) (k m : ℕ) → decoding code pool (record_room records) (entry_room entries) ≡ Ok (counts k m)
    → (records_after code pool records entries ≡ record_row 0 (list_of (lines_of code pool)) ++ drop (k * record_words) records)
    × (entries_after code pool records entries ≡ entry_row code (list_of (lines_of code pool)) ++ drop (m * entry_words) entries)

-- and those words tell the jumps of its instructions: proved as `stores_say`
abbrev pub StoresSay : Type 0
StoresSay =
    (code pool records entries : List ℕ) (k m : ℕ) → decoding code pool (record_room records) (entry_room entries) ≡ Ok (counts k m)
    → jumps_in (records_after code pool records entries) k (entries_after code pool records entries) ≡ jumps_of code (lines_of code pool)

-- Where a code is refused, every word of both stores is zero: proved as `refused_stores`
abbrev pub RefusedStores : Type 0
RefusedStores =
    (code pool records entries : List ℕ) (f : Failure) → decoding code pool (record_room records) (entry_room entries) ≡ Err f
    → (records_after code pool records entries ≡ replicate (length records) 0) × (entries_after code pool records entries ≡ replicate (length entries) 0)
