-- Of the stores only their room counts, and more of it does away with 14 and 15 alone. The proofs are in proofs/Stores.antt.
use Rattle.std.specs.Prelude.{ℕ, ◌*◌, ◌≤◌, List, ◌≡◌, take, Ok, Err}
use Rattle.records.specs.Records.{record_words, entry_words, record_room, entry_room}
use Rattle.refusals.specs.Numbers.{number_of}
use Rattle.bytecode.specs.Decoding.{Decision, counts, decoding, records_after, entries_after}

-- an answer that is not for want of room
abbrev pub NotForRoom : Decision → Type 0
NotForRoom (Ok d) = Unit {0}
NotForRoom (Err f) = (number_of f.reason ≡ 14 → ⊥) × (number_of f.reason ≡ 15 → ⊥)

-- More room gives the same answer: proved as `larger_rooms`
abbrev pub LargerRooms : Type 0
LargerRooms =
    (code pool : List ℕ) (room_of_records room_of_entries room_of_records' room_of_entries' : ℕ) → room_of_records ≤ room_of_records' → room_of_entries ≤ room_of_entries'
    → NotForRoom (decoding code pool room_of_records room_of_entries)
    → decoding code pool room_of_records' room_of_entries' ≡ decoding code pool room_of_records room_of_entries

-- and the same used words, whatever stood in the stores: proved as `same_words`
abbrev pub SameWords : Type 0
SameWords =
    (code pool records entries records' entries' : List ℕ) (k m : ℕ)
    → decoding code pool (record_room records) (entry_room entries) ≡ Ok (counts k m)
    → decoding code pool (record_room records') (entry_room entries') ≡ Ok (counts k m)
    → (take (k * record_words) (records_after code pool records' entries') ≡ take (k * record_words) (records_after code pool records entries))
    × (take (m * entry_words) (entries_after code pool records' entries') ≡ take (m * entry_words) (entries_after code pool records entries))
