-- The jumps that the words of two stores say, by each record's own words (document 01, "Instructions as records").
use Rattle.std.specs.Prelude.{ℕ, ◌+◌, ◌≤◌, ◌<◌, Bool, true, false, ◌&&◌, ◌||◌, List, [], ◌∷◌, leb, eqb, unwrap_or}
use Rattle.laws.specs.Listed.{listed}
use Rattle.records.specs.declared.Record.{Record}
use Rattle.records.specs.declared.RecordIndex.{RecordIndex}
use Rattle.records.specs.Records.{entry_room, index, record_at, entry_at}
use Rattle.switches.specs.Switches.{entry_count}
use Rattle.jumps.specs.Jumps.{Jumps}

-- The kinds with a jump: 99 ifeq to a8 jsr, the switches aa and ab, c6 ifnull and c7 ifnonnull
unfoldable pub has_jump : ℕ → Bool
has_jump kind = (leb 0x99 kind && leb kind 0xa8) || (leb 0xaa kind && leb kind 0xab) || (leb 0xc6 kind && leb kind 0xc7)

-- How many entries a record has: high - low + 1 of a tableswitch, the pairs of a lookupswitch
unfoldable pub stored_entries : Record → ℕ
stored_entries r =
    elim (eqb r.kind 0xaa) [
      | true ↦ unwrap_or (entry_count r.b r.c) 0
      | false ↦ elim (eqb r.kind 0xab) [ true ↦ r.b | false ↦ 0 ]
    ]

-- the jump of entry i of a switch whose first entry has this index
abbrev pub entry_jump : List ℕ → RecordIndex → ℕ → ℕ
entry_jump entries first i = (entry_at entries (index (first.0 + i))).jump

-- The jumps of a record: word a, and those of its entries, which start at the index in word d
unfoldable pub stored_words : List ℕ → Record → List ℕ
stored_words entries r =
    elim (has_jump r.kind) [ true ↦ r.a ∷ listed (entry_jump entries (index r.d)) 0 (stored_entries r) | false ↦ [] ]

abbrev pub stored_jumps : List ℕ → Record → Jumps
stored_jumps entries r = record { at = record { 0 = r.offset }; words = stored_words entries r }

-- The jumps of so many records from an index on, in store order, and those of the first records
abbrev pub jumps_from : List ℕ → ℕ → ℕ → List ℕ → List Jumps
jumps_from records first count entries = listed (λ (i : ℕ). stored_jumps entries (record_at records (index i))) first count

abbrev pub jumps_in : List ℕ → ℕ → List ℕ → List Jumps
jumps_in records count entries = jumps_from records 0 count entries

-- the entries of a record are all there
abbrev pub Held : List ℕ → Record → Type 0
Held entries r = r.d + stored_entries r ≤ entry_room entries

abbrev pub AllHeld : List ℕ → ℕ → List ℕ → Type 0
AllHeld records count entries = (i : ℕ) → i < count → Held entries (record_at records (index i))
