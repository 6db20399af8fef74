-- The nodes of a code, from its instructions, the nodes that the words of two stores tell, and what decoding leaves in the
-- stores.
use Rattle.std.specs.Prelude.{ℕ, ◌+◌, true, false, List, map, ◌≡◌, ltb, Ok}
use Rattle.laws.specs.Listed.{listed}
use Rattle.lines.specs.Lines.{Line, lines_of, list_of}
use Rattle.records.specs.Records.{record_room, entry_room, index, record_at}
use Rattle.lookup.specs.Lookup.{offset_of}
use Rattle.jumps.specs.Stored.{stored_jumps}
use Rattle.bytecode.specs.Decoding.{Decision, counts, line_jumps, decoding, records_after, entries_after}
use Rattle.walk.specs.Walk.{Node}

-- by demand 2's definitions: the instructions of the code, their lengths and their jumps
abbrev pub node_of : List ℕ → Line → Node
node_of code l = record { jumps = line_jumps code l; next = l.next.0 }

abbrev pub nodes_of : List ℕ → List ℕ → List Node
nodes_of code pool = map (node_of code) (list_of (lines_of code pool))

-- by the words of the stores: a record's own words, and the offset of the next record or the end
abbrev pub next_in : List ℕ → ℕ → ℕ → ℕ → ℕ
next_in records count end i = elim (ltb (i + 1) count) [ true ↦ offset_of records (i + 1) | false ↦ end ]

abbrev pub node_in : List ℕ → ℕ → List ℕ → ℕ → ℕ → Node
node_in records count entries end i = record { jumps = stored_jumps entries (record_at records (index i)); next = next_in records count end i }

abbrev pub nodes_in : List ℕ → ℕ → List ℕ → ℕ → List Node
nodes_in records count entries end = listed (node_in records count entries end) 0 count

-- What `decode` promises, where it accepts: read off its contract in Promised.antt
pub record Decodes (code pool records entries : List ℕ) (answer : Decision) (records' entries' : List ℕ) (k m : ℕ) : Type 0 where
  pub answers : answer ≡ decoding code pool (record_room records) (entry_room entries)
  pub stores_records : records' ≡ records_after code pool records entries
  pub stores_entries : entries' ≡ entries_after code pool records entries
  pub accepted : answer ≡ Ok (counts k m)
