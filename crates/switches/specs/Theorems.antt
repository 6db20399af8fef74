-- The reading of a switch and its picture agree. The proofs are in proofs/Exactly.antt.
use Rattle.std.specs.Prelude.{ℕ, List, ◌↔◌, ◌≡◌, length, Ok}
use Rattle.read.specs.declared.CodeOffset.{CodeOffset}
use Rattle.read.specs.Reads.{after}
use Rattle.operands.specs.Pictures.{Stand}
use Rattle.ordinary.specs.declared.Instruction.{Instruction}
use Rattle.ordinary.specs.Ordinary.{Step}
use Rattle.switches.specs.Switches.{table_step, lookup_step}
use Rattle.switches.specs.Entries.{entries_in}
use Rattle.switches.specs.Pictures.{TablePicture, LookupPicture}

-- decoded exactly where the picture's bytes stand
abbrev SwitchExactly : (List ℕ → CodeOffset → Step) → (CodeOffset → Instruction → List ℕ → Type 0) → Type 0
SwitchExactly step_of Picture =
    (code : List ℕ) (at : CodeOffset) (i : Instruction) (next : CodeOffset)
    → (step_of code at ≡ Ok (i, next))
    ↔ ((bytes : List ℕ) × Picture at i bytes × Stand code at bytes × (next ≡ after (length bytes) at))

-- proved as `table_exactly`, `lookup_exactly`
abbrev pub TableExactly : Type 0
TableExactly = SwitchExactly table_step TablePicture

abbrev pub LookupExactly : Type 0
LookupExactly = SwitchExactly lookup_step LookupPicture

-- The entries that are read from the code are those of the picture that stands there: proved as `table_entries_drawn`,
-- `lookup_entries_drawn`
abbrev pub TableEntriesDrawn : Type 0
TableEntriesDrawn =
    (code : List ℕ) (at : CodeOffset) (i : Instruction) (bytes : List ℕ) (t : TablePicture at i bytes) → Stand code at bytes
    → entries_in code i ≡ t.entries

abbrev pub LookupEntriesDrawn : Type 0
LookupEntriesDrawn =
    (code : List ℕ) (at : CodeOffset) (i : Instruction) (bytes : List ℕ) (t : LookupPicture at i bytes) → Stand code at bytes
    → entries_in code i ≡ t.entries
