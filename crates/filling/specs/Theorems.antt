-- What a decoded instruction says of its entries and its kind, so that its record tells it apart. The proofs are in
-- proofs/Entries.antt and proofs/Decoded.antt.
use Rattle.std.specs.Prelude.{ℕ, List, ◌≡◌, length, Some, Ok}
use Rattle.read.specs.declared.CodeOffset.{CodeOffset}
use Rattle.ordinary.specs.declared.Instruction.{Instruction}
use Rattle.ordinary.specs.declared.Instruction.TheVariants as instruction
use Rattle.switches.specs.Switches.{entry_count}
use Rattle.instruction.specs.Steps.{step_of}
use Rattle.instruction.specs.Entries.{entries_of}
use Rattle.switches.specs.Entries.{entries_in, EntriesInside}

-- An instruction has as many entries as it says: proved as `all_entries`
abbrev pub AllEntries : Type 0
AllEntries = (code : List ℕ) (i : Instruction) → length (entries_in code i) ≡ entries_of i

-- The entries of a decoded instruction lie in the code: proved as `entries_inside`
abbrev pub DecodedInside : Type 0
DecodedInside =
    (code pool : List ℕ) (at : CodeOffset) (i : Instruction) (next : CodeOffset) → step_of code pool at ≡ Ok (i, next) → EntriesInside code i

-- The number of a table's entries follows from its bounds: proved as `table_counted`
abbrev pub TableCounted : Type 0
TableCounted =
    (code pool : List ℕ) (at : CodeOffset) (default low high : ℕ) (from : CodeOffset) (count : ℕ) (next : CodeOffset)
    → step_of code pool at ≡ Ok (instruction.TableSwitch default low high from count, next)
    → Some count ≡ entry_count low high

-- Only a switch has the kind of a switch: proved as `ordinary_kind`
abbrev pub OrdinaryKind : Type 0
OrdinaryKind =
    (code pool : List ℕ) (at : CodeOffset) (kind a b : ℕ) (next : CodeOffset)
    → step_of code pool at ≡ Ok (instruction.Ordinary kind a b, next)
    → (kind ≡ 0xaa → ⊥) × (kind ≡ 0xab → ⊥)
