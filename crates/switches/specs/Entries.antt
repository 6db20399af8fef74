-- The entries of a switch, JVMS 6.5, read from the code: a key and a jump each.
use Rattle.std.specs.Prelude.{ℕ, zero, suc, ◌+◌, ◌*◌, ◌%◌, ◌^◌, ◌≤◌, List, [], ◌∷◌, length}
use Rattle.read.specs.declared.CodeOffset.{CodeOffset}
use Rattle.read.specs.Reads.{big_endian, bytes_at, after}
use Rattle.records.specs.declared.SwitchEntry.{SwitchEntry}
use Rattle.ordinary.specs.declared.Instruction.{Instruction}
use Rattle.ordinary.specs.declared.Instruction.TheVariants as instruction

-- the word of the four bytes at an offset
abbrev pub word_at : List ℕ → CodeOffset → ℕ
word_at code at = big_endian (bytes_at 4 code at.0)

-- tableswitch: the jumps stand one after the other. The first has the key low and each the next key, in two's complement
unfoldable pub table_from : List ℕ → ℕ → CodeOffset → ℕ → List SwitchEntry
table_from code key at zero = []
table_from code key at (suc n) = record { key = key % 2 ^ 32; jump = word_at code at } ∷ table_from code (key + 1) (after 4 at) n

-- lookupswitch: pairs of a key and its jump
unfoldable pub pairs_from : List ℕ → CodeOffset → ℕ → List SwitchEntry
pairs_from code at zero = []
pairs_from code at (suc n) = record { key = word_at code at; jump = word_at code (after 4 at) } ∷ pairs_from code (after 8 at) n

-- The entries of an instruction of the code
abbrev pub entries_in : List ℕ → Instruction → List SwitchEntry
entries_in code (instruction.Ordinary kind a b) = []
entries_in code (instruction.TableSwitch default low high from count) = table_from code low from count
entries_in code (instruction.LookupSwitch default from count) = pairs_from code from count

-- and that they lie in it
abbrev pub EntriesInside : List ℕ → Instruction → Type 0
EntriesInside code (instruction.Ordinary kind a b) = Unit {0}
EntriesInside code (instruction.TableSwitch default low high from count) = from.0 + 4 * count ≤ length code
EntriesInside code (instruction.LookupSwitch default from count) = from.0 + 8 * count ≤ length code
