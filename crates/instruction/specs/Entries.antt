-- The entries of an instruction: those of a switch, and an ordinary instruction has none.
use Rattle.std.specs.Prelude.{ℕ, ◌+◌, ◌*◌, ◌≤◌, ◌<◌, List, ◌≡◌, length}
use Rattle.read.specs.declared.CodeOffset.{CodeOffset}
use Rattle.ordinary.specs.declared.Instruction.{Instruction}
use Rattle.ordinary.specs.declared.Instruction.TheVariants as instruction

-- how many entries an instruction has
abbrev pub entries_of : Instruction → ℕ
entries_of (instruction.Ordinary kind a b) = 0
entries_of (instruction.TableSwitch default low high entries count) = count
entries_of (instruction.LookupSwitch default entries count) = count

-- the entries of a switch, four bytes each or eight, come last in it
abbrev pub EntriesLast : CodeOffset → Instruction → CodeOffset → Type 0
EntriesLast at (instruction.Ordinary kind a b) next = Unit {0}
EntriesLast at (instruction.TableSwitch default low high entries count) next = (at.0 < entries.0) × (entries.0 + 4 * count ≡ next.0)
EntriesLast at (instruction.LookupSwitch default entries count) next = (at.0 < entries.0) × (entries.0 + 8 * count ≡ next.0)

-- from its offset to the next an instruction has a byte at least and one for each entry, and it ends within the code
pub record Within (code : List ℕ) (at : CodeOffset) (i : Instruction) (next : CodeOffset) : Type 0 where
  pub longer : at.0 + 1 + entries_of i ≤ next.0
  pub ends : next.0 ≤ length code
  pub last : EntriesLast at i next
