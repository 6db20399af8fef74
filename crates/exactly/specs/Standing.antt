-- The instructions of a code with no reader: lines, each with the picture of JVMS 6.5 that stands there.
use Rattle.std.specs.Prelude.{ℕ, ◌+◌, true, false, List, [], ◌∷◌, map, ◌≡◌}
use Rattle.read.specs.declared.CodeOffset.{CodeOffset}
use Rattle.records.specs.declared.SwitchEntry.{SwitchEntry}
use Rattle.ordinary.specs.declared.Instruction.{Instruction}
use Rattle.ordinary.specs.declared.Instruction.TheVariants as instruction
use Rattle.instruction.specs.Pictures.{StandsAt}
use Rattle.instruction.specs.Entries.{entries_of}
use Rattle.instruction.specs.Drawn.{drawn_entries}
use Rattle.lines.specs.Lines.{Line}
use Rattle.jumps.specs.Jumps.{Jumps}
use Rattle.jumps.specs.Stored.{has_jump}

-- a line whose instruction stands in the code
pub record Standing (code pool : List ℕ) : Type 0 where
  pub line : Line
  pub stands : StandsAt code pool line.at line.instruction line.next

abbrev pub lines_in : {code pool : List ℕ} → List (Standing code pool) → List Line
lines_in {code} {pool} ls = map (λ (s : Standing code pool). s.line) ls

-- how many switch entries lines have
unfoldable pub total_entries : List Line → ℕ
total_entries [] = 0
total_entries (l ∷ lines) = entries_of l.instruction + total_entries lines

-- Lines cover the bytes from an offset to an end with no gap and no overlap: each starts where the one before it ends, and the
-- last ends at the end
abbrev pub LinesTile : {code pool : List ℕ} → CodeOffset → List (Standing code pool) → CodeOffset → Type 0
LinesTile at [] end = at ≡ end
LinesTile at (s ∷ ls) end = (s.line.at ≡ at) × LinesTile s.line.next ls end

-- JVMS 6.5: the jumps of an instruction with these entries, its own or a switch's default and then those of the entries
abbrev pub jumps_with : List SwitchEntry → Instruction → List ℕ
jumps_with es (instruction.Ordinary kind a b) = elim (has_jump kind) [ true ↦ a ∷ [] | false ↦ [] ]
jumps_with es (instruction.TableSwitch default low high from count) = default ∷ map (λ (e : SwitchEntry). e.jump) es
jumps_with es (instruction.LookupSwitch default from count) = default ∷ map (λ (e : SwitchEntry). e.jump) es

-- those of a line, by the entries that its picture draws
abbrev pub jumps_drawn : {code pool : List ℕ} → Standing code pool → Jumps
jumps_drawn s = record { at = s.line.at; words = jumps_with (drawn_entries s.stands.picture) s.line.instruction }

abbrev pub all_jumps_drawn : {code pool : List ℕ} → List (Standing code pool) → List Jumps
all_jumps_drawn {code} {pool} ls = map (λ (s : Standing code pool). jumps_drawn s) ls
