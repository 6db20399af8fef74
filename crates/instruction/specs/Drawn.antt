-- The entries of an instruction as its picture draws them, and that those which are read from the code are the same. The proof
-- is in proofs/Drawn.antt.
use Rattle.std.specs.Prelude.{ℕ, List, [], ◌↔◌, ◌≡◌, Ok}
use Rattle.read.specs.declared.CodeOffset.{CodeOffset}
use Rattle.read.specs.Reads.{after}
use Rattle.opcodes.specs.Formats.{format_of}
use Rattle.opcodes.specs.InstructionKinds.{kind_of}
use Rattle.opcodes.specs.Operands.{Layout, layout_of}
use Rattle.records.specs.declared.SwitchEntry.{SwitchEntry}
use Rattle.ordinary.specs.declared.Instruction.{Instruction}
use Rattle.switches.specs.Entries.{entries_in}
use Rattle.instruction.specs.Steps.{step_of}
use Rattle.instruction.specs.Pictures.{Follows, Picture, StandsAt}

-- only a switch has any
abbrev pub drawn_after : (kind : ℕ) (at : CodeOffset) (l : Layout) (i : Instruction) (bytes : List ℕ) → Follows kind at l i bytes → List SwitchEntry
drawn_after kind at (Layout.operands os) i bytes p = []
drawn_after kind at Layout.wide i bytes p = []
drawn_after kind at Layout.table_switch i bytes p = p.entries
drawn_after kind at Layout.lookup_switch i bytes p = p.entries
drawn_after kind at Layout.none i bytes p = absurd p

abbrev pub drawn_entries : {at : CodeOffset} {i : Instruction} {bytes : List ℕ} → Picture at i bytes → List SwitchEntry
drawn_entries {at} {i} {bytes} p = drawn_after (kind_of p.opcode) (after 1 at) (layout_of (format_of p.opcode)) i p.rest p.follows

-- Of a decoded instruction these entries are read exactly where the picture that stands there has them: proved as
-- `entries_drawn`
abbrev pub EntriesDrawn : Type 0
EntriesDrawn =
    (code pool : List ℕ) (at : CodeOffset) (i : Instruction) (next : CodeOffset) (es : List SwitchEntry) → step_of code pool at ≡ Ok (i, next)
    → (entries_in code i ≡ es) ↔ ((s : StandsAt code pool at i next) × (drawn_entries s.picture ≡ es))
