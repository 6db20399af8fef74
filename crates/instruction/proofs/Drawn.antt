-- The entries that are read are those of the picture.
use Prim.Native.Nat.{ℕ}
use mathlib.Core.List.{List, [], ◌∷◌}
use mathlib.Core.Path.{◌≡◌, sym, ap, ◌∙◌, subst}
use Rattle.read.specs.declared.CodeOffset.{CodeOffset}
use Rattle.read.specs.Reads.{after}
use Rattle.opcodes.specs.Formats.{format_of}
use Rattle.opcodes.specs.InstructionKinds.{kind_of}
use Rattle.opcodes.specs.Operands.{Layout, layout_of}
use Rattle.operands.specs.Pictures.{Stand}
use Rattle.operands.proofs.Standing.{stand_part}
use Rattle.ordinary.specs.declared.Instruction.{Instruction}
use Rattle.switches.specs.Entries.{entries_in}
use Rattle.switches.proofs.Exactly.{table_entries_drawn, lookup_entries_drawn}
use Rattle.instruction.specs.Pictures.{Follows, StandsAt}
use Rattle.instruction.specs.Drawn.{drawn_after, drawn_entries, EntriesDrawn}
use Rattle.instruction.proofs.Exactly.{step_exactly}

read_after : (code : List ℕ) (kind : ℕ) (at : CodeOffset) (l : Layout) (i : Instruction) (bytes : List ℕ) (p : Follows kind at l i bytes) → Stand code at bytes → entries_in code i ≡ drawn_after kind at l i bytes p
read_after code kind at (Layout.operands os) i bytes p s = ap (entries_in code) p.is
read_after code kind at Layout.wide i bytes p s = ap (entries_in code) p.picture.is
read_after code kind at Layout.table_switch i bytes p s = table_entries_drawn code at i bytes p s
read_after code kind at Layout.lookup_switch i bytes p s = lookup_entries_drawn code at i bytes p s
read_after code kind at Layout.none i bytes p s = absurd p

-- whatever stands there
pub read_drawn : (code pool : List ℕ) (at : CodeOffset) (i : Instruction) (next : CodeOffset) (s : StandsAt code pool at i next) → entries_in code i ≡ drawn_entries s.picture
read_drawn code pool at i next s =
    let p = s.picture in
    let parts = stand_part code at (p.opcode ∷ []) p.rest (subst (Stand code at) p.drawn s.stand) in
    read_after code (kind_of p.opcode) (after 1 at) (layout_of (format_of p.opcode)) i p.rest p.follows parts.1

pub entries_drawn : EntriesDrawn
entries_drawn code pool at i next es e = (
  λ q.
      let s = (step_exactly code pool at i next).0 e in
      (s, sym (read_drawn code pool at i next s) ∙ q),
  λ h. read_drawn code pool at i next h.0 ∙ h.1,
)
