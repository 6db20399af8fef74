-- JVMS 6.5 from the other side: the bytes of an instruction that stands at an offset, as its format draws them. Nothing
-- here is read, and nothing has a number or a place of document 01.
use Rattle.std.specs.Prelude.{ℕ, List, ◌∷◌, ◌≡◌, length}
use Rattle.read.specs.declared.CodeOffset.{CodeOffset}
use Rattle.read.specs.Reads.{after}
use Rattle.opcodes.specs.Formats.{format_of}
use Rattle.opcodes.specs.InstructionKinds.{kind_of}
use Rattle.opcodes.specs.Operands.{Layout, layout_of}
use Rattle.operands.specs.Pictures.{Stand}
use Rattle.ordinary.specs.declared.Instruction.{Instruction}
use Rattle.ordinary.specs.Pictures.{NamedAll, OrdinaryPicture, WidePicture}
use Rattle.switches.specs.Pictures.{TablePicture, LookupPicture}

-- the bytes after an opcode of this kind, by what its format lays out there
abbrev pub Follows : ℕ → CodeOffset → Layout → Instruction → List ℕ → Type 0
Follows kind at (Layout.operands os) i bytes = OrdinaryPicture kind os i bytes
Follows kind at Layout.wide i bytes = WidePicture i bytes
Follows kind at Layout.table_switch i bytes = TablePicture at i bytes
Follows kind at Layout.lookup_switch i bytes = LookupPicture at i bytes
Follows kind at Layout.none i bytes = ⊥

-- an instruction at an offset, and its bytes: the opcode, and what follows it
pub record Picture (at : CodeOffset) (i : Instruction) (bytes : List ℕ) : Type 0 where
  pub opcode : ℕ
  pub rest : List ℕ
  pub drawn : bytes ≡ opcode ∷ rest
  pub follows : Follows (kind_of opcode) (after 1 at) (layout_of (format_of opcode)) i rest

-- the pool entries that what follows names have their kinds; only ordinary instructions name any
abbrev pub NamedAfter : List ℕ → (kind : ℕ) (at : CodeOffset) (l : Layout) (i : Instruction) (bytes : List ℕ) → Follows kind at l i bytes → Type 0
NamedAfter pool kind at (Layout.operands os) i bytes p = NamedAll pool p.drawn
NamedAfter pool kind at Layout.wide i bytes p = Unit {0}
NamedAfter pool kind at Layout.table_switch i bytes p = Unit {0}
NamedAfter pool kind at Layout.lookup_switch i bytes p = Unit {0}
NamedAfter pool kind at Layout.none i bytes p = Unit {0}

abbrev pub NamedIn : List ℕ → {at : CodeOffset} {i : Instruction} {bytes : List ℕ} → Picture at i bytes → Type 0
NamedIn pool {at} {i} {bytes} p = NamedAfter pool (kind_of p.opcode) (after 1 at) (layout_of (format_of p.opcode)) i p.rest p.follows

-- the code at the offset starts with the instruction's bytes, as many as to the next offset, and the pool entries that
-- it names have their kinds
pub record StandsAt (code pool : List ℕ) (at : CodeOffset) (i : Instruction) (next : CodeOffset) : Type 0 where
  pub bytes : List ℕ
  pub picture : Picture at i bytes
  pub named : NamedIn pool picture
  pub stand : Stand code at bytes
  pub place : next ≡ after (length bytes) at
