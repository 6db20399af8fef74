-- JVMS 6.5 from the other side: the bytes of an ordinary instruction after its opcode, as its format draws them, and of
-- one that wide modifies. Nothing here is read, and nothing has a number or a place of document 01.
use Rattle.std.specs.Prelude.{ℕ, List, [], ◌∷◌, ◌++◌, ◌≡◌}
use Rattle.opcodes.specs.Operands.{Operand, WideLayout, wide_layout_of}
use Rattle.opcodes.specs.Wide.{wide_form_of}
use Rattle.operands.specs.Pictures.{Drawn, Named}
use Rattle.ordinary.specs.declared.Instruction.{Instruction}
use Rattle.ordinary.specs.Ordinary.{ordinary}

-- operands, their values and their bytes, one after the other
pub data Pictures : List Operand → List ℕ → List ℕ → Type 0 where
  none : Pictures [] [] []
  more : {o : Operand} {os : List Operand} {v : ℕ} {vs bytes : List ℕ} (first rest : List ℕ) → Drawn o v first → Pictures os vs rest → bytes ≡ first ++ rest → Pictures (o ∷ os) (v ∷ vs) bytes

-- the pool entries that they name have their kinds
abbrev pub NamedAll : List ℕ → {os : List Operand} {values bytes : List ℕ} → Pictures os values bytes → Type 0
NamedAll pool Pictures.none = Unit {0}
NamedAll pool (Pictures.more {o} {os} {v} first rest drawn pictures e) = Named pool o v × NamedAll pool pictures

-- an instruction of this kind with these operands, and its bytes after the opcode
pub record OrdinaryPicture (kind : ℕ) (os : List Operand) (i : Instruction) (bytes : List ℕ) : Type 0 where
  pub values : List ℕ
  pub drawn : Pictures os values bytes
  pub is : i ≡ ordinary kind values

-- what wide makes of an instruction: its byte, which is the kind, and wider operands
pub record WidePicture (i : Instruction) (bytes : List ℕ) : Type 0 where
  pub byte : ℕ
  pub rest : List ℕ
  pub drawn : bytes ≡ byte ∷ rest
  pub operands : List Operand
  pub form : wide_layout_of (wide_form_of byte) ≡ WideLayout.operands operands
  pub picture : OrdinaryPicture byte operands i rest
