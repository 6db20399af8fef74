-- What is wrong with an instruction's operands, and document 01's number and place for it, from the side of the bytes that
-- stand there. Nothing here is read. The proofs are in proofs/Faults.antt.
use Rattle.std.specs.Prelude.{ℕ, ◌≤◌, List, [], ◌∷◌, ◌++◌, ◌↔◌, ◌≡◌, length, Err}
use Rattle.read.specs.declared.CodeOffset.{CodeOffset}
use Rattle.read.specs.Reads.{after}
use Rattle.opcodes.specs.declared.WideForm.TheVariants as form
use Rattle.opcodes.specs.Operands.{Operand, WideLayout, wide_layout_of}
use Rattle.opcodes.specs.Wide.{wide_form_of}
use Rattle.operands.specs.Pictures.{Stand}
use Rattle.operands.specs.Faults.{OperandFault}
use Rattle.refusals.specs.declared.Reason.{Reason}
use Rattle.refusals.specs.Numbers.{refused, number_of}
use Rattle.ordinary.specs.Ordinary.{operands_from, wide_step}
use Rattle.ordinary.specs.Pictures.{Pictures, NamedAll}

-- the first operand with a fault: those before it stand, and the pool entries that they name have their kinds. The place is
-- where its bytes start
pub record OperandsFault (code pool : List ℕ) (os : List Operand) (at : CodeOffset) (why : Reason) (place : CodeOffset) : Type 0 where
  pub before : List Operand
  pub operand : Operand
  pub later : List Operand
  pub split : os ≡ before ++ (operand ∷ later)
  pub values : List ℕ
  pub bytes : List ℕ
  pub drawn : Pictures before values bytes
  pub named : NamedAll pool drawn
  pub stand : Stand code at bytes
  pub placed : place ≡ after (length bytes) at
  pub fault : OperandFault code pool operand place why

-- Operands are refused exactly for the first fault: proved as `operands_refused_exactly`
abbrev pub OperandsRefusedExactly : Type 0
OperandsRefusedExactly =
    (code pool : List ℕ) (kind : ℕ) (os : List Operand) (at : CodeOffset) (why : Reason) (place : CodeOffset) → at.0 ≤ length code
    → (operands_from code pool kind [] os at ≡ Err (refused why place)) ↔ OperandsFault code pool os at why place

-- after wide: no byte, a byte that wide does not modify, or a fault of the operands after it
pub data WideFault (code pool : List ℕ) (at : CodeOffset) (why : Reason) (place : CodeOffset) : Type 0 where
  past_end : number_of why ≡ 3 → place ≡ at → length code ≤ at.0 → WideFault code pool at why place
  not_modified : number_of why ≡ 5 → place ≡ at → (byte : ℕ) → Stand code at (byte ∷ []) → wide_form_of byte ≡ form.NoInstruction → WideFault code pool at why place
  of_operands :
      (byte : ℕ) → Stand code at (byte ∷ []) → (os : List Operand)
      → wide_layout_of (wide_form_of byte) ≡ WideLayout.operands os → OperandsFault code pool os (after 1 at) why place
      → WideFault code pool at why place

-- What stands after wide is refused exactly for its fault: proved as `wide_refused_exactly`
abbrev pub WideRefusedExactly : Type 0
WideRefusedExactly =
    (code pool : List ℕ) (at : CodeOffset) (why : Reason) (place : CodeOffset)
    → (wide_step code pool at ≡ Err (refused why place)) ↔ WideFault code pool at why place
