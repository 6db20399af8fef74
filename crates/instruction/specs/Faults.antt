-- What is wrong at an offset, and document 01's number and place for it, from the side of the bytes that stand there.
-- Nothing here is read. The proofs are in proofs/Faults.antt.
use Rattle.std.specs.Prelude.{ℕ, ◌≤◌, List, [], ◌∷◌, ◌↔◌, ◌≡◌, length, Err}
use Rattle.laws.specs.Bytes.{In}
use Rattle.read.specs.declared.CodeOffset.{CodeOffset}
use Rattle.read.specs.Reads.{after}
use Rattle.opcodes.specs.Formats.{format_of}
use Rattle.opcodes.specs.Operands.{Operand, Layout, layout_of}
use Rattle.operands.specs.Pictures.{Stand}
use Rattle.refusals.specs.declared.Reason.{Reason}
use Rattle.refusals.specs.Numbers.{refused, number_of}
use Rattle.ordinary.specs.Faults.{OperandsFault, WideFault}
use Rattle.switches.specs.Faults.{TableFault, LookupFault}
use Rattle.instruction.specs.Steps.{step_of}

-- an opcode stands at an offset, and its format lays this out after it
pub record Opcode (code : List ℕ) (at : CodeOffset) (l : Layout) : Type 0 where
  pub byte : ℕ
  pub stand : Stand code at (byte ∷ [])
  pub layout : layout_of (format_of byte) ≡ l

-- 3: there is no byte. 4: the byte is no instruction. Else there is an opcode, and the fault is in what follows it
pub data StepFault (code pool : List ℕ) (at : CodeOffset) (why : Reason) (place : CodeOffset) : Type 0 where
  past_end : number_of why ≡ 3 → place ≡ at → length code ≤ at.0 → StepFault code pool at why place
  no_instruction : number_of why ≡ 4 → place ≡ at → Opcode code at Layout.none → StepFault code pool at why place
  of_operands : (os : List Operand) → Opcode code at (Layout.operands os) → OperandsFault code pool os (after 1 at) why place → StepFault code pool at why place
  of_wide : Opcode code at Layout.wide → WideFault code pool (after 1 at) why place → StepFault code pool at why place
  of_table : Opcode code at Layout.table_switch → TableFault code (after 1 at) why place → StepFault code pool at why place
  of_lookup : Opcode code at Layout.lookup_switch → LookupFault code (after 1 at) why place → StepFault code pool at why place

-- A step is refused exactly for its fault: proved as `step_refused_exactly`
abbrev pub StepRefusedExactly : Type 0
StepRefusedExactly =
    (code pool : List ℕ) (at : CodeOffset) (why : Reason) (place : CodeOffset)
    → (step_of code pool at ≡ Err (refused why place)) ↔ StepFault code pool at why place

-- so these are the numbers of the refusals of a step: proved as `step_refuses`
abbrev pub step_refusals : List ℕ
step_refusals = 3 ∷ 4 ∷ 5 ∷ 6 ∷ 7 ∷ 8 ∷ 9 ∷ 10 ∷ 11 ∷ []

abbrev pub StepRefuses : Type 0
StepRefuses =
    (code pool : List ℕ) (at : CodeOffset) (why : Reason) (place : CodeOffset) → step_of code pool at ≡ Err (refused why place) → In (number_of why) step_refusals
