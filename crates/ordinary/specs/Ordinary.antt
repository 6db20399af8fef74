-- Instructions that are an opcode with its operands, and those after wide. Bytes are read in order, and the first refusal
-- is the answer.
use Rattle.std.specs.Prelude.{ℕ, List, [], ◌∷◌, ◌++◌, get_or, Result, Ok, Err}
use Rattle.read.specs.declared.CodeOffset.{CodeOffset}
use Rattle.refusals.specs.declared.Reason.TheVariants as reason
use Rattle.refusals.specs.declared.Refusal.{Refusal}
use Rattle.refusals.specs.Numbers.{refused}
use Rattle.read.specs.Reads.{Read, read_of}
use Rattle.opcodes.specs.Operands.{Operand, WideLayout, wide_layout_of}
use Rattle.opcodes.specs.Wide.{wide_form_of}
use Rattle.operands.specs.Checks.{operand_at}
use Rattle.ordinary.specs.declared.Instruction.{Instruction}
use Rattle.ordinary.specs.declared.Instruction.TheVariants as instruction

-- what stands at an offset: an instruction and the offset after it, or a refusal
abbrev pub Step : Type 0
Step = Result (Instruction × CodeOffset) (Refusal CodeOffset)

-- what follows a read, or the read's refusal
abbrev pub then_read : Read → (ℕ → CodeOffset → Step) → Step
then_read (Ok found) follows = follows found.0 found.1
then_read (Err r) follows = Err r

-- an instruction with these operands: the first two are kept, and one that it has not is 0
abbrev pub ordinary : ℕ → List ℕ → Instruction
ordinary kind values = instruction.Ordinary kind (get_or values 0 0) (get_or values 1 0)

-- The operands that are left, where these values stand before them
unfoldable pub operands_from : List ℕ → List ℕ → ℕ → List ℕ → List Operand → CodeOffset → Step
operands_from code pool kind values [] at = Ok (ordinary kind values, at)
operands_from code pool kind values (o ∷ os) at =
    then_read (operand_at code pool o at) (λ v next. operands_from code pool kind (values ++ v ∷ []) os next)

-- the last operand, and an index with what follows it
abbrev pub with_first : ℕ → Read → Step
with_first kind first = then_read first (λ a next. Ok (ordinary kind (a ∷ []), next))

abbrev pub with_second : ℕ → ℕ → Read → Step
with_second kind a second = then_read second (λ b next. Ok (ordinary kind (a ∷ b ∷ []), next))

abbrev pub indexed : List ℕ → ℕ → List Operand → Read → Step
indexed code kind follow index = then_read index (λ i next. operands_from code [] kind (i ∷ []) follow next)

-- JVMS 6.5 wide: the byte at `at`, after it, is the kind, and its operands start at the next. 5: a bad byte after wide
abbrev pub widened_by : List ℕ → List ℕ → ℕ → CodeOffset → CodeOffset → WideLayout → Step
widened_by code pool byte at next (WideLayout.operands os) = operands_from code pool byte [] os next
widened_by code pool byte at next WideLayout.none = Err (refused reason.NotAfterWide at)

abbrev pub widened : List ℕ → List ℕ → ℕ → CodeOffset → CodeOffset → Step
widened code pool byte at next = widened_by code pool byte at next (wide_layout_of (wide_form_of byte))

abbrev pub wide_step : List ℕ → List ℕ → CodeOffset → Step
wide_step code pool at = then_read (read_of 1 code at) (λ byte next. widened code pool byte at next)
