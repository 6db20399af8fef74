-- One instruction, JVMS 6.5 by format: the opcode, then what the format lays out after it. Document 01's reasons and
-- places come with each read; 4 is the opcode's own.
use Rattle.std.specs.Prelude.{ℕ, List, [], Err}
use Rattle.read.specs.declared.CodeOffset.{CodeOffset}
use Rattle.read.specs.Reads.{read_of}
use Rattle.opcodes.specs.Formats.{format_of}
use Rattle.opcodes.specs.InstructionKinds.{kind_of}
use Rattle.opcodes.specs.Operands.{Layout, layout_of}
use Rattle.refusals.specs.declared.Reason.TheVariants as reason
use Rattle.refusals.specs.Numbers.{refused}
use Rattle.ordinary.specs.Ordinary.{Step, then_read, operands_from, wide_step}
use Rattle.switches.specs.Switches.{table_step, lookup_step}

-- what follows an opcode of this kind that stands at a place. 4: the byte is no instruction
abbrev pub laid_out : List ℕ → List ℕ → ℕ → CodeOffset → CodeOffset → Layout → Step
laid_out code pool kind place at (Layout.operands os) = operands_from code pool kind [] os at
laid_out code pool kind place at Layout.wide = wide_step code pool at
laid_out code pool kind place at Layout.table_switch = table_step code at
laid_out code pool kind place at Layout.lookup_switch = lookup_step code at
laid_out code pool kind place at Layout.none = Err (refused reason.NotAnInstruction place)

-- The instruction at an offset, and the offset after it
unfoldable pub step_of : List ℕ → List ℕ → CodeOffset → Step
step_of code pool at = then_read (read_of 1 code at) (λ byte next. laid_out code pool (kind_of byte) at next (layout_of (format_of byte)))
