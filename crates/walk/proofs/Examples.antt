use mathlib.Core.Path.{refl}
use Rattle.read.specs.Reads.{big_endian, read_of}
use Rattle.opcodes.specs.Formats.{formats, format_of}
use Rattle.opcodes.specs.InstructionKinds.{instruction_kinds, kind_of}
use Rattle.operands.specs.Signed.{signed_in, extended}
use Rattle.operands.specs.Checks.{signed_read}
use Rattle.ordinary.specs.Ordinary.{operands_from}
use Rattle.switches.specs.Switches.{words_from, count_of}
use Rattle.instruction.specs.Steps.{step_of}
use Rattle.lines.specs.Lines.{lines_from, list_of}
use Rattle.switches.specs.Entries.{table_from, pairs_from}
use Rattle.jumps.specs.Stored.{has_jump}
use Rattle.bytecode.specs.Decoding.{jump_words}
use Rattle.walk.specs.Examples.{NodesCompute}

pub nodes_compute : NodesCompute
unfolding big_endian read_of formats format_of instruction_kinds kind_of signed_in extended signed_read operands_from words_from count_of step_of lines_from list_of table_from pairs_from has_jump jump_words
nodes_compute = refl
