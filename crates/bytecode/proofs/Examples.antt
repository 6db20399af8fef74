use mathlib.Core.Path.{refl}
use Rattle.read.specs.Reads.{big_endian, read_of}
use Rattle.opcodes.specs.Formats.{formats, format_of}
use Rattle.opcodes.specs.InstructionKinds.{instruction_kinds, kind_of}
use Rattle.opcodes.specs.Wide.{wide_forms, wide_form_of}
use Rattle.operands.specs.Signed.{signed_in, extended}
use Rattle.operands.specs.Checks.{signed_read, unless_fault}
use Rattle.ordinary.specs.Ordinary.{operands_from}
use Rattle.switches.specs.Switches.{words_from, count_of}
use Rattle.instruction.specs.Steps.{step_of}
use Rattle.lines.specs.Lines.{lines_from, list_of}
use Rattle.records.specs.Records.{all_entry_words}
use Rattle.switches.specs.Entries.{table_from, pairs_from}
use Rattle.jumps.specs.Jumps.{jump_check, words_check, all_check}
use Rattle.jumps.specs.Stored.{has_jump}
use Rattle.bytecode.specs.Decoding.{fitting, run_from, records_from, entries_from, jump_words, limited, decoding, store_after}
use Rattle.bytecode.specs.Examples.{CodesCompute, LimitsCompute, MarksCompute}

pub codes_compute : CodesCompute
unfolding big_endian read_of formats format_of instruction_kinds kind_of wide_forms wide_form_of signed_in extended signed_read unless_fault operands_from words_from count_of step_of lines_from list_of all_entry_words table_from pairs_from jump_check words_check all_check has_jump fitting run_from records_from entries_from jump_words limited decoding store_after
codes_compute = refl

pub limits_compute : LimitsCompute
unfolding big_endian read_of formats format_of step_of lines_from list_of all_check fitting run_from records_from limited decoding store_after
limits_compute = refl

pub marks_compute : MarksCompute
unfolding store_after
marks_compute = refl
