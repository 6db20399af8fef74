use mathlib.Core.Path.{refl}
use Rattle.laws.specs.Bytes.{begins_with, same_text}
use Rattle.class_names.specs.Names.{name_from, alone_of, class_name}
use Rattle.descriptors.specs.Texts.{object_of, type_from, field_from, return_from, whole, field_prefix}
use Rattle.methods.specs.Texts.{next_from, rest_from, opening, method_reading, within, answer_from, store_from, store_after as method_store}
use Rattle.read.specs.Reads.{big_endian, read_of}
use Rattle.opcodes.specs.Formats.{formats, format_of}
use Rattle.opcodes.specs.InstructionKinds.{instruction_kinds, kind_of}
use Rattle.opcodes.specs.Wide.{wide_forms, wide_form_of}
use Rattle.operands.specs.Signed.{signed_in, extended}
use Rattle.operands.specs.Checks.{signed_read, unless_fault}
use Rattle.ordinary.specs.Ordinary.{operands_from}
use Rattle.switches.specs.Switches.{words_from, count_of}
use Rattle.instruction.specs.Steps.{step_of}
use Rattle.lines.specs.Lines.{lines_from, list_of}
use Rattle.records.specs.Records.{all_entry_words}
use Rattle.switches.specs.Entries.{table_from}
use Rattle.jumps.specs.Jumps.{jump_check, words_check, all_check}
use Rattle.jumps.specs.Stored.{has_jump}
use Rattle.bytecode.specs.Decoding.{fitting, run_from, records_from, entries_from, jump_words, limited, decoding, store_after}
use Rattle.promises.specs.Settled.{SettledHold}

pub settled_hold : SettledHold
unfolding begins_with same_text name_from alone_of class_name object_of type_from field_from return_from whole field_prefix next_from rest_from opening method_reading within answer_from store_from method_store big_endian read_of formats format_of instruction_kinds kind_of wide_forms wide_form_of signed_in extended signed_read unless_fault operands_from words_from count_of step_of lines_from list_of all_entry_words table_from jump_check words_check all_check has_jump fitting run_from records_from entries_from jump_words limited decoding store_after
settled_hold = refl
