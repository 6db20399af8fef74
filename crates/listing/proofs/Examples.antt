use mathlib.Core.Path.{refl}
use Rattle.opcodes.specs.Formats.{formats, format_of}
use Rattle.opcodes.specs.Wide.{wide_forms, wide_form_of}
use Rattle.phrases.specs.Numbers.{digits_within, decimal, signed, pad_left, pad_right}
use Rattle.mnemonics.specs.Mnemonics.{mnemonics, mnemonic_of}
use Rattle.wording.specs.Names.{or_else, kind_names, kind_name, array_types, array_type}
use Rattle.wording.specs.Operands.{counted, followed, modified, operands_of}
use Rattle.listing.specs.Meanings.{meanings, meaning_of, meaning_or_none}
use Rattle.listing.specs.Lines.{refusal, lining, instruction, shown_at}
use Rattle.listing.specs.Examples.{InstructionLinesCompute, PastTheEndComputes, EntryLinesCompute, AcceptedLinesCompute, RefusedLinesCompute, SumLineComputes, RoomsCompute}

pub instruction_lines_compute : InstructionLinesCompute
unfolding formats format_of wide_forms wide_form_of digits_within decimal signed pad_left pad_right mnemonics mnemonic_of or_else kind_names kind_name array_types array_type meanings meaning_of meaning_or_none refusal lining counted followed modified operands_of instruction shown_at
instruction_lines_compute = refl

pub past_the_end_computes : PastTheEndComputes
unfolding formats format_of wide_forms wide_form_of digits_within decimal signed pad_left pad_right mnemonics mnemonic_of or_else kind_names kind_name array_types array_type meanings meaning_of meaning_or_none refusal lining counted followed modified operands_of instruction shown_at
past_the_end_computes = refl

pub entry_lines_compute : EntryLinesCompute
unfolding formats format_of wide_forms wide_form_of digits_within decimal signed pad_left pad_right mnemonics mnemonic_of or_else kind_names kind_name array_types array_type meanings meaning_of meaning_or_none refusal lining counted followed modified operands_of instruction shown_at
entry_lines_compute = refl

pub accepted_lines_compute : AcceptedLinesCompute
unfolding formats format_of wide_forms wide_form_of digits_within decimal signed pad_left pad_right mnemonics mnemonic_of or_else kind_names kind_name array_types array_type meanings meaning_of meaning_or_none refusal lining counted followed modified operands_of instruction shown_at
accepted_lines_compute = refl

pub refused_lines_compute : RefusedLinesCompute
unfolding formats format_of wide_forms wide_form_of digits_within decimal signed pad_left pad_right mnemonics mnemonic_of or_else kind_names kind_name array_types array_type meanings meaning_of meaning_or_none refusal lining counted followed modified operands_of instruction shown_at
refused_lines_compute = refl

pub sum_line_computes : SumLineComputes
unfolding formats format_of wide_forms wide_form_of digits_within decimal signed pad_left pad_right mnemonics mnemonic_of or_else kind_names kind_name array_types array_type meanings meaning_of meaning_or_none refusal lining counted followed modified operands_of instruction shown_at
sum_line_computes = refl

pub rooms_compute : RoomsCompute
unfolding formats format_of wide_forms wide_form_of digits_within decimal signed pad_left pad_right mnemonics mnemonic_of or_else kind_names kind_name array_types array_type meanings meaning_of meaning_or_none refusal lining counted followed modified operands_of instruction shown_at
rooms_compute = refl
