-- Any arguments may be given: no entry has a `requires`. Each line is over what the checker makes of the contract in src/, so
-- a `requires` that some arguments break breaks it. Proved in proofs/Asked.antt as `entries_ask_nothing`. The published
-- functions that are not listed serve other crates and ask something of these: docs/PROMISES.md says who meets it. But two,
-- `Reason::at` and `all_used`, over any type, have no `requires`: they ask what every function over a type does, that the
-- lifetimes in it are its caller's.
use denote.RattleType.{RattleType}
use mir.Syntax.{w64}
use mir.Val.{Fits}
use Rattle.laws.specs.Pinned.{AsksNothing}
use Rattle.refusals
use Rattle.texts
use Rattle.store
use Rattle.read
use Rattle.names
use Rattle.class_names
use Rattle.descriptors
use Rattle.methods
use Rattle.printing
use Rattle.method_printing
use Rattle.identifier
use Rattle.pool
use Rattle.opcodes
use Rattle.operands
use Rattle.ordinary
use Rattle.switches
use Rattle.instruction
use Rattle.lookup
use Rattle.jumps
use Rattle.filling
use Rattle.bytecode
use Rattle.station
use Rattle.wording
use Rattle.listing
use Rattle.bundle

pub record EntriesAskNothing : Type 1 where
  -- refusals
  pub reason_number : AsksNothing refusals.specs.contracts.Reason.number.ended refusals.proofs.Reason.number.Reads.Asked
  -- texts
  pub text : AsksNothing texts.specs.contracts.Text.new.ended texts.proofs.Text.new.Reads.Asked
  -- store
  pub clear : AsksNothing store.specs.contracts.clear.ended store.proofs.clear.Reads.Asked
  -- read
  pub left : AsksNothing read.specs.contracts.left.ended read.proofs.left.Reads.Asked
  pub read_u1 : AsksNothing read.specs.contracts.read_u1.ended read.proofs.read_u1.Reads.Asked
  pub read_u2 : AsksNothing read.specs.contracts.read_u2.ended read.proofs.read_u2.Reads.Asked
  pub read_u4 : AsksNothing read.specs.contracts.read_u4.ended read.proofs.read_u4.Reads.Asked
  -- names
  pub is_unqualified_name : AsksNothing names.specs.contracts.is_unqualified_name.ended names.proofs.is_unqualified_name.Reads.Asked
  pub is_unqualified_method_name : AsksNothing names.specs.contracts.is_unqualified_method_name.ended names.proofs.is_unqualified_method_name.Reads.Asked
  pub is_binary_name : AsksNothing names.specs.contracts.is_binary_name.ended names.proofs.is_binary_name.Reads.Asked
  pub is_module_name : AsksNothing names.specs.contracts.is_module_name.ended names.proofs.is_module_name.Reads.Asked
  -- class_names
  pub name_end : AsksNothing class_names.specs.contracts.name_end.ended class_names.proofs.name_end.Reads.Asked
  pub class_name : AsksNothing class_names.specs.contracts.class_name.ended class_names.proofs.class_name.Reads.Asked
  pub is_class_name : AsksNothing class_names.specs.contracts.is_class_name.ended class_names.proofs.is_class_name.Reads.Asked
  -- descriptors
  pub base : AsksNothing descriptors.specs.contracts.FieldDescriptor.base.ended descriptors.proofs.FieldDescriptor.base.Reads.Asked
  pub void : AsksNothing descriptors.specs.contracts.FieldDescriptor.void.ended descriptors.proofs.FieldDescriptor.void.Reads.Asked
  pub object : AsksNothing descriptors.specs.contracts.FieldDescriptor.object.ended descriptors.proofs.FieldDescriptor.object.Reads.Asked
  pub is_base_type : AsksNothing descriptors.specs.contracts.is_base_type.ended descriptors.proofs.is_base_type.Reads.Asked
  pub field_at : AsksNothing descriptors.specs.contracts.field_at.ended descriptors.proofs.field_at.Reads.Asked
  pub return_at : AsksNothing descriptors.specs.contracts.return_at.ended descriptors.proofs.return_at.Reads.Asked
  pub field_prefix : AsksNothing descriptors.specs.contracts.field_prefix.ended descriptors.proofs.field_prefix.Reads.Asked
  pub field_whole : AsksNothing descriptors.specs.contracts.field_whole.ended descriptors.proofs.field_whole.Reads.Asked
  pub return_prefix : AsksNothing descriptors.specs.contracts.return_prefix.ended descriptors.proofs.return_prefix.Reads.Asked
  pub return_whole : AsksNothing descriptors.specs.contracts.return_whole.ended descriptors.proofs.return_whole.Reads.Asked
  pub begins_with : AsksNothing descriptors.specs.contracts.begins_with.ended descriptors.proofs.begins_with.Reads.Asked
  pub array_whole : AsksNothing descriptors.specs.contracts.array_whole.ended descriptors.proofs.array_whole.Reads.Asked
  pub is_field_descriptor : AsksNothing descriptors.specs.contracts.is_field_descriptor.ended descriptors.proofs.is_field_descriptor.Reads.Asked
  pub is_return_descriptor : AsksNothing descriptors.specs.contracts.is_return_descriptor.ended descriptors.proofs.is_return_descriptor.Reads.Asked
  pub is_array_descriptor : AsksNothing descriptors.specs.contracts.is_array_descriptor.ended descriptors.proofs.is_array_descriptor.Reads.Asked
  -- methods
  pub method_prefix : AsksNothing methods.specs.contracts.method_prefix.ended methods.proofs.method_prefix.Reads.Asked
  pub method_whole : AsksNothing methods.specs.contracts.method_whole.ended methods.proofs.method_whole.Reads.Asked
  pub method_check : AsksNothing methods.specs.contracts.method_check.ended methods.proofs.method_check.Reads.Asked
  pub is_method_descriptor : AsksNothing methods.specs.contracts.is_method_descriptor.ended methods.proofs.is_method_descriptor.Reads.Asked
  -- printing
  pub is_field_part : AsksNothing printing.specs.contracts.is_field_part.ended printing.proofs.is_field_part.Reads.Asked
  pub is_return_part : AsksNothing printing.specs.contracts.is_return_part.ended printing.proofs.is_return_part.Reads.Asked
  pub part_length : AsksNothing printing.specs.contracts.part_length.ended printing.proofs.part_length.Reads.Asked
  pub check_room : AsksNothing printing.specs.contracts.check_room.ended printing.proofs.check_room.Reads.Asked
  pub print_field : AsksNothing printing.specs.contracts.print_field.ended printing.proofs.print_field.Reads.Asked
  pub print_return : AsksNothing printing.specs.contracts.print_return.ended printing.proofs.print_return.Reads.Asked
  -- method_printing
  pub print_method : AsksNothing method_printing.specs.contracts.print_method.ended method_printing.proofs.print_method.Reads.Asked
  -- identifier
  pub method_identifier : AsksNothing identifier.specs.contracts.method_identifier.ended identifier.proofs.method_identifier.Reads.Asked
  -- pool
  pub pool_entry_at : AsksNothing pool.specs.contracts.entry_at.ended pool.proofs.entry_at.Reads.Asked
  pub allows_tag : AsksNothing pool.specs.contracts.allows_tag.ended pool.proofs.allows_tag.Reads.Asked
  pub entry_of_kind : AsksNothing pool.specs.contracts.entry_of_kind.ended pool.proofs.entry_of_kind.Reads.Asked
  -- opcodes
  pub format_of : AsksNothing opcodes.specs.contracts.format_of.ended opcodes.proofs.format_of.Reads.Asked
  pub wide_form_of : AsksNothing opcodes.specs.contracts.wide_form_of.ended opcodes.proofs.wide_form_of.Reads.Asked
  pub kind_of : AsksNothing opcodes.specs.contracts.kind_of.ended opcodes.proofs.kind_of.Reads.Asked
  -- operands
  pub signed_1 :
      (t : RattleType) (fits : Fits w64 1)
      → AsksNothing (operands.specs.contracts.signed_read.ended t) (operands.proofs.signed_read.Reads.Asked 1 fits)
  pub signed_2 :
      (t : RattleType) (fits : Fits w64 2)
      → AsksNothing (operands.specs.contracts.signed_read.ended t) (operands.proofs.signed_read.Reads.Asked 2 fits)
  pub signed_4 :
      (t : RattleType) (fits : Fits w64 4)
      → AsksNothing (operands.specs.contracts.signed_read.ended t) (operands.proofs.signed_read.Reads.Asked 4 fits)
  pub index_read : AsksNothing operands.specs.contracts.index_read.ended operands.proofs.index_read.Reads.Asked
  pub zero_read : AsksNothing operands.specs.contracts.zero_read.ended operands.proofs.zero_read.Reads.Asked
  pub array_tag_read : AsksNothing operands.specs.contracts.array_tag_read.ended operands.proofs.array_tag_read.Reads.Asked
  -- ordinary
  pub with_first : AsksNothing ordinary.specs.contracts.with_first.ended ordinary.proofs.with_first.Reads.Asked
  pub increment_1 :
      (t : RattleType) (fits : Fits w64 1)
      → AsksNothing (ordinary.specs.contracts.increment.ended t) (ordinary.proofs.increment.Reads.Asked 1 fits)
  pub increment_2 :
      (t : RattleType) (fits : Fits w64 2)
      → AsksNothing (ordinary.specs.contracts.increment.ended t) (ordinary.proofs.increment.Reads.Asked 2 fits)
  pub indexed_step : AsksNothing ordinary.specs.contracts.indexed_step.ended ordinary.proofs.indexed_step.Reads.Asked
  pub wide_step : AsksNothing ordinary.specs.contracts.wide_step.ended ordinary.proofs.wide_step.Reads.Asked
  -- switches
  pub entry_count : AsksNothing switches.specs.contracts.entry_count.ended switches.proofs.entry_count.Reads.Asked
  -- instruction
  pub instruction_at : AsksNothing instruction.specs.contracts.instruction_at.ended instruction.proofs.instruction_at.Reads.Asked
  -- records
  -- lookup
  pub find : AsksNothing lookup.specs.contracts.find.ended lookup.proofs.find.Reads.Asked
  pub sorted_records : AsksNothing lookup.specs.contracts.SortedRecords.new.ended lookup.proofs.SortedRecords.new.Reads.Asked
  pub index_of : AsksNothing lookup.specs.contracts.SortedRecords.index_of.ended lookup.proofs.SortedRecords.index_of.Reads.Asked
  pub is_offset : AsksNothing lookup.specs.contracts.SortedRecords.is_offset.ended lookup.proofs.SortedRecords.is_offset.Reads.Asked
  -- jumps
  pub stored_entries : AsksNothing jumps.specs.contracts.stored_entries.ended jumps.proofs.stored_entries.Reads.Asked
  pub failure : AsksNothing jumps.specs.contracts.FailureFromRefusalCodeOffset.from.ended jumps.proofs.FailureFromRefusalCodeOffset.from.Reads.Asked
  -- filling
  pub entries_of : AsksNothing filling.specs.contracts.entries_of.ended filling.proofs.entries_of.Reads.Asked
  -- bytecode
  pub decode : AsksNothing bytecode.specs.contracts.decode.ended bytecode.proofs.decode.Reads.Asked
  -- station
  pub nk_decode : AsksNothing station.specs.contracts.nk_decode.ended station.proofs.nk_decode.Reads.Asked
  pub nk_lookup : AsksNothing station.specs.contracts.nk_lookup.ended station.proofs.nk_lookup.Reads.Asked
  pub nk_class_name : AsksNothing station.specs.contracts.nk_class_name.ended station.proofs.nk_class_name.Reads.Asked
  pub nk_print_field : AsksNothing station.specs.contracts.nk_print_field.ended station.proofs.nk_print_field.Reads.Asked
  pub nk_print_return : AsksNothing station.specs.contracts.nk_print_return.ended station.proofs.nk_print_return.Reads.Asked
  pub nk_print_method : AsksNothing station.specs.contracts.nk_print_method.ended station.proofs.nk_print_method.Reads.Asked
  pub nk_identifier : AsksNothing station.specs.contracts.nk_identifier.ended station.proofs.nk_identifier.Reads.Asked
  pub nk_field_prefix : AsksNothing station.specs.contracts.nk_field_prefix.ended station.proofs.nk_field_prefix.Reads.Asked
  pub nk_field_whole : AsksNothing station.specs.contracts.nk_field_whole.ended station.proofs.nk_field_whole.Reads.Asked
  pub nk_return_prefix : AsksNothing station.specs.contracts.nk_return_prefix.ended station.proofs.nk_return_prefix.Reads.Asked
  pub nk_return_whole : AsksNothing station.specs.contracts.nk_return_whole.ended station.proofs.nk_return_whole.Reads.Asked
  pub nk_array : AsksNothing station.specs.contracts.nk_array.ended station.proofs.nk_array.Reads.Asked
  pub nk_method_prefix : AsksNothing station.specs.contracts.nk_method_prefix.ended station.proofs.nk_method_prefix.Reads.Asked
  pub nk_method_whole : AsksNothing station.specs.contracts.nk_method_whole.ended station.proofs.nk_method_whole.Reads.Asked
  pub nk_is_binary_name : AsksNothing station.specs.contracts.nk_is_binary_name.ended station.proofs.nk_is_binary_name.Reads.Asked
  pub nk_is_unqualified_name : AsksNothing station.specs.contracts.nk_is_unqualified_name.ended station.proofs.nk_is_unqualified_name.Reads.Asked
  pub nk_is_method_name : AsksNothing station.specs.contracts.nk_is_method_name.ended station.proofs.nk_is_method_name.Reads.Asked
  pub nk_is_module_name : AsksNothing station.specs.contracts.nk_is_module_name.ended station.proofs.nk_is_module_name.Reads.Asked
  pub nk_is_field_descriptor : AsksNothing station.specs.contracts.nk_is_field_descriptor.ended station.proofs.nk_is_field_descriptor.Reads.Asked
  pub nk_is_array_descriptor : AsksNothing station.specs.contracts.nk_is_array_descriptor.ended station.proofs.nk_is_array_descriptor.Reads.Asked
  pub nk_is_return_descriptor : AsksNothing station.specs.contracts.nk_is_return_descriptor.ended station.proofs.nk_is_return_descriptor.Reads.Asked
  pub nk_is_method_descriptor : AsksNothing station.specs.contracts.nk_is_method_descriptor.ended station.proofs.nk_is_method_descriptor.Reads.Asked
  pub answer_of_failure : AsksNothing station.specs.contracts.AnswerFromFailure.from.ended station.proofs.AnswerFromFailure.from.Reads.Asked
  pub answer_of_refusal : AsksNothing station.specs.contracts.AnswerFromRefusalUsize.from.ended station.proofs.AnswerFromRefusalUsize.from.Reads.Asked
  pub answer_of_output : AsksNothing station.specs.contracts.AnswerFromOutput.from.ended station.proofs.AnswerFromOutput.from.Reads.Asked
  pub parts_of_refusal : AsksNothing station.specs.contracts.PartsFromRefusalUsize.from.ended station.proofs.PartsFromRefusalUsize.from.Reads.Asked
  pub parts_of_field : AsksNothing station.specs.contracts.PartsFromField.from.ended station.proofs.PartsFromField.from.Reads.Asked
  -- wording
  pub has_operands : AsksNothing wording.specs.contracts.has_operands.ended wording.proofs.has_operands.Reads.Asked
  -- listing
  pub instruction_line : AsksNothing listing.specs.contracts.instruction_line.ended listing.proofs.instruction_line.Reads.Asked
  pub entry_line : AsksNothing listing.specs.contracts.entry_line.ended listing.proofs.entry_line.Reads.Asked
  pub accepted_line : AsksNothing listing.specs.contracts.accepted_line.ended listing.proofs.accepted_line.Reads.Asked
  pub refused_line : AsksNothing listing.specs.contracts.refused_line.ended listing.proofs.refused_line.Reads.Asked
  pub sum_line : AsksNothing listing.specs.contracts.sum_line.ended listing.proofs.sum_line.Reads.Asked
  pub shown : AsksNothing listing.specs.contracts.shown.ended listing.proofs.shown.Reads.Asked
  -- bundle
  pub next_method : AsksNothing bundle.specs.contracts.next_method.ended bundle.proofs.next_method.Reads.Asked
  pub cut_short : AsksNothing bundle.specs.contracts.CutShortFromRefusalCodeOffset.from.ended bundle.proofs.CutShortFromRefusalCodeOffset.from.Reads.Asked
