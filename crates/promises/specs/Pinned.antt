-- Every answer is pinned down: the contract of each published function, of each library, settles what the function does. Any
-- two outcomes that it allows are equal: the result, and the last contents of everything lent by `&mut`. Each line is over
-- what the checker makes of the contract in src/, so a contract that leaves something open breaks it: a promise dropped, or
-- made weaker, unless the others still settle what it was about. A `requires` is no premise: the promises settle the outcome
-- for all arguments. tools/pinned holds the list against the checker's own list of published functions. Proved in
-- proofs/Pinned.antt as `published_pinned`. The exports for C have a list of their own, `ExportsSettled` of station_c.
use Rattle.std.specs.Prelude.{ℕ, List, ◌≡◌, Result, Ok, Err}
use Rattle.std.specs.declared.clone.Clone.{Ghosts}
use contract.Lifetimes.{Lfts}
use denote.Triple.Clauses.{Ended, Lasts, at_exit}
use denote.Triple.Entry.{Args, Res}
use denote.Param.Laws.{Laws, IsCopy}
use denote.RattleType.{RattleType}
use mir.Syntax.{Dict, w64}
use mir.Val.{Fits}
use Rattle.laws.specs.Pinned.{Contract, Settles}
use Rattle.refusals
use Rattle.refusals.specs.declared.Refusal.{Refusal}
use Rattle.read.specs.declared.CodeOffset.{CodeOffset}
use Rattle.texts
use Rattle.store
use Rattle.read
use Rattle.names
use Rattle.class_names
use Rattle.descriptors
use Rattle.methods
use Rattle.output
use Rattle.printing
use Rattle.method_printing
use Rattle.identifier
use Rattle.pool
use Rattle.opcodes
use Rattle.operands
use Rattle.ordinary
use Rattle.switches
use Rattle.instruction
use Rattle.records
use Rattle.lookup
use Rattle.jumps
use Rattle.filling
use Rattle.bytecode
use Rattle.station
use Rattle.phrases
use Rattle.mnemonics
use Rattle.wording
use Rattle.listing
use Rattle.bundle

pub record PublishedPinned : Type 2 where
  -- refusals
  pub reason_number : Settles refusals.specs.contracts.Reason.number.ended refusals.proofs.Reason.number.Reads.Learnt
  pub reason_at : (t : RattleType) (l : Laws t) → Settles (refusals.specs.contracts.Reason.at.ended t) (refusals.proofs.Reason.at.Reads.Learnt t l)
  -- store
  pub clear : Settles store.specs.contracts.clear.ended store.proofs.clear.Reads.Learnt
  -- read
  pub left : Settles read.specs.contracts.left.ended read.proofs.left.Reads.Learnt
  pub number :
      (t : RattleType) (n : ℕ) (fits : Fits w64 n)
      → Settles (read.specs.contracts.number.ended t) (read.proofs.number.Reads.Learnt n fits)
  pub read_number :
      (t : RattleType) (n : ℕ) (fits : Fits w64 n)
      → Settles (read.specs.contracts.read_number.ended t) (read.proofs.read_number.Reads.Learnt n fits)
  pub read_u1 : Settles read.specs.contracts.read_u1.ended read.proofs.read_u1.Reads.Learnt
  pub read_u2 : Settles read.specs.contracts.read_u2.ended read.proofs.read_u2.Reads.Learnt
  pub read_u4 : Settles read.specs.contracts.read_u4.ended read.proofs.read_u4.Reads.Learnt
  -- names
  pub is_unqualified_name : Settles names.specs.contracts.is_unqualified_name.ended names.proofs.is_unqualified_name.Reads.Learnt
  pub is_unqualified_method_name : Settles names.specs.contracts.is_unqualified_method_name.ended names.proofs.is_unqualified_method_name.Reads.Learnt
  pub is_binary_name : Settles names.specs.contracts.is_binary_name.ended names.proofs.is_binary_name.Reads.Learnt
  pub is_module_name : Settles names.specs.contracts.is_module_name.ended names.proofs.is_module_name.Reads.Learnt
  -- class_names
  pub name_end : Settles class_names.specs.contracts.name_end.ended class_names.proofs.name_end.Reads.Learnt
  pub class_name : Settles class_names.specs.contracts.class_name.ended class_names.proofs.class_name.Reads.Learnt
  pub is_class_name : Settles class_names.specs.contracts.is_class_name.ended class_names.proofs.is_class_name.Reads.Learnt
  -- descriptors
  pub base : Settles descriptors.specs.contracts.FieldDescriptor.base.ended descriptors.proofs.FieldDescriptor.base.Reads.Learnt
  pub void : Settles descriptors.specs.contracts.FieldDescriptor.void.ended descriptors.proofs.FieldDescriptor.void.Reads.Learnt
  pub object : Settles descriptors.specs.contracts.FieldDescriptor.object.ended descriptors.proofs.FieldDescriptor.object.Reads.Learnt
  pub is_base_type : Settles descriptors.specs.contracts.is_base_type.ended descriptors.proofs.is_base_type.Reads.Learnt
  pub field_at : Settles descriptors.specs.contracts.field_at.ended descriptors.proofs.field_at.Reads.Learnt
  pub return_at : Settles descriptors.specs.contracts.return_at.ended descriptors.proofs.return_at.Reads.Learnt
  pub all_used :
      (t : RattleType) (l : Laws t) (c : IsCopy t) (g : Ghosts t.Denot) (d : Dict)
      → Settles (descriptors.specs.contracts.all_used.ended t g d) (descriptors.proofs.all_used.Reads.Learnt t l c g d)
  pub field_prefix : Settles descriptors.specs.contracts.field_prefix.ended descriptors.proofs.field_prefix.Reads.Learnt
  pub field_whole : Settles descriptors.specs.contracts.field_whole.ended descriptors.proofs.field_whole.Reads.Learnt
  pub return_prefix : Settles descriptors.specs.contracts.return_prefix.ended descriptors.proofs.return_prefix.Reads.Learnt
  pub return_whole : Settles descriptors.specs.contracts.return_whole.ended descriptors.proofs.return_whole.Reads.Learnt
  pub begins_with : Settles descriptors.specs.contracts.begins_with.ended descriptors.proofs.begins_with.Reads.Learnt
  pub array_whole : Settles descriptors.specs.contracts.array_whole.ended descriptors.proofs.array_whole.Reads.Learnt
  pub is_field_descriptor : Settles descriptors.specs.contracts.is_field_descriptor.ended descriptors.proofs.is_field_descriptor.Reads.Learnt
  pub is_return_descriptor : Settles descriptors.specs.contracts.is_return_descriptor.ended descriptors.proofs.is_return_descriptor.Reads.Learnt
  pub is_array_descriptor : Settles descriptors.specs.contracts.is_array_descriptor.ended descriptors.proofs.is_array_descriptor.Reads.Learnt
  -- methods
  pub method_prefix : Settles methods.specs.contracts.method_prefix.ended methods.proofs.method_prefix.Reads.Learnt
  pub method_whole : Settles methods.specs.contracts.method_whole.ended methods.proofs.method_whole.Reads.Learnt
  pub method_check : Settles methods.specs.contracts.method_check.ended methods.proofs.method_check.Reads.Learnt
  pub is_method_descriptor : Settles methods.specs.contracts.is_method_descriptor.ended methods.proofs.is_method_descriptor.Reads.Learnt
  -- output
  pub put : Settles output.specs.contracts.put.ended output.proofs.put.Reads.Learnt
  pub put_run : Settles output.specs.contracts.put_run.ended output.proofs.put_run.Reads.Learnt
  -- printing
  pub is_field_part : Settles printing.specs.contracts.is_field_part.ended printing.proofs.is_field_part.Reads.Learnt
  pub is_return_part : Settles printing.specs.contracts.is_return_part.ended printing.proofs.is_return_part.Reads.Learnt
  pub part_length : Settles printing.specs.contracts.part_length.ended printing.proofs.part_length.Reads.Learnt
  pub put_part : Settles printing.specs.contracts.put_part.ended printing.proofs.put_part.Reads.Learnt
  pub check_room : Settles printing.specs.contracts.check_room.ended printing.proofs.check_room.Reads.Learnt
  pub print_field : Settles printing.specs.contracts.print_field.ended printing.proofs.print_field.Reads.Learnt
  pub print_return : Settles printing.specs.contracts.print_return.ended printing.proofs.print_return.Reads.Learnt
  -- method_printing
  pub print_method : Settles method_printing.specs.contracts.print_method.ended method_printing.proofs.print_method.Reads.Learnt
  -- identifier
  pub method_identifier : Settles identifier.specs.contracts.method_identifier.ended identifier.proofs.method_identifier.Reads.Learnt
  -- pool
  pub allows_tag : Settles pool.specs.contracts.allows_tag.ended pool.proofs.allows_tag.Reads.Learnt
  pub pool_entry_at : Settles pool.specs.contracts.entry_at.ended pool.proofs.entry_at.Reads.Learnt
  pub entry_of_kind : Settles pool.specs.contracts.entry_of_kind.ended pool.proofs.entry_of_kind.Reads.Learnt
  -- opcodes
  pub format_of : Settles opcodes.specs.contracts.format_of.ended opcodes.proofs.format_of.Reads.Learnt
  pub wide_form_of : Settles opcodes.specs.contracts.wide_form_of.ended opcodes.proofs.wide_form_of.Reads.Learnt
  pub kind_of : Settles opcodes.specs.contracts.kind_of.ended opcodes.proofs.kind_of.Reads.Learnt
  -- operands
  pub signed_read :
      (t : RattleType) (n : ℕ) (fits : Fits w64 n)
      → Settles (operands.specs.contracts.signed_read.ended t) (operands.proofs.signed_read.Reads.Learnt n fits)
  pub index_read : Settles operands.specs.contracts.index_read.ended operands.proofs.index_read.Reads.Learnt
  pub zero_read : Settles operands.specs.contracts.zero_read.ended operands.proofs.zero_read.Reads.Learnt
  pub array_tag_read : Settles operands.specs.contracts.array_tag_read.ended operands.proofs.array_tag_read.Reads.Learnt
  -- ordinary
  pub with_first : Settles ordinary.specs.contracts.with_first.ended ordinary.proofs.with_first.Reads.Learnt
  pub increment :
      (t : RattleType) (n : ℕ) (fits : Fits w64 n)
      → Settles (ordinary.specs.contracts.increment.ended t) (ordinary.proofs.increment.Reads.Learnt n fits)
  pub indexed_step : Settles ordinary.specs.contracts.indexed_step.ended ordinary.proofs.indexed_step.Reads.Learnt
  pub wide_step : Settles ordinary.specs.contracts.wide_step.ended ordinary.proofs.wide_step.Reads.Learnt
  -- switches
  pub entry_count : Settles switches.specs.contracts.entry_count.ended switches.proofs.entry_count.Reads.Learnt
  pub table_step : Settles switches.specs.contracts.table_step.ended switches.proofs.table_step.Reads.Learnt
  pub lookup_step : Settles switches.specs.contracts.lookup_step.ended switches.proofs.lookup_step.Reads.Learnt
  -- instruction
  pub instruction_at : Settles instruction.specs.contracts.instruction_at.ended instruction.proofs.instruction_at.Reads.Learnt
  -- records
  pub put_record : Settles records.specs.contracts.put_record.ended records.proofs.put_record.Reads.Learnt
  pub record_at : Settles records.specs.contracts.record_at.ended records.proofs.record_at.Reads.Learnt
  pub offset_at : Settles records.specs.contracts.offset_at.ended records.proofs.offset_at.Reads.Learnt
  pub put_entry : Settles records.specs.contracts.put_entry.ended records.proofs.put_entry.Reads.Learnt
  pub records_entry_at : Settles records.specs.contracts.entry_at.ended records.proofs.entry_at.Reads.Learnt
  -- lookup
  pub index_of : Settles lookup.specs.contracts.SortedRecords.index_of.ended lookup.proofs.SortedRecords.index_of.Reads.Learnt
  pub is_offset : Settles lookup.specs.contracts.SortedRecords.is_offset.ended lookup.proofs.SortedRecords.is_offset.Reads.Learnt
  pub find : Settles lookup.specs.contracts.find.ended lookup.proofs.find.Reads.Learnt
  -- jumps
  pub stored_entries : Settles jumps.specs.contracts.stored_entries.ended jumps.proofs.stored_entries.Reads.Learnt
  pub check_jumps : Settles jumps.specs.contracts.check_jumps.ended jumps.proofs.check_jumps.Reads.Learnt
  pub failure : Settles jumps.specs.contracts.FailureFromRefusalCodeOffset.from.ended jumps.proofs.FailureFromRefusalCodeOffset.from.Reads.Learnt
  -- filling
  pub entries_of : Settles filling.specs.contracts.entries_of.ended filling.proofs.entries_of.Reads.Learnt
  pub record_of : Settles filling.specs.contracts.record_of.ended filling.proofs.record_of.Reads.Learnt
  pub put_entries : Settles filling.specs.contracts.put_entries.ended filling.proofs.put_entries.Reads.Learnt
  -- bytecode
  pub decode : Settles bytecode.specs.contracts.decode.ended bytecode.proofs.decode.Reads.Learnt
  -- station
  pub nk_decode : Settles station.specs.contracts.nk_decode.ended station.proofs.nk_decode.Reads.Learnt
  pub nk_lookup : Settles station.specs.contracts.nk_lookup.ended station.proofs.nk_lookup.Reads.Learnt
  pub nk_class_name : Settles station.specs.contracts.nk_class_name.ended station.proofs.nk_class_name.Reads.Learnt
  pub nk_print_field : Settles station.specs.contracts.nk_print_field.ended station.proofs.nk_print_field.Reads.Learnt
  pub nk_print_return : Settles station.specs.contracts.nk_print_return.ended station.proofs.nk_print_return.Reads.Learnt
  pub nk_print_method : Settles station.specs.contracts.nk_print_method.ended station.proofs.nk_print_method.Reads.Learnt
  pub nk_identifier : Settles station.specs.contracts.nk_identifier.ended station.proofs.nk_identifier.Reads.Learnt
  pub nk_field_prefix : Settles station.specs.contracts.nk_field_prefix.ended station.proofs.nk_field_prefix.Reads.Learnt
  pub nk_field_whole : Settles station.specs.contracts.nk_field_whole.ended station.proofs.nk_field_whole.Reads.Learnt
  pub nk_return_prefix : Settles station.specs.contracts.nk_return_prefix.ended station.proofs.nk_return_prefix.Reads.Learnt
  pub nk_return_whole : Settles station.specs.contracts.nk_return_whole.ended station.proofs.nk_return_whole.Reads.Learnt
  pub nk_array : Settles station.specs.contracts.nk_array.ended station.proofs.nk_array.Reads.Learnt
  pub nk_method_prefix : Settles station.specs.contracts.nk_method_prefix.ended station.proofs.nk_method_prefix.Reads.Learnt
  pub nk_method_whole : Settles station.specs.contracts.nk_method_whole.ended station.proofs.nk_method_whole.Reads.Learnt
  pub nk_is_binary_name : Settles station.specs.contracts.nk_is_binary_name.ended station.proofs.nk_is_binary_name.Reads.Learnt
  pub nk_is_unqualified_name : Settles station.specs.contracts.nk_is_unqualified_name.ended station.proofs.nk_is_unqualified_name.Reads.Learnt
  pub nk_is_method_name : Settles station.specs.contracts.nk_is_method_name.ended station.proofs.nk_is_method_name.Reads.Learnt
  pub nk_is_module_name : Settles station.specs.contracts.nk_is_module_name.ended station.proofs.nk_is_module_name.Reads.Learnt
  pub nk_is_field_descriptor : Settles station.specs.contracts.nk_is_field_descriptor.ended station.proofs.nk_is_field_descriptor.Reads.Learnt
  pub nk_is_array_descriptor : Settles station.specs.contracts.nk_is_array_descriptor.ended station.proofs.nk_is_array_descriptor.Reads.Learnt
  pub nk_is_return_descriptor : Settles station.specs.contracts.nk_is_return_descriptor.ended station.proofs.nk_is_return_descriptor.Reads.Learnt
  pub nk_is_method_descriptor : Settles station.specs.contracts.nk_is_method_descriptor.ended station.proofs.nk_is_method_descriptor.Reads.Learnt
  pub answer_of_failure : Settles station.specs.contracts.AnswerFromFailure.from.ended station.proofs.AnswerFromFailure.from.Reads.Learnt
  pub answer_of_refusal : Settles station.specs.contracts.AnswerFromRefusalUsize.from.ended station.proofs.AnswerFromRefusalUsize.from.Reads.Learnt
  pub answer_of_output : Settles station.specs.contracts.AnswerFromOutput.from.ended station.proofs.AnswerFromOutput.from.Reads.Learnt
  pub parts_of_refusal : Settles station.specs.contracts.PartsFromRefusalUsize.from.ended station.proofs.PartsFromRefusalUsize.from.Reads.Learnt
  pub parts_of_field : Settles station.specs.contracts.PartsFromField.from.ended station.proofs.PartsFromField.from.Reads.Learnt
  -- phrases
  pub text : Settles phrases.specs.contracts.Line.text.ended phrases.proofs.Line.text.Reads.Learnt
  pub byte : Settles phrases.specs.contracts.Line.byte.ended phrases.proofs.Line.byte.Reads.Learnt
  pub item : Settles phrases.specs.contracts.Line.item.ended phrases.proofs.Line.item.Reads.Learnt
  pub blanks : Settles phrases.specs.contracts.Line.blanks.ended phrases.proofs.Line.blanks.Reads.Learnt
  pub decimal : Settles phrases.specs.contracts.Line.decimal.ended phrases.proofs.Line.decimal.Reads.Learnt
  pub signed : Settles phrases.specs.contracts.Line.signed.ended phrases.proofs.Line.signed.Reads.Learnt
  pub decimal_right : Settles phrases.specs.contracts.Line.decimal_right.ended phrases.proofs.Line.decimal_right.Reads.Learnt
  pub signed_right : Settles phrases.specs.contracts.Line.signed_right.ended phrases.proofs.Line.signed_right.Reads.Learnt
  -- mnemonics
  pub put_kind : Settles mnemonics.specs.contracts.put_kind.ended mnemonics.proofs.put_kind.Reads.Learnt
  pub put_mnemonic : Settles mnemonics.specs.contracts.put_mnemonic.ended mnemonics.proofs.put_mnemonic.Reads.Learnt
  -- wording
  pub put_counted : Settles wording.specs.contracts.put_counted.ended wording.proofs.put_counted.Reads.Learnt
  pub put_target : Settles wording.specs.contracts.put_target.ended wording.proofs.put_target.Reads.Learnt
  pub put_operands : Settles wording.specs.contracts.put_operands.ended wording.proofs.put_operands.Reads.Learnt
  pub has_operands : Settles wording.specs.contracts.has_operands.ended wording.proofs.has_operands.Reads.Learnt
  -- listing
  pub instruction_line : Settles listing.specs.contracts.instruction_line.ended listing.proofs.instruction_line.Reads.Learnt
  pub entry_line : Settles listing.specs.contracts.entry_line.ended listing.proofs.entry_line.Reads.Learnt
  pub accepted_line : Settles listing.specs.contracts.accepted_line.ended listing.proofs.accepted_line.Reads.Learnt
  pub refused_line : Settles listing.specs.contracts.refused_line.ended listing.proofs.refused_line.Reads.Learnt
  pub sum_line : Settles listing.specs.contracts.sum_line.ended listing.proofs.sum_line.Reads.Learnt
  pub shown : Settles listing.specs.contracts.shown.ended listing.proofs.shown.Reads.Learnt
  -- bundle
  pub next_method : Settles bundle.specs.contracts.next_method.ended bundle.proofs.next_method.Reads.Learnt
  pub cut_short : Settles bundle.specs.contracts.CutShortFromRefusalCodeOffset.from.ended bundle.proofs.CutShortFromRefusalCodeOffset.from.Reads.Learnt

-- The contract settles what is seen of the result: any two outcomes that it allows look the same
abbrev pub SettlesSeen : (f : Ended) {V : Type 0} → ((κs : Lfts f.signature.lifetimes) → Res f.signature κs → V) → Contract f → Type 0
SettlesSeen f seen Learnt =
    (κs : Lfts f.signature.lifetimes) (a : Args f.signature κs) (o p : Res f.signature κs × Lasts f κs a)
    → Learnt κs a o.0 (at_exit f κs a o.1) → Learnt κs a p.0 (at_exit f κs a p.1) → seen κs o.0 ≡ seen κs p.0

-- What makes a value that holds a borrow: seen are the bytes or words that it holds, not their address. Proved as
-- `seen_settled`
pub record SeenSettled : Type 0 where
  pub text :
      SettlesSeen texts.specs.contracts.Text.new.ended {V = Result (List ℕ) (Refusal ℕ)} (λ κs r. elim r [ Ok t ↦ Ok t.bytes.now | Err e ↦ Err e ])
      texts.proofs.Text.new.Reads.Learnt
  pub sorted_records :
      SettlesSeen lookup.specs.contracts.SortedRecords.new.ended {V = Result (List ℕ × ℕ) (Refusal CodeOffset)} (λ κs r. elim r [ Ok s ↦ Ok (s.records.now, s.count) | Err e ↦ Err e ])
      lookup.proofs.SortedRecords.new.Reads.Learnt
