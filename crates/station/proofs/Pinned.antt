-- The contracts of this library settle what each function does: its answer, and the last contents of what is lent. The
-- statement stands here, since specs/ may not name what the checker makes of src/.
use Rattle.laws.specs.Pinned.{Settles}
use Rattle.laws.proofs.Pinned.{result, result_lent, result_lent_lent}
use Rattle.station.specs.contracts
use Rattle.station.proofs as station

pub record StationSettled : Type 0 where
  pub nk_decode : Settles contracts.nk_decode.ended station.nk_decode.Reads.Learnt
  pub nk_lookup : Settles contracts.nk_lookup.ended station.nk_lookup.Reads.Learnt
  pub nk_class_name : Settles contracts.nk_class_name.ended station.nk_class_name.Reads.Learnt
  pub nk_print_field : Settles contracts.nk_print_field.ended station.nk_print_field.Reads.Learnt
  pub nk_print_return : Settles contracts.nk_print_return.ended station.nk_print_return.Reads.Learnt
  pub nk_print_method : Settles contracts.nk_print_method.ended station.nk_print_method.Reads.Learnt
  pub nk_identifier : Settles contracts.nk_identifier.ended station.nk_identifier.Reads.Learnt
  pub nk_field_prefix : Settles contracts.nk_field_prefix.ended station.nk_field_prefix.Reads.Learnt
  pub nk_field_whole : Settles contracts.nk_field_whole.ended station.nk_field_whole.Reads.Learnt
  pub nk_return_prefix : Settles contracts.nk_return_prefix.ended station.nk_return_prefix.Reads.Learnt
  pub nk_return_whole : Settles contracts.nk_return_whole.ended station.nk_return_whole.Reads.Learnt
  pub nk_array : Settles contracts.nk_array.ended station.nk_array.Reads.Learnt
  pub nk_method_prefix : Settles contracts.nk_method_prefix.ended station.nk_method_prefix.Reads.Learnt
  pub nk_method_whole : Settles contracts.nk_method_whole.ended station.nk_method_whole.Reads.Learnt
  pub nk_is_binary_name : Settles contracts.nk_is_binary_name.ended station.nk_is_binary_name.Reads.Learnt
  pub nk_is_unqualified_name : Settles contracts.nk_is_unqualified_name.ended station.nk_is_unqualified_name.Reads.Learnt
  pub nk_is_method_name : Settles contracts.nk_is_method_name.ended station.nk_is_method_name.Reads.Learnt
  pub nk_is_module_name : Settles contracts.nk_is_module_name.ended station.nk_is_module_name.Reads.Learnt
  pub nk_is_field_descriptor : Settles contracts.nk_is_field_descriptor.ended station.nk_is_field_descriptor.Reads.Learnt
  pub nk_is_array_descriptor : Settles contracts.nk_is_array_descriptor.ended station.nk_is_array_descriptor.Reads.Learnt
  pub nk_is_return_descriptor : Settles contracts.nk_is_return_descriptor.ended station.nk_is_return_descriptor.Reads.Learnt
  pub nk_is_method_descriptor : Settles contracts.nk_is_method_descriptor.ended station.nk_is_method_descriptor.Reads.Learnt

pub station_settled : StationSettled
station_settled =
    record {
      nk_decode = λ κs a. result_lent_lent 2 0;
      nk_lookup = λ κs a. result 3;
      nk_class_name = λ κs a. result 1;
      nk_print_field = λ κs a. result_lent 5 0;
      nk_print_return = λ κs a. result_lent 5 0;
      nk_print_method = λ κs a. result_lent 7 0;
      nk_identifier = λ κs a. result_lent 2 0;
      nk_field_prefix = λ κs a. result 1;
      nk_field_whole = λ κs a. result 1;
      nk_return_prefix = λ κs a. result 1;
      nk_return_whole = λ κs a. result 1;
      nk_array = λ κs a. result 1;
      nk_method_prefix = λ κs a. result_lent 1 0;
      nk_method_whole = λ κs a. result_lent 1 0;
      nk_is_binary_name = λ κs a. result 1;
      nk_is_unqualified_name = λ κs a. result 1;
      nk_is_method_name = λ κs a. result 3;
      nk_is_module_name = λ κs a. result 1;
      nk_is_field_descriptor = λ κs a. result 1;
      nk_is_array_descriptor = λ κs a. result 1;
      nk_is_return_descriptor = λ κs a. result 1;
      nk_is_method_descriptor = λ κs a. result 1;
    }
