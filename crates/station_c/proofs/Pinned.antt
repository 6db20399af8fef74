-- The contract of each exported function settles what it does, and asks nothing of its caller. The statements stand here,
-- since specs/ may not name what the checker makes of src/.
use Rattle.laws.specs.Pinned.{Settles, AsksNothing}
use Rattle.laws.proofs.Pinned.{result, result_lent, result_lent_lent}
use Rattle.station_c.specs.contracts
use Rattle.station_c.proofs as station_c

pub record ExportsSettled : Type 0 where
  pub nk_decode : Settles contracts.nk_decode.ended station_c.nk_decode.Reads.Learnt
  pub nk_lookup : Settles contracts.nk_lookup.ended station_c.nk_lookup.Reads.Learnt
  pub nk_class_name : Settles contracts.nk_class_name.ended station_c.nk_class_name.Reads.Learnt
  pub nk_print_field : Settles contracts.nk_print_field.ended station_c.nk_print_field.Reads.Learnt
  pub nk_print_return : Settles contracts.nk_print_return.ended station_c.nk_print_return.Reads.Learnt
  pub nk_print_method : Settles contracts.nk_print_method.ended station_c.nk_print_method.Reads.Learnt
  pub nk_identifier : Settles contracts.nk_identifier.ended station_c.nk_identifier.Reads.Learnt
  pub nk_field_prefix : Settles contracts.nk_field_prefix.ended station_c.nk_field_prefix.Reads.Learnt
  pub nk_field_whole : Settles contracts.nk_field_whole.ended station_c.nk_field_whole.Reads.Learnt
  pub nk_return_prefix : Settles contracts.nk_return_prefix.ended station_c.nk_return_prefix.Reads.Learnt
  pub nk_return_whole : Settles contracts.nk_return_whole.ended station_c.nk_return_whole.Reads.Learnt
  pub nk_array : Settles contracts.nk_array.ended station_c.nk_array.Reads.Learnt
  pub nk_method_prefix : Settles contracts.nk_method_prefix.ended station_c.nk_method_prefix.Reads.Learnt
  pub nk_method_whole : Settles contracts.nk_method_whole.ended station_c.nk_method_whole.Reads.Learnt
  pub nk_is_binary_name : Settles contracts.nk_is_binary_name.ended station_c.nk_is_binary_name.Reads.Learnt
  pub nk_is_unqualified_name : Settles contracts.nk_is_unqualified_name.ended station_c.nk_is_unqualified_name.Reads.Learnt
  pub nk_is_method_name : Settles contracts.nk_is_method_name.ended station_c.nk_is_method_name.Reads.Learnt
  pub nk_is_module_name : Settles contracts.nk_is_module_name.ended station_c.nk_is_module_name.Reads.Learnt
  pub nk_is_field_descriptor : Settles contracts.nk_is_field_descriptor.ended station_c.nk_is_field_descriptor.Reads.Learnt
  pub nk_is_array_descriptor : Settles contracts.nk_is_array_descriptor.ended station_c.nk_is_array_descriptor.Reads.Learnt
  pub nk_is_return_descriptor : Settles contracts.nk_is_return_descriptor.ended station_c.nk_is_return_descriptor.Reads.Learnt
  pub nk_is_method_descriptor : Settles contracts.nk_is_method_descriptor.ended station_c.nk_is_method_descriptor.Reads.Learnt

pub exports_settled : ExportsSettled
exports_settled =
    record {
      nk_decode = λ κs a. result_lent_lent 2 0;
      nk_lookup = λ κs a. result 3;
      nk_class_name = λ κs a. result 1;
      nk_print_field = λ κs a. result_lent 5 0;
      nk_print_return = λ κs a. result_lent 5 0;
      nk_print_method = λ κs a. result_lent 7 0;
      nk_identifier = λ κs a. result_lent 2 0;
      nk_field_prefix = λ κs a. result 1;
      nk_field_whole = λ κs a. result 1;
      nk_return_prefix = λ κs a. result 1;
      nk_return_whole = λ κs a. result 1;
      nk_array = λ κs a. result 1;
      nk_method_prefix = λ κs a. result_lent 1 0;
      nk_method_whole = λ κs a. result_lent 1 0;
      nk_is_binary_name = λ κs a. result 1;
      nk_is_unqualified_name = λ κs a. result 1;
      nk_is_method_name = λ κs a. result 3;
      nk_is_module_name = λ κs a. result 1;
      nk_is_field_descriptor = λ κs a. result 1;
      nk_is_array_descriptor = λ κs a. result 1;
      nk_is_return_descriptor = λ κs a. result 1;
      nk_is_method_descriptor = λ κs a. result 1;
    }

pub record ExportsAskNothing : Type 0 where
  pub nk_decode : AsksNothing contracts.nk_decode.ended station_c.nk_decode.Reads.Asked
  pub nk_lookup : AsksNothing contracts.nk_lookup.ended station_c.nk_lookup.Reads.Asked
  pub nk_class_name : AsksNothing contracts.nk_class_name.ended station_c.nk_class_name.Reads.Asked
  pub nk_print_field : AsksNothing contracts.nk_print_field.ended station_c.nk_print_field.Reads.Asked
  pub nk_print_return : AsksNothing contracts.nk_print_return.ended station_c.nk_print_return.Reads.Asked
  pub nk_print_method : AsksNothing contracts.nk_print_method.ended station_c.nk_print_method.Reads.Asked
  pub nk_identifier : AsksNothing contracts.nk_identifier.ended station_c.nk_identifier.Reads.Asked
  pub nk_field_prefix : AsksNothing contracts.nk_field_prefix.ended station_c.nk_field_prefix.Reads.Asked
  pub nk_field_whole : AsksNothing contracts.nk_field_whole.ended station_c.nk_field_whole.Reads.Asked
  pub nk_return_prefix : AsksNothing contracts.nk_return_prefix.ended station_c.nk_return_prefix.Reads.Asked
  pub nk_return_whole : AsksNothing contracts.nk_return_whole.ended station_c.nk_return_whole.Reads.Asked
  pub nk_array : AsksNothing contracts.nk_array.ended station_c.nk_array.Reads.Asked
  pub nk_method_prefix : AsksNothing contracts.nk_method_prefix.ended station_c.nk_method_prefix.Reads.Asked
  pub nk_method_whole : AsksNothing contracts.nk_method_whole.ended station_c.nk_method_whole.Reads.Asked
  pub nk_is_binary_name : AsksNothing contracts.nk_is_binary_name.ended station_c.nk_is_binary_name.Reads.Asked
  pub nk_is_unqualified_name : AsksNothing contracts.nk_is_unqualified_name.ended station_c.nk_is_unqualified_name.Reads.Asked
  pub nk_is_method_name : AsksNothing contracts.nk_is_method_name.ended station_c.nk_is_method_name.Reads.Asked
  pub nk_is_module_name : AsksNothing contracts.nk_is_module_name.ended station_c.nk_is_module_name.Reads.Asked
  pub nk_is_field_descriptor : AsksNothing contracts.nk_is_field_descriptor.ended station_c.nk_is_field_descriptor.Reads.Asked
  pub nk_is_array_descriptor : AsksNothing contracts.nk_is_array_descriptor.ended station_c.nk_is_array_descriptor.Reads.Asked
  pub nk_is_return_descriptor : AsksNothing contracts.nk_is_return_descriptor.ended station_c.nk_is_return_descriptor.Reads.Asked
  pub nk_is_method_descriptor : AsksNothing contracts.nk_is_method_descriptor.ended station_c.nk_is_method_descriptor.Reads.Asked

pub exports_ask_nothing : ExportsAskNothing
exports_ask_nothing =
    record {
      nk_decode = λ κs a. tt;
      nk_lookup = λ κs a. tt;
      nk_class_name = λ κs a. tt;
      nk_print_field = λ κs a. tt;
      nk_print_return = λ κs a. tt;
      nk_print_method = λ κs a. tt;
      nk_identifier = λ κs a. tt;
      nk_field_prefix = λ κs a. tt;
      nk_field_whole = λ κs a. tt;
      nk_return_prefix = λ κs a. tt;
      nk_return_whole = λ κs a. tt;
      nk_array = λ κs a. tt;
      nk_method_prefix = λ κs a. tt;
      nk_method_whole = λ κs a. tt;
      nk_is_binary_name = λ κs a. tt;
      nk_is_unqualified_name = λ κs a. tt;
      nk_is_method_name = λ κs a. tt;
      nk_is_module_name = λ κs a. tt;
      nk_is_field_descriptor = λ κs a. tt;
      nk_is_array_descriptor = λ κs a. tt;
      nk_is_return_descriptor = λ κs a. tt;
      nk_is_method_descriptor = λ κs a. tt;
    }
