use mathlib.Core.Path.{refl}
use Rattle.laws.specs.Bytes.{every}
use Rattle.class_names.specs.Names.{name_from, is_named_by}
use Rattle.methods.specs.Theorems.{all_words}
use Rattle.output.specs.Output.{writing, output_after}
use Rattle.printing.specs.Printing.{type_bytes, is_type_part, printing}
use Rattle.method_printing.specs.Printing.{all_bytes, parts_in}
use Rattle.method_printing.specs.Examples.{MethodsPrint, ParametersPrint, MethodOutputsCompute, MethodLimitComputes}

pub methods_print : MethodsPrint
unfolding every name_from is_named_by all_words writing output_after type_bytes is_type_part printing all_bytes parts_in
methods_print = refl

pub parameters_print : ParametersPrint
unfolding every name_from is_named_by all_words writing output_after type_bytes is_type_part printing all_bytes parts_in
parameters_print = refl

pub method_outputs_compute : MethodOutputsCompute
unfolding every name_from is_named_by all_words writing output_after type_bytes is_type_part printing all_bytes parts_in
method_outputs_compute = refl

pub method_limit_computes : MethodLimitComputes
unfolding every name_from is_named_by all_words writing output_after type_bytes is_type_part printing all_bytes parts_in
method_limit_computes = refl
