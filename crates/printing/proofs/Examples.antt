use mathlib.Core.Path.{refl}
use Rattle.class_names.specs.Names.{name_from, is_named_by}
use Rattle.output.specs.Output.{writing, output_after}
use Rattle.printing.specs.Printing.{type_bytes, is_type_part, printing}
use Rattle.printing.specs.Examples.{FieldsPrint, ReturnsPrint, OutputsCompute, ReturnOutputsCompute, LimitsCompute}

pub fields_print : FieldsPrint
unfolding name_from is_named_by writing output_after type_bytes is_type_part printing
fields_print = refl

pub returns_print : ReturnsPrint
unfolding name_from is_named_by writing output_after type_bytes is_type_part printing
returns_print = refl

pub outputs_compute : OutputsCompute
unfolding name_from is_named_by writing output_after type_bytes is_type_part printing
outputs_compute = refl

pub return_outputs_compute : ReturnOutputsCompute
unfolding name_from is_named_by writing output_after type_bytes is_type_part printing
return_outputs_compute = refl

pub limits_compute : LimitsCompute
unfolding name_from is_named_by writing output_after type_bytes is_type_part printing
limits_compute = refl
