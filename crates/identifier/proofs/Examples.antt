use mathlib.Core.Path.{refl}
use Rattle.laws.specs.Bytes.{begins_with, every, same_text}
use Rattle.names.specs.Names.{name_text, is_method_name}
use Rattle.class_names.specs.Names.{name_from}
use Rattle.descriptors.specs.Texts.{object_of, type_from, field_from, return_from, whole}
use Rattle.methods.specs.Texts.{next_from, rest_from, opening, method_reading, answer_from}
use Rattle.output.specs.Output.{writing, output_after}
use Rattle.identifier.specs.Identifier.{identifier_bytes, unless_refused, check_method, identifying}
use Rattle.identifier.specs.Examples.{IdentifiersCompute, IdentifierOutputsCompute, IdentifierLimitsCompute}

pub identifiers_compute : IdentifiersCompute
unfolding begins_with every same_text name_text is_method_name name_from object_of type_from field_from return_from next_from rest_from opening method_reading answer_from whole writing output_after identifier_bytes unless_refused check_method identifying
identifiers_compute = refl

pub identifier_outputs_compute : IdentifierOutputsCompute
unfolding begins_with every same_text name_text is_method_name name_from object_of type_from field_from return_from next_from rest_from opening method_reading answer_from whole writing output_after identifier_bytes unless_refused check_method identifying
identifier_outputs_compute = refl

pub identifier_limits_compute : IdentifierLimitsCompute
unfolding begins_with every same_text name_text is_method_name name_from object_of type_from field_from return_from next_from rest_from opening method_reading answer_from whole writing output_after identifier_bytes unless_refused check_method identifying
identifier_limits_compute = refl
