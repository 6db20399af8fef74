use mathlib.Core.Path.{refl}
use Rattle.laws.specs.Bytes.{begins_with, same_text}
use Rattle.class_names.specs.Names.{name_from}
use Rattle.descriptors.specs.Texts.{object_of, type_from, field_from, return_from, whole, field_prefix, return_prefix, array_of, array_text}
use Rattle.descriptors.specs.Examples.{FieldsCompute, DimensionsCompute, PrefixesCompute, ReturnsCompute, ReturnPrefixesCompute, ArraysCompute}

pub fields_compute : FieldsCompute
unfolding same_text name_from object_of type_from field_from return_from whole field_prefix return_prefix begins_with array_of array_text
fields_compute = refl

pub dimensions_compute : DimensionsCompute
unfolding same_text name_from object_of type_from field_from return_from whole field_prefix return_prefix begins_with array_of array_text
dimensions_compute = refl

pub prefixes_compute : PrefixesCompute
unfolding same_text name_from object_of type_from field_from return_from whole field_prefix return_prefix begins_with array_of array_text
prefixes_compute = refl

pub returns_compute : ReturnsCompute
unfolding same_text name_from object_of type_from field_from return_from whole field_prefix return_prefix begins_with array_of array_text
returns_compute = refl

pub return_prefixes_compute : ReturnPrefixesCompute
unfolding same_text name_from object_of type_from field_from return_from whole field_prefix return_prefix begins_with array_of array_text
return_prefixes_compute = refl

pub arrays_compute : ArraysCompute
unfolding same_text name_from object_of type_from field_from return_from whole field_prefix return_prefix begins_with array_of array_text
arrays_compute = refl
