use mathlib.Core.Path.{refl}
use Rattle.laws.specs.Bytes.{begins_with, same_text}
use Rattle.class_names.specs.Names.{name_from, alone_of, class_name}
use Rattle.descriptors.specs.Texts.{object_of, type_from, field_from, return_from, whole, field_prefix}
use Rattle.methods.specs.Texts.{next_from, rest_from, opening, method_reading, within, answer_from, store_from, store_after}
use Rattle.methods.specs.Examples.{MethodsCompute, MethodPrefixesCompute, StoresCompute, SettledTexts}

pub methods_compute : MethodsCompute
unfolding same_text begins_with name_from alone_of class_name object_of type_from field_from return_from field_prefix next_from rest_from opening method_reading within answer_from store_from whole store_after
methods_compute = refl

pub method_prefixes_compute : MethodPrefixesCompute
unfolding same_text begins_with name_from alone_of class_name object_of type_from field_from return_from field_prefix next_from rest_from opening method_reading within answer_from store_from whole store_after
method_prefixes_compute = refl

pub stores_compute : StoresCompute
unfolding same_text begins_with name_from alone_of class_name object_of type_from field_from return_from field_prefix next_from rest_from opening method_reading within answer_from store_from whole store_after
stores_compute = refl

pub settled_texts : SettledTexts
unfolding same_text begins_with name_from alone_of class_name object_of type_from field_from return_from field_prefix next_from rest_from opening method_reading within answer_from store_from whole store_after
settled_texts = refl
