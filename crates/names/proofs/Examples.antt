use mathlib.Core.Path.{refl}
use Rattle.laws.specs.Bytes.{every, same_text}
use Rattle.names.specs.Names.{name_text, is_unqualified_name, is_method_name, before, segments, is_binary_name, module_rest, is_module_name}
use Rattle.names.specs.Examples.{UnqualifiedNamesCompute, MethodNamesCompute, BinaryNamesCompute, ModuleNamesCompute, LimitComputes}

pub unqualified_names_compute : UnqualifiedNamesCompute
unfolding every name_text is_unqualified_name
unqualified_names_compute = refl

pub method_names_compute : MethodNamesCompute
unfolding every same_text name_text is_method_name
method_names_compute = refl

pub binary_names_compute : BinaryNamesCompute
unfolding every name_text before segments is_binary_name
binary_names_compute = refl

pub module_names_compute : ModuleNamesCompute
unfolding module_rest is_module_name
module_names_compute = refl

pub limit_computes : LimitComputes
unfolding every name_text is_unqualified_name
limit_computes = refl
