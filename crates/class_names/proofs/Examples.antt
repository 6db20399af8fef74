use mathlib.Core.Path.{refl}
use Rattle.class_names.specs.Names.{name_from, alone_of, class_name, is_named_by}
use Rattle.class_names.specs.Examples.{ClassNamesCompute, NamesBeforeSemicolonCompute}

pub class_names_compute : ClassNamesCompute
unfolding name_from alone_of class_name
class_names_compute = refl

pub names_before_semicolon_compute : NamesBeforeSemicolonCompute
unfolding name_from is_named_by
names_before_semicolon_compute = refl
