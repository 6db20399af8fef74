-- The tags of constant pool entries, JVMS 4.4, and the kinds that an instruction may name, JVMS 6.5.
use Rattle.std.specs.Prelude.{ℕ, Bool, List, [], ◌∷◌}
use Rattle.laws.specs.Bytes.{one_of}
use Rattle.pool.specs.declared.Kinds.{Kinds}
use Rattle.pool.specs.declared.Kinds.TheVariants as kinds

-- JVMS 4.4, the tags of the entries that instructions name
abbrev pub integer : ℕ
integer = 3

abbrev pub float : ℕ
float = 4

abbrev pub long : ℕ
long = 5

abbrev pub double : ℕ
double = 6

abbrev pub class : ℕ
class = 7

abbrev pub string : ℕ
string = 8

abbrev pub fieldref : ℕ
fieldref = 9

abbrev pub methodref : ℕ
methodref = 10

abbrev pub interface_methodref : ℕ
interface_methodref = 11

abbrev pub method_handle : ℕ
method_handle = 15

abbrev pub method_type : ℕ
method_type = 16

abbrev pub dynamic : ℕ
dynamic = 17

abbrev pub invoke_dynamic : ℕ
invoke_dynamic = 18

-- JVMS 6.5, by instruction; the ldc instructions are not split by width, as in the crate cafebabe
abbrev pub tags_of : Kinds → List ℕ
-- ldc, ldc_w, ldc2_w: JVMS 4.4's loadable entries
tags_of kinds.Loadable = integer ∷ float ∷ long ∷ double ∷ class ∷ string ∷ method_handle ∷ method_type ∷ dynamic ∷ []
-- getstatic, putstatic, getfield, putfield
tags_of kinds.Field = fieldref ∷ []
-- invokevirtual
tags_of kinds.Method = methodref ∷ []
-- invokespecial, invokestatic
tags_of kinds.MethodOrInterfaceMethod = methodref ∷ interface_methodref ∷ []
-- invokeinterface
tags_of kinds.InterfaceMethod = interface_methodref ∷ []
-- invokedynamic
tags_of kinds.InvokeDynamic = invoke_dynamic ∷ []
-- new, anewarray, checkcast, instanceof, multianewarray
tags_of kinds.Class = class ∷ []

abbrev pub allows_tag : Kinds → ℕ → Bool
allows_tag k tag = one_of (tags_of k) tag
