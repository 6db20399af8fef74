-- The grammar of method descriptors, JVMS 4.3.3, one constructor for a production, written apart from any reader.
use Rattle.std.specs.Prelude.{ℕ, suc, ◌+◌, ◌≤◌, List, [], ◌∷◌, ◌++◌, ◌≡◌, length}
use Rattle.laws.specs.Bytes.{byte}
use Rattle.descriptors.specs.declared.FieldDescriptor.{FieldDescriptor}
use Rattle.descriptors.specs.Texts.{max_dimensions, void as void_parts}
use Rattle.descriptors.specs.Grammar.{FieldType, ReturnDescriptor, dimensions, parts_at}
use Rattle.methods.specs.Texts.{Reading}

-- {ParameterDescriptor}: FieldTypes one after the other
pub data Parameters : List ℕ → Type 0 where
  none : Parameters []
  more : {s : List ℕ} (p rest : List ℕ) → FieldType p → Parameters rest → s ≡ p ++ rest → Parameters s

-- MethodDescriptor: ( {ParameterDescriptor} ) ReturnDescriptor
pub data MethodDescriptor (s : List ℕ) : Type 0 where
  method : (p r : List ℕ) → Parameters p → ReturnDescriptor r → s ≡ byte "(" ∷ p ++ byte ")" ∷ r → MethodDescriptor s

-- each parameter has at most 255 dimensions
abbrev pub FewDimensions : {s : List ℕ} → Parameters s → Type 0
FewDimensions Parameters.none = Unit {0}
FewDimensions (Parameters.more p rest t ts e) = (dimensions t ≤ max_dimensions) × FewDimensions ts

-- how many parameters there are
unfoldable pub number : {s : List ℕ} → Parameters s → ℕ
number Parameters.none = 0
number (Parameters.more p rest t ts e) = suc (number ts)

-- the parts of parameters whose text starts at `at`, and then what follows them
unfoldable pub reading_at : ℕ → {s : List ℕ} → Parameters s → Reading → Reading
reading_at at Parameters.none follows = follows
reading_at at (Parameters.more p rest t ts e) follows = Reading.parameter at (parts_at 0 at t) (reading_at (at + length p) ts follows)

-- the parts of a return descriptor whose text starts at `at`
unfoldable pub return_at : ℕ → {s : List ℕ} → ReturnDescriptor s → FieldDescriptor
return_at at (ReturnDescriptor.value t) = parts_at 0 at t
return_at at (ReturnDescriptor.void e) = void_parts

abbrev pub FewInReturn : {s : List ℕ} → ReturnDescriptor s → Type 0
FewInReturn (ReturnDescriptor.value t) = dimensions t ≤ max_dimensions
FewInReturn (ReturnDescriptor.void e) = Unit {0}

-- of a whole descriptor: how many parameters there are, the parts of each and of the return, and the limit of dimensions
unfoldable pub parameter_count : {s : List ℕ} → MethodDescriptor s → ℕ
parameter_count (MethodDescriptor.method p r ps t e) = number ps

unfoldable pub list_at : ℕ → {s : List ℕ} → Parameters s → List FieldDescriptor
list_at at Parameters.none = []
list_at at (Parameters.more p rest t ts e) = parts_at 0 at t ∷ list_at (at + length p) ts

unfoldable pub parameter_parts : {s : List ℕ} → MethodDescriptor s → List FieldDescriptor
parameter_parts (MethodDescriptor.method p r ps t e) = list_at 1 ps

unfoldable pub return_parts : {s : List ℕ} → MethodDescriptor s → FieldDescriptor
return_parts (MethodDescriptor.method p r ps t e) = return_at (1 + length p + 1) t

abbrev pub FewInMethod : {s : List ℕ} → MethodDescriptor s → Type 0
FewInMethod (MethodDescriptor.method p r ps t e) = FewDimensions ps × FewInReturn t
