-- The names of numbers.
use Rattle.std.specs.Prelude.{ℕ, List, [], ◌∷◌, map, get_or}
use Prim.Native.String.{String}
use Rattle.laws.specs.Bytes.{ascii}

-- a text, or another where it is empty
unfoldable pub or_else : List ℕ → List ℕ → List ℕ
or_else [] other = other
or_else (b ∷ text) other = b ∷ text

-- the kinds of pool entries by their tags, 0 to 20
unfoldable pub kind_names : List String
kind_names =
    "" ∷ "Utf8" ∷ "" ∷ "Integer" ∷ "Float" ∷ "Long" ∷ "Double" ∷ "Class" ∷ "String" ∷ "Fieldref" ∷ "Methodref"
    ∷ "InterfaceMethodref" ∷ "NameAndType" ∷ "" ∷ "" ∷ "MethodHandle" ∷ "MethodType" ∷ "Dynamic" ∷ "InvokeDynamic"
    ∷ "Module" ∷ "Package" ∷ []

-- the elements of newarray's arrays by their tags, 4 to 11
unfoldable pub array_types : List String
array_types = "" ∷ "" ∷ "" ∷ "" ∷ "boolean" ∷ "char" ∷ "float" ∷ "double" ∷ "byte" ∷ "short" ∷ "int" ∷ "long" ∷ []

unfoldable pub kind_name : ℕ → List ℕ
kind_name tag = get_or (map ascii kind_names) tag []

unfoldable pub array_type : ℕ → List ℕ
array_type tag = get_or (map ascii array_types) tag []
