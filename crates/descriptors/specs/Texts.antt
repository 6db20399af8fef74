-- The readings of document 01, "Texts": field, return and array descriptors, with the reasons and places
-- of their refusals. In each, `at` is the place in the whole text of the first byte of what is left.
-- specs/Grammar.antt has the grammar of JVMS 4.3.2 itself, and specs/Theorems.antt says that the two agree.
use Rattle.std.specs.Prelude.{ℕ, ◌+◌, ◌-◌, Bool, true, false, ◌&&◌, List, [], ◌∷◌, eqb, ltb, length, Option, Some, None, Result, Ok, Err, is_ok}
use Rattle.refusals.specs.declared.Reason.TheVariants as reason
use Rattle.refusals.specs.declared.Refusal.{Refusal}
use Rattle.refusals.specs.Numbers.{refused}
use Rattle.laws.specs.Bytes.{byte, ascii, begins_with, one_of, same_text, within_limit}
use Rattle.descriptors.specs.declared.FieldDescriptor.{FieldDescriptor}
use Rattle.class_names.specs.declared.NameEnd.{NameEnd}
use Rattle.class_names.specs.declared.NameEnd.TheVariants as name_end
use Rattle.class_names.specs.Names.{name_from}

-- What a reading finds: what was read with the place after it, or a refusal.
abbrev pub Parsed : Type 0 → Type 0
Parsed T = Result (T × ℕ) (Refusal ℕ)

abbrev pub Field : Type 0
Field = Parsed FieldDescriptor

-- Document 01: the limit of 255 dimensions, which JVMS 4.4.1 and 4.11 set too. In the code:
-- `FieldDescriptor::MAX_DIMENSIONS`.
abbrev pub max_dimensions : ℕ
max_dimensions = 255

-- The parts of a descriptor: dimensions, letter, and the range of the class name in the text.
abbrev pub base : ℕ → ℕ → FieldDescriptor
base d letter = record { dimensions = d; letter = letter; start = 0; length = 0 }

abbrev pub object : ℕ → ℕ → ℕ → FieldDescriptor
object d start n = record { dimensions = d; letter = byte "L"; start = start; length = n }

abbrev pub void : FieldDescriptor
void = base 0 (byte "V")

-- The letters of JVMS 4.3.2's BaseType.
abbrev pub is_base_type : ℕ → Bool
is_base_type b = one_of (ascii "BCDFIJSZ") b

-- An object type after its L: a ; ends the name. 27: the text ends before
unfoldable pub object_of : ℕ → ℕ → Result NameEnd (Refusal ℕ) → Field
object_of d start (Ok (name_end.Semicolon e)) = Ok (object d start (e - start), e + 1)
object_of d start (Ok (name_end.TextEnd e)) = Err (refused reason.NameNotEnded e)
object_of d start (Err r) = Err r

abbrev pub object_from : ℕ → ℕ → List ℕ → Field
object_from d at s = object_of d at (name_from false at s)

-- The type that the letter b at `at` begins, under d dimensions. 23: no such letter
unfoldable pub type_from : ℕ → ℕ → ℕ → List ℕ → Field
type_from d at b s =
    elim (eqb b (byte "L")) [
      | true ↦ object_from d (at + 1) s
      | false ↦ elim (is_base_type b) [ true ↦ Ok (base d b, at + 1) | false ↦ Err (refused reason.NoSuchType at) ]
    ]

-- A field descriptor of which d dimensions have passed; what follows it is ignored.
-- 22: the text ends where a type is due. 24: the 256th [
unfoldable pub field_from : ℕ → ℕ → List ℕ → Field
field_from d at [] = Err (refused reason.TypeDue at)
field_from d at (b ∷ s) =
    elim (eqb b (byte "[")) [
      | true ↦ elim (eqb d max_dimensions) [ true ↦ Err (refused reason.Dimension256 at) | false ↦ field_from (d + 1) (at + 1) s ]
      | false ↦ type_from d at b s
    ]

-- A return descriptor: V as the entire rest of the text, or a field descriptor
abbrev pub is_void : List ℕ → Bool
is_void s = same_text s (ascii "V")

unfoldable pub return_from : ℕ → List ℕ → Field
return_from at s = elim (is_void s) [ true ↦ Ok (void, at + 1) | false ↦ field_from 0 at s ]

-- A reading that must use all of a text of n bytes. 31: bytes left over
unfoldable pub whole : {T : Type 0} → ℕ → Parsed T → Parsed T
whole n (Ok r) = elim (ltb r.1 n) [ true ↦ Err (refused reason.LeftOver r.1) | false ↦ Ok r ]
whole n (Err r) = Err r

-- The entries. 21: the text is over the limit
unfoldable pub field_prefix : List ℕ → Field
field_prefix s = elim (within_limit s) [ true ↦ field_from 0 0 s | false ↦ Err (refused reason.OverTheLimit 0) ]

unfoldable pub return_prefix : List ℕ → Field
return_prefix s = elim (within_limit s) [ true ↦ return_from 0 s | false ↦ Err (refused reason.OverTheLimit 0) ]

abbrev pub field_text : List ℕ → Field
field_text s = whole (length s) (field_prefix s)

abbrev pub return_text : List ℕ → Field
return_text s = whole (length s) (return_prefix s)

-- An array descriptor, whole; a text that does not start with [ is none
unfoldable pub array_of : Field → Result (Option FieldDescriptor) (Refusal ℕ)
array_of (Ok f) = Ok (Some f.0)
array_of (Err r) = Err r

unfoldable pub array_text : List ℕ → Result (Option FieldDescriptor) (Refusal ℕ)
array_text s =
    elim (within_limit s) [
      | true ↦ elim (begins_with (byte "[") s) [ true ↦ array_of (field_text s) | false ↦ Ok None ]
      | false ↦ Err (refused reason.OverTheLimit 0)
    ]

-- The yes/no checks

abbrev pub is_field_text : List ℕ → Bool
is_field_text s = is_ok (field_text s)

abbrev pub is_return_text : List ℕ → Bool
is_return_text s = is_ok (return_text s)

abbrev pub is_array_text : List ℕ → Bool
is_array_text s = begins_with (byte "[") s && is_ok (field_text s)
