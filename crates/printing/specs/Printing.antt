-- Printing, document 01, "Texts": parts, with the text that they point into, back to the bytes of a descriptor.
-- specs/Theorems.antt says that reading and printing undo each other.
use Rattle.std.specs.Prelude.{ℕ, ◌+◌, Bool, true, false, ◌&&◌, ◌||◌, List, [], ◌∷◌, ◌++◌, eqb, leb, length, take, drop, replicate, Result, Ok, Err}
use Rattle.laws.specs.Bytes.{byte, text_limit, within_limit}
use Rattle.class_names.specs.Names.{is_class_name}
use Rattle.descriptors.specs.declared.FieldDescriptor.{FieldDescriptor}
use Rattle.descriptors.specs.Texts.{max_dimensions, is_base_type}
use Rattle.refusals.specs.declared.Reason.TheVariants as reason
use Rattle.refusals.specs.declared.Refusal.{Refusal}
use Rattle.refusals.specs.Numbers.{refused}
use Rattle.output.specs.Output.{Output, writing, output_after}

-- the bytes of the class name that parts point to
abbrev pub name_of : List ℕ → FieldDescriptor → List ℕ
name_of text f = take f.length (drop f.start text)

-- JVMS 4.3.2: a base type is its letter, an object type is L ClassName ;
unfoldable pub type_bytes : List ℕ → FieldDescriptor → List ℕ
type_bytes text f = elim (eqb f.letter (byte "L")) [ true ↦ byte "L" ∷ name_of text f ++ byte ";" ∷ [] | false ↦ f.letter ∷ [] ]

-- and an array type has a [ for each dimension before it
abbrev pub part_bytes : List ℕ → FieldDescriptor → List ℕ
part_bytes text f = replicate f.dimensions (byte "[") ++ type_bytes text f

-- so many bytes, where the range of a class name lies within the text
unfoldable pub part_length : FieldDescriptor → ℕ
part_length f = elim (eqb f.letter (byte "L")) [ true ↦ f.dimensions + f.length + 2 | false ↦ f.dimensions + 1 ]

-- The rules that parts must keep: at most 255 dimensions, a letter that is listed, and the range of a class name, within
-- the text, or 0 and 0 without one
abbrev pub has_name : List ℕ → FieldDescriptor → Bool
has_name text f = leb (f.start + f.length) (length text) && is_class_name (name_of text f)

abbrev pub has_no_name : FieldDescriptor → Bool
has_no_name f = eqb f.start 0 && eqb f.length 0

unfoldable pub is_type_part : List ℕ → FieldDescriptor → Bool
is_type_part text f = elim (eqb f.letter (byte "L")) [ true ↦ has_name text f | false ↦ is_base_type f.letter && has_no_name f ]

abbrev pub is_field_part : List ℕ → FieldDescriptor → Bool
is_field_part text f = leb f.dimensions max_dimensions && is_type_part text f

-- V has no dimensions, and is a return alone
abbrev pub is_void_part : FieldDescriptor → Bool
is_void_part f = eqb f.letter (byte "V") && eqb f.dimensions 0 && has_no_name f

abbrev pub is_return_part : List ℕ → FieldDescriptor → Bool
is_return_part text f = is_void_part f || is_field_part text f

-- whether so many bytes are within the limit, else 21, and the room, else 33
unfoldable pub check_room : ℕ → ℕ → Result Unit (Refusal ℕ)
check_room n room =
    elim (leb n text_limit) [
      | true ↦ elim (leb n room) [ true ↦ Ok tt | false ↦ Err (refused reason.TooShort 0) ]
      | false ↦ Err (refused reason.OverTheLimit 0)
    ]

-- The answer where the parts keep the rules or not, and these are their bytes. 21: the text is over the limit.
-- 34: the parts break the rules. 21: what is to be printed is over the limit. 33: the output is too short
unfoldable pub printing : List ℕ → Bool → List ℕ → ℕ → Output
printing text kept bytes room =
    elim (within_limit text) [
      | true ↦ elim kept [
        | true ↦ elim (within_limit bytes) [ true ↦ writing bytes room | false ↦ Err (refused reason.OverTheLimit 0) ]
        | false ↦ Err (refused reason.BrokenParts 0)
      ]
      | false ↦ Err (refused reason.OverTheLimit 0)
    ]

-- The entries' answers, and the output afterwards
abbrev pub print_field : List ℕ → FieldDescriptor → ℕ → Output
print_field text f room = printing text (is_field_part text f) (part_bytes text f) room

abbrev pub print_return : List ℕ → FieldDescriptor → ℕ → Output
print_return text f room = printing text (is_return_part text f) (part_bytes text f) room

abbrev pub field_output : List ℕ → FieldDescriptor → List ℕ → List ℕ
field_output text f out = output_after (print_field text f (length out)) (part_bytes text f) out

abbrev pub return_output : List ℕ → FieldDescriptor → List ℕ → List ℕ
return_output text f out = output_after (print_return text f (length out)) (part_bytes text f) out
