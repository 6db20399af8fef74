-- Printing a method's parts, document 01, "Texts": the parameters' from a store, and the return part, with the text that
-- they point into. specs/Theorems.antt says that reading and printing undo each other.
use Rattle.std.specs.Prelude.{ℕ, zero, suc, ◌+◌, Bool, true, false, ◌&&◌, List, [], ◌∷◌, ◌++◌, leb, min, length, map, get_or, drop, Ok, Err}
use Rattle.refusals.specs.declared.Reason.TheVariants as reason
use Rattle.refusals.specs.Numbers.{refused}
use Rattle.laws.specs.Bytes.{byte, every, text_limit}
use Rattle.descriptors.specs.declared.FieldDescriptor.{FieldDescriptor}
use Rattle.methods.specs.Texts.{part_words, room_of}
use Rattle.output.specs.Output.{Output, output_after}
use Rattle.printing.specs.Printing.{part_bytes, part_length, is_field_part, is_return_part, printing}

-- the bytes of parts, one part after the other
unfoldable pub all_bytes : List ℕ → List FieldDescriptor → List ℕ
all_bytes text [] = []
all_bytes text (f ∷ fs) = part_bytes text f ++ all_bytes text fs

-- JVMS 4.3.3: ( {ParameterDescriptor} ) ReturnDescriptor
abbrev pub method_bytes : List ℕ → List FieldDescriptor → FieldDescriptor → List ℕ
method_bytes text parameters return = byte "(" ∷ all_bytes text parameters ++ byte ")" ∷ part_bytes text return

-- whether parts keep the rules
abbrev pub keep_rules : List ℕ → List FieldDescriptor → FieldDescriptor → Bool
keep_rules text parameters return = is_return_part text return && every (is_field_part text) parameters

-- the part in the first record of a store
abbrev pub first_part : List ℕ → FieldDescriptor
first_part store = record { dimensions = get_or store 0 0; letter = get_or store 1 0; start = get_or store 2 0; length = get_or store 3 0 }

-- the parts in records that are cut off already
abbrev pub parts_of : List (List ℕ) → List FieldDescriptor
parts_of records = map first_part records

-- the parts in the first `count` records of a store, and whether these records are all there and keep the rules
unfoldable pub parts_in : ℕ → List ℕ → List FieldDescriptor
parts_in zero store = []
parts_in (suc count) store = first_part store ∷ parts_in count (drop part_words store)

abbrev pub are_method_parts : List ℕ → List ℕ → ℕ → FieldDescriptor → Bool
are_method_parts text store count return = leb count (room_of store) && keep_rules text (parts_in count store) return

-- The length of the parameters' bytes, where so many stand before them. It is capped as it grows: of a length over the
-- limit it is only known that it is. 34: one of them breaks the rules
abbrev pub capped : ℕ → ℕ
capped n = min n (text_limit + 1)

unfoldable pub length_from : List ℕ → ℕ → List FieldDescriptor → Output
length_from text before [] = Ok before
length_from text before (f ∷ fs) =
    elim (is_field_part text f) [ true ↦ length_from text (capped (before + part_length f)) fs | false ↦ Err (refused reason.BrokenParts 0) ]

-- The answer for parts, and the output afterwards
abbrev pub print_parts : List ℕ → List FieldDescriptor → FieldDescriptor → ℕ → Output
print_parts text parameters return room = printing text (keep_rules text parameters return) (method_bytes text parameters return) room

abbrev pub parts_output : List ℕ → List FieldDescriptor → FieldDescriptor → List ℕ → List ℕ
parts_output text parameters return out = output_after (print_parts text parameters return (length out)) (method_bytes text parameters return) out

-- The entry's answer, and the output afterwards
abbrev pub print_method : List ℕ → List ℕ → ℕ → FieldDescriptor → ℕ → Output
print_method text store count return room =
    printing text (are_method_parts text store count return) (method_bytes text (parts_in count store) return) room

abbrev pub method_output : List ℕ → List ℕ → ℕ → FieldDescriptor → List ℕ → List ℕ
method_output text store count return out =
    output_after (print_method text store count return (length out)) (method_bytes text (parts_in count store) return) out
