-- Worked printings: the parts, and the answer or the output. Proved in proofs/Examples.antt.
use Rattle.std.specs.Prelude.{ℕ, List, [], ◌∷◌, ◌++◌, replicate, Ok, Err}
use Rattle.laws.specs.Bytes.{byte, ascii}
use Rattle.laws.specs.Examples.{Computes}
use Rattle.descriptors.specs.declared.FieldDescriptor.{FieldDescriptor}
use Rattle.descriptors.specs.Texts.{base, object, void}
use Rattle.refusals.specs.Answers.{by_number}
use Rattle.printing.specs.Printing.{print_field, print_return, field_output, return_output}

-- the text that the parts point into: two names and the ; between them
abbrev text : List ℕ
text = ascii "a/b;c"

-- any four words
abbrev parts : ℕ → ℕ → ℕ → ℕ → FieldDescriptor
parts dimensions letter start length = record { dimensions = dimensions; letter = letter; start = start; length = length }

-- the parts and the output's length: proved as `fields_print`
abbrev pub FieldsPrint : Type 0
FieldsPrint =
    Computes (λ (e : FieldDescriptor × ℕ). by_number (print_field text e.0 e.1)) (
    ((base 0 (byte "I"), 1), Ok 1)
    ∷ ((base 2 (byte "Z"), 9), Ok 3)
    ∷ ((base 255 (byte "I"), 256), Ok 256)
    ∷ ((object 0 4 1, 9), Ok 3)
    -- exactly full, and one byte short
    ∷ ((object 2 0 3, 7), Ok 7)
    ∷ ((object 2 0 3, 6), Err (33, 0))
    -- 256 dimensions
    ∷ ((base 256 (byte "I"), 300), Err (34, 0))
    -- a letter not listed
    ∷ ((base 0 (byte "X"), 9), Err (34, 0))
    ∷ ((base 0 0, 9), Err (34, 0))
    -- a start or a length without a class name
    ∷ ((parts 0 (byte "I") 1 0, 9), Err (34, 0))
    ∷ ((parts 0 (byte "I") 0 1, 9), Err (34, 0))
    -- a range outside the text
    ∷ ((object 0 4 2, 9), Err (34, 0))
    ∷ ((object 0 4294967295 1, 9), Err (34, 0))
    -- a name with a ; , an empty one, and one whose last segment is empty
    ∷ ((object 0 2 3, 9), Err (34, 0))
    ∷ ((object 0 0 0, 9), Err (34, 0))
    ∷ ((object 0 0 2, 9), Err (34, 0))
    -- V as a field
    ∷ ((void, 9), Err (34, 0))
    -- 34 goes before 33
    ∷ ((void, 0), Err (34, 0))
    ∷ [])

-- proved as `returns_print`
abbrev pub ReturnsPrint : Type 0
ReturnsPrint =
    Computes (λ (e : FieldDescriptor × ℕ). by_number (print_return text e.0 e.1)) (
    ((void, 1), Ok 1)
    ∷ ((void, 0), Err (33, 0))
    ∷ ((base 0 (byte "J"), 1), Ok 1)
    ∷ ((object 1 0 3, 6), Ok 6)
    -- V with dimensions, and with a name's range
    ∷ ((base 1 (byte "V"), 9), Err (34, 0))
    ∷ ((parts 0 (byte "V") 0 1, 9), Err (34, 0))
    ∷ [])

-- the output, each byte 7 before: what lies past the descriptor stays, and a refusal changes nothing. Proved as
-- `outputs_compute`
abbrev pub OutputsCompute : Type 0
OutputsCompute =
    Computes (λ (e : FieldDescriptor × ℕ). field_output text e.0 (replicate e.1 7)) (
    ((base 1 (byte "I"), 4), ascii "[I" ++ 7 ∷ 7 ∷ [])
    ∷ ((object 2 0 3, 7), ascii "[[La/b;")
    ∷ ((object 0 4 1, 5), ascii "Lc;" ++ 7 ∷ 7 ∷ [])
    ∷ ((object 2 0 3, 6), replicate 6 7)
    ∷ ((object 0 2 3, 6), replicate 6 7)
    ∷ ((base 1 (byte "V"), 2), replicate 2 7)
    ∷ [])

-- proved as `return_outputs_compute`
abbrev pub ReturnOutputsCompute : Type 0
ReturnOutputsCompute =
    Computes (λ (e : FieldDescriptor × ℕ). return_output text e.0 (replicate e.1 7)) (
    ((void, 2), ascii "V" ++ 7 ∷ [])
    ∷ ((base 1 (byte "V"), 2), replicate 2 7)
    ∷ [])

-- 21: a text of so many bytes, all a , and the parts. The second is for what is printed, which is two bytes longer than
-- its name. Proved as `limits_compute`
abbrev pub LimitsCompute : Type 0
LimitsCompute =
    Computes (λ (e : ℕ × FieldDescriptor). by_number (print_field (replicate e.0 (byte "a")) e.1 0)) (
    ((65536, base 0 (byte "I")), Err (21, 0))
    ∷ ((65536, void), Err (21, 0))
    ∷ ((65535, base 0 (byte "I")), Err (33, 0))
    ∷ ((65535, object 0 0 65534), Err (21, 0))
    ∷ [])
