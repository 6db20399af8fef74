-- Worked printings of methods: the parameters' parts, and the answer or the output. Proved in proofs/Examples.antt.
use Rattle.std.specs.Prelude.{ℕ, List, [], ◌∷◌, ◌++◌, replicate, Ok, Err}
use Rattle.laws.specs.Bytes.{byte, ascii}
use Rattle.laws.specs.Examples.{Computes}
use Rattle.descriptors.specs.declared.FieldDescriptor.{FieldDescriptor}
use Rattle.descriptors.specs.Texts.{base, object, void}
use Rattle.methods.specs.Theorems.{all_words}
use Rattle.refusals.specs.Answers.{by_number}
use Rattle.method_printing.specs.Printing.{print_method, method_output}

-- the text that the parts point into
abbrev text : List ℕ
text = ascii "a/b;c"

-- the words of two parameters, and three words more
abbrev store : List ℕ
store = all_words (base 0 (byte "I") ∷ object 1 0 3 ∷ []) ++ 9 ∷ 9 ∷ 9 ∷ []

-- the count, the return part and the output's length: proved as `methods_print`
abbrev pub MethodsPrint : Type 0
MethodsPrint =
    Computes (λ (e : ℕ × FieldDescriptor × ℕ). by_number (print_method text store e.0 e.1 e.2)) (
    ((0, void, 3), Ok 3)
    ∷ ((1, base 0 (byte "J"), 9), Ok 4)
    -- exactly full, and one byte short
    ∷ ((2, object 0 4 1, 12), Ok 12)
    ∷ ((2, object 0 4 1, 11), Err (33, 0))
    -- missing records: three words are none
    ∷ ((3, void, 99), Err (34, 0))
    ∷ ((18446744073709551615, void, 99), Err (34, 0))
    -- V with dimensions, and a name with a ; , as a return
    ∷ ((0, base 1 (byte "V"), 99), Err (34, 0))
    ∷ ((0, object 0 2 3, 99), Err (34, 0))
    ∷ [])

-- one parameter with a V for a return: proved as `parameters_print`
abbrev pub ParametersPrint : Type 0
ParametersPrint =
    Computes (λ (f : FieldDescriptor). by_number (print_method text (all_words (f ∷ [])) 1 void 300)) (
    (base 255 (byte "I"), Ok 259)
    ∷ (object 0 0 3, Ok 8)
    -- V as a parameter
    ∷ (void, Err (34, 0))
    ∷ (base 256 (byte "I"), Err (34, 0))
    ∷ (base 0 (byte "("), Err (34, 0))
    ∷ (object 0 4 2, Err (34, 0))
    ∷ (object 0 0 0, Err (34, 0))
    ∷ [])

-- the output, each byte 7 before: proved as `method_outputs_compute`
abbrev pub MethodOutputsCompute : Type 0
MethodOutputsCompute =
    Computes (λ (e : ℕ × FieldDescriptor × ℕ). method_output text store e.0 e.1 (replicate e.2 7)) (
    ((0, void, 4), ascii "()V" ++ 7 ∷ [])
    ∷ ((2, object 0 4 1, 12), ascii "(I[La/b;)Lc;")
    ∷ ((2, object 0 4 1, 11), replicate 11 7)
    ∷ ((3, void, 4), replicate 4 7)
    ∷ [])

-- 21 for what is printed: so many parameters of 256 bytes each. Proved as `method_limit_computes`
abbrev pub MethodLimitComputes : Type 0
MethodLimitComputes =
    Computes (λ (n : ℕ). by_number (print_method text (all_words (replicate n (base 255 (byte "I")))) n void 0)) (
    (255, Err (33, 0))
    ∷ (256, Err (21, 0))
    ∷ [])
