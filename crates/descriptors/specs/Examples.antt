-- Worked descriptors: the text and the answer. Proved in proofs/Examples.antt.
use Rattle.std.specs.Prelude.{ℕ, [], ◌∷◌, ◌++◌, replicate, Some, None, Ok, Err}
use Prim.Native.String.{String}
use Rattle.refusals.specs.Answers.{by_number}
use Rattle.laws.specs.Bytes.{byte, ascii}
use Rattle.laws.specs.Examples.{Computes}
use Rattle.descriptors.specs.Texts.{base, object, void, field_prefix, field_text, return_prefix, return_text, array_text}

-- proved as `fields_compute`
abbrev pub FieldsCompute : Type 0
FieldsCompute =
    Computes (λ (s : String). by_number (field_text (ascii s))) (
    ("I", Ok (base 0 (byte "I"), 1))
    ∷ ("[[Z", Ok (base 2 (byte "Z"), 3))
    ∷ ("[[La/b;", Ok (object 2 3 3, 7))
    ∷ ("L(;", Ok (object 0 1 1, 3))
    ∷ ("", Err (22, 0))
    ∷ ("[", Err (22, 1))
    ∷ ("V", Err (23, 0))
    ∷ ("L;", Err (25, 1))
    ∷ ("La/;", Err (25, 3))
    ∷ ("La.b;", Err (26, 2))
    ∷ ("L[a;", Err (26, 1))
    ∷ ("La", Err (27, 2))
    ∷ ("II", Err (31, 1))
    ∷ ("La;;", Err (31, 3))
    ∷ [])

-- proved as `dimensions_compute`: so many [ and then I
abbrev pub DimensionsCompute : Type 0
DimensionsCompute =
    Computes (λ (n : ℕ). by_number (field_text (replicate n (byte "[") ++ ascii "I"))) (
    (255, Ok (base 255 (byte "I"), 256))
    ∷ (256, Err (24, 255))
    ∷ [])

-- proved as `prefixes_compute`
abbrev pub PrefixesCompute : Type 0
PrefixesCompute =
    Computes (λ (s : String). by_number (field_prefix (ascii s))) (
    ("II", Ok (base 0 (byte "I"), 1))
    ∷ ("La;;", Ok (object 0 1 1, 3))
    ∷ ("V", Err (23, 0))
    ∷ [])

-- proved as `returns_compute`
abbrev pub ReturnsCompute : Type 0
ReturnsCompute =
    Computes (λ (s : String). by_number (return_text (ascii s))) (
    ("V", Ok (void, 1))
    ∷ ("J", Ok (base 0 (byte "J"), 1))
    ∷ ("VV", Err (23, 0))
    ∷ ("[V", Err (23, 1))
    ∷ ("JV", Err (31, 1))
    ∷ ("", Err (22, 0))
    ∷ [])

-- proved as `return_prefixes_compute`
abbrev pub ReturnPrefixesCompute : Type 0
ReturnPrefixesCompute =
    Computes (λ (s : String). by_number (return_prefix (ascii s))) (
    ("V", Ok (void, 1))
    ∷ ("VV", Err (23, 0))
    ∷ ("JV", Ok (base 0 (byte "J"), 1))
    ∷ [])

-- proved as `arrays_compute`
abbrev pub ArraysCompute : Type 0
ArraysCompute =
    Computes (λ (s : String). by_number (array_text (ascii s))) (
    ("[I", Ok (Some (base 1 (byte "I"))))
    ∷ ("[La;", Ok (Some (object 1 2 1)))
    ∷ ("", Ok None)
    ∷ ("I", Ok None)
    ∷ ("X", Ok None)
    ∷ ("[II", Err (31, 2))
    ∷ ("[", Err (22, 1))
    ∷ [])
