-- Worked class names: the text and the answer. Proved in proofs/Examples.antt.
use Prim.Native.String.{String}
use Rattle.std.specs.Prelude.{true, false, [], ◌∷◌, Ok, Err}
use Rattle.laws.specs.Bytes.{ascii}
use Rattle.laws.specs.Examples.{Computes}
use Rattle.refusals.specs.Answers.{by_number}
use Rattle.class_names.specs.Names.{class_name, is_class_name}

-- proved as `class_names_compute`: alone
abbrev pub ClassNamesCompute : Type 0
ClassNamesCompute =
    Computes (λ (s : String). by_number (class_name (ascii s))) (
    ("", Ok tt)
    ∷ ("a", Ok tt)
    ∷ ("a/", Ok tt)
    ∷ ("java/lang/Object", Ok tt)
    ∷ (";", Err (25, 0))
    ∷ ("/", Err (25, 0))
    ∷ ("a//b", Err (25, 2))
    ∷ ("a/;", Err (25, 2))
    ∷ ("a;", Err (28, 1))
    ∷ ("a.b", Err (26, 1))
    ∷ ("[a", Err (26, 0))
    ∷ ("a/<b>", Err (26, 2))
    ∷ [])

-- proved as `names_before_semicolon_compute`: without the ; that ends them in a descriptor
abbrev pub NamesBeforeSemicolonCompute : Type 0
NamesBeforeSemicolonCompute =
    Computes (λ (s : String). is_class_name (ascii s)) (
    ("a", true)
    ∷ ("a/b", true)
    ∷ ("", false)
    ∷ ("a/", false)
    ∷ ("/a", false)
    ∷ ("a;", false)
    ∷ ("a.b", false)
    ∷ [])
