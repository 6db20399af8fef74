-- Worked names: a text and the answer. Proved in proofs/Examples.antt.
use Rattle.std.specs.Prelude.{ℕ, Bool, true, false, [], ◌∷◌, replicate}
use Prim.Native.String.{String}
use Rattle.laws.specs.Bytes.{byte, ascii}
use Rattle.laws.specs.Examples.{Computes}
use Rattle.names.specs.Names.{is_unqualified_name, is_method_name, is_binary_name, is_module_name}

-- proved as `unqualified_names_compute`
abbrev pub UnqualifiedNamesCompute : Type 0
UnqualifiedNamesCompute =
    Computes is_unqualified_name (
    (ascii "cycle", true)
    ∷ (ascii "<a>", true)
    ∷ (0x80 ∷ 0xff ∷ 0 ∷ [], true)
    ∷ ([], false)
    ∷ (ascii "a.b", false)
    ∷ (ascii "a;", false)
    ∷ (ascii "[a", false)
    ∷ (ascii "a/b", false)
    ∷ [])

-- proved as `method_names_compute`: the flags for <init> and <clinit>, then the text
abbrev pub MethodNamesCompute : Type 0
MethodNamesCompute =
    Computes (λ (m : Bool × Bool × String). is_method_name m.0 m.1 (ascii m.2)) (
    ((false, false, "log"), true)
    ∷ ((true, false, "<init>"), true)
    ∷ ((false, true, "<init>"), false)
    ∷ ((false, true, "<clinit>"), true)
    ∷ ((true, false, "<clinit>"), false)
    ∷ ((true, true, "<init"), false)
    ∷ ((true, true, "a>b"), false)
    ∷ ((true, true, "a/b"), false)
    ∷ ((true, true, ""), false)
    ∷ [])

-- proved as `binary_names_compute`
abbrev pub BinaryNamesCompute : Type 0
BinaryNamesCompute =
    Computes (λ (s : String). is_binary_name (ascii s)) (
    ("java/lang/Object", true)
    ∷ ("a", true)
    ∷ ("a/<b>", true)
    ∷ ("", false)
    ∷ ("/a", false)
    ∷ ("a/", false)
    ∷ ("a//b", false)
    ∷ ("a.b", false)
    ∷ [])

-- proved as `module_names_compute`
abbrev pub ModuleNamesCompute : Type 0
ModuleNamesCompute =
    Computes is_module_name (
    ([], true)
    ∷ (ascii "java.base", true)
    ∷ (ascii "a\\:b\\@c\\\\", true)
    ∷ (0x20 ∷ 0xff ∷ [], true)
    ∷ (ascii "a\\", false)
    ∷ (ascii "\\\\\\", false)
    ∷ (ascii "\\a", false)
    ∷ (ascii "a:b", false)
    ∷ (ascii "\\\\@", false)
    ∷ (0x1f ∷ [], false)
    ∷ [])

-- proved as `limit_computes`: a name of so many bytes
abbrev pub LimitComputes : Type 0
LimitComputes = Computes (λ (n : ℕ). is_unqualified_name (replicate n (byte "a"))) ((65535, true) ∷ (65536, false) ∷ [])
