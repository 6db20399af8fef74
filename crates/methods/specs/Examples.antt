-- Worked method descriptors, and the settled examples of document 01 for texts. Proved in proofs/Examples.antt.
use Rattle.std.specs.Prelude.{ℕ, [], ◌∷◌, replicate, Result, Ok, Err}
use Prim.Native.String.{String}
use Rattle.refusals.specs.declared.Refusal.{Refusal}
use Rattle.refusals.specs.Numbers.{number_of}
use Rattle.refusals.specs.Answers.{by_number}
use Rattle.laws.specs.Bytes.{byte, ascii}
use Rattle.laws.specs.Examples.{Computes}
use Rattle.class_names.specs.Names.{class_name}
use Rattle.descriptors.specs.declared.FieldDescriptor.{FieldDescriptor}
use Rattle.descriptors.specs.Texts.{base, object, void, field_text}
use Rattle.methods.specs.declared.MethodDescriptor.{MethodDescriptor}
use Rattle.methods.specs.Texts.{method_prefix, method_text, text_store}

-- so many parameters, the return part, and the bytes used
abbrev parsed : ℕ → FieldDescriptor → ℕ → Result (MethodDescriptor × ℕ) (ℕ × ℕ)
parsed count f used = Ok (record { parameters = count; returned = f }, used)

-- proved as `methods_compute`, with room for two parameters
abbrev pub MethodsCompute : Type 0
MethodsCompute =
    Computes (λ (s : String). by_number (method_text 2 (ascii s))) (
    ("()V", parsed 0 void 3)
    ∷ ("(I[La;)J", parsed 2 (base 0 (byte "J")) 8)
    ∷ ("(La);)[Lb;", parsed 1 (object 1 8 1) 10)
    ∷ ("", Err (29, 0))
    ∷ ("V", Err (29, 0))
    ∷ ("(", Err (22, 1))
    ∷ ("(I", Err (22, 2))
    ∷ ("(I)", Err (22, 3))
    ∷ ("(V)V", Err (23, 1))
    ∷ ("()VV", Err (23, 2))
    ∷ ("(III)V", Err (30, 3))
    ∷ ("(IIIX)V", Err (30, 3))
    ∷ ("(IIX)V", Err (23, 3))
    ∷ ("()II", Err (31, 3))
    ∷ [])

-- proved as `method_prefixes_compute`
abbrev pub MethodPrefixesCompute : Type 0
MethodPrefixesCompute =
    Computes (λ (s : String). by_number (method_prefix 2 (ascii s))) (
    ("()II", parsed 0 (base 0 (byte "I")) 3)
    ∷ ("()VV", Err (23, 2))
    ∷ [])

-- proved as `stores_compute`: a store of nine words, each 7 before
abbrev pub StoresCompute : Type 0
StoresCompute =
    Computes (λ (s : String). text_store (replicate 9 7) (ascii s)) (
    ("()V", replicate 9 7)
    ∷ ("(I)V", 0 ∷ byte "I" ∷ 0 ∷ 0 ∷ replicate 5 7)
    ∷ ("(I[La;)V", 0 ∷ byte "I" ∷ 0 ∷ 0 ∷ 1 ∷ byte "L" ∷ 4 ∷ 1 ∷ 7 ∷ [])
    ∷ ("(III)V", replicate 9 0)
    ∷ ("(I)VV", replicate 9 0)
    ∷ ("(I)II", replicate 9 0)
    ∷ ("", replicate 9 0)
    ∷ [])

-- Document 01's number and place of an answer: 0 and 0 where the text is accepted
abbrev pub answered : {T : Type 0} → Result T (Refusal ℕ) → ℕ × ℕ
answered (Ok t) = (0, 0)
answered (Err r) = (number_of r.reason, r.place)

-- what a text is read as
pub data As : Type 0 where
  a_class_name a_field a_method : As

abbrev pub reading : As × String → ℕ × ℕ
reading (As.a_class_name, s) = answered (class_name (ascii s))
reading (As.a_field, s) = answered (field_text (ascii s))
reading (As.a_method, s) = answered (method_text 0 (ascii s))

-- Document 01's settled examples for texts, those marked P and two more, together: proved as `settled_texts`
abbrev pub SettledTexts : Type 0
SettledTexts =
    Computes reading (
    ((As.a_method, "()VV"), (23, 2))
    ∷ ((As.a_field, "La/;"), (25, 3))
    ∷ ((As.a_field, "L;"), (25, 1))
    ∷ ((As.a_class_name, ""), (0, 0))
    ∷ ((As.a_class_name, "a/"), (0, 0))
    ∷ ((As.a_class_name, ";"), (25, 0))
    ∷ ((As.a_class_name, "a;"), (28, 1))
    ∷ [])
