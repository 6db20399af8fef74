-- The settled examples of document 01 that are marked P, as one statement over a list: whole answers and whole stores.
-- Proved in proofs/Settled.antt. A word that was 9 before and is 9 afterwards is one that stays.
use Rattle.std.specs.Prelude.{ℕ, List, [], ◌∷◌, ◌++◌, replicate, Result, Ok, Err}
use Prim.Native.String.{String}
use Rattle.laws.specs.Bytes.{ascii}
use Rattle.laws.specs.Examples.{Computes}
use Rattle.refusals.specs.Answers.{by_number}
use Rattle.read.specs.declared.CodeOffset.{CodeOffset}
use Rattle.class_names.specs.Names.{class_name}
use Rattle.descriptors.specs.declared.FieldDescriptor.{FieldDescriptor}
use Rattle.descriptors.specs.Texts.{field_text}
use Rattle.methods.specs.declared.MethodDescriptor.{MethodDescriptor}
use Rattle.methods.specs.Texts.{room_of, method_text, text_store}
use Rattle.records.specs.Records.{record_room, entry_room}
use Rattle.jumps.specs.Answers.{failure_by_number}
use Rattle.bytecode.specs.declared.Decoded.{Decoded}
use Rattle.bytecode.specs.Decoding.{counts, decoding, records_after, entries_after}

-- What is given: a code with stores of so many words, a method descriptor with a store for its parameters, a field
-- descriptor, a lone class name
pub data Given : Type 0 where
  a_code : (bytes : List ℕ) (records entries : ℕ) → Given
  a_method : (text : String) (parameters : ℕ) → Given
  a_field : String → Given
  a_class_name : String → Given

-- What comes of it: the answer, a refusal by its number, and all words of what was lent
pub data Outcome : Type 0 where
  decoding_gives : (answer : Result Decoded (ℕ × CodeOffset × ℕ)) (records entries : List ℕ) → Outcome
  method_gives : (answer : Result (MethodDescriptor × ℕ) (ℕ × ℕ)) (parameters : List ℕ) → Outcome
  field_gives : Result (FieldDescriptor × ℕ) (ℕ × ℕ) → Outcome
  class_gives : Result (Unit {0}) (ℕ × ℕ) → Outcome

abbrev nines : ℕ → List ℕ
nines n = replicate n 9

abbrev pub outcome_of : Given → Outcome
outcome_of (Given.a_code bytes records entries) =
    Outcome.decoding_gives (failure_by_number (decoding bytes [] (record_room (nines records)) (entry_room (nines entries)))) (records_after bytes [] (nines records) (nines entries))
    (entries_after bytes [] (nines records) (nines entries))
outcome_of (Given.a_method text parameters) =
    Outcome.method_gives (by_number (method_text (room_of (nines parameters)) (ascii text))) (text_store (nines parameters) (ascii text))
outcome_of (Given.a_field text) = Outcome.field_gives (by_number (field_text (ascii text)))
outcome_of (Given.a_class_name text) = Outcome.class_gives (by_number (class_name (ascii text)))

abbrev accepted : ℕ → ℕ → Result Decoded (ℕ × CodeOffset × ℕ)
accepted instructions entries = Ok (counts instructions entries)

abbrev refused : ℕ → ℕ → Result Decoded (ℕ × CodeOffset × ℕ)
refused number place = Err (number, record { 0 = place }, 0)

abbrev zeros : ℕ → List ℕ
zeros n = replicate n 0

-- a word below 256
abbrev word : ℕ → List ℕ
word n = 0 ∷ 0 ∷ 0 ∷ n ∷ []

-- proved as `settled_hold`
abbrev pub SettledHold : Type 0
SettledHold =
    Computes outcome_of ((
      Given.a_code (0x1a ∷ 0x99 ∷ 0x00 ∷ 0x06 ∷ 0x84 ∷ 0x00 ∷ 0xff ∷ 0xb1 ∷ []) 24 0,
      Outcome.decoding_gives (accepted 4 0)
          (0 ∷ 0x15 ∷ 0 ∷ 0 ∷ 0 ∷ 0 ∷ 1 ∷ 0x99 ∷ 6 ∷ 0 ∷ 0 ∷ 0 ∷ 4 ∷ 0x84 ∷ 0 ∷ 4294967295 ∷ 0 ∷ 0 ∷ 7 ∷ 0xb1 ∷ 0 ∷ 0 ∷ 0 ∷ 0 ∷ []) [],
    )
    ∷ (
      Given.a_code (0xaa ∷ 0 ∷ 0 ∷ 0 ∷ word 24 ++ word 0 ++ word 1 ++ word 24 ++ word 24 ++ (0xb1 ∷ [])) 12 4,
      Outcome.decoding_gives (accepted 2 2) (0 ∷ 0xaa ∷ 24 ∷ 0 ∷ 1 ∷ 0 ∷ 24 ∷ 0xb1 ∷ 0 ∷ 0 ∷ 0 ∷ 0 ∷ []) (0 ∷ 24 ∷ 1 ∷ 24 ∷ []),
    )
    ∷ (Given.a_code [] 7 3, Outcome.decoding_gives (accepted 0 0) (nines 7) (nines 3))
    ∷ (Given.a_code (0xa7 ∷ 0x00 ∷ 0x03 ∷ []) 7 3, Outcome.decoding_gives (refused 13 0) (zeros 7) (zeros 3))
    ∷ (Given.a_code (0xa7 ∷ 0xff ∷ 0xff ∷ []) 7 3, Outcome.decoding_gives (refused 12 0) (zeros 7) (zeros 3))
    ∷ (Given.a_code (0x00 ∷ 0xc8 ∷ 0x7f ∷ 0xff ∷ 0xff ∷ 0xff ∷ []) 13 3, Outcome.decoding_gives (refused 13 1) (zeros 13) (zeros 3))
    ∷ (Given.a_code (0xc4 ∷ 0x00 ∷ []) 7 3, Outcome.decoding_gives (refused 5 1) (zeros 7) (zeros 3))
    ∷ (Given.a_code (0xbc ∷ 0x03 ∷ []) 7 3, Outcome.decoding_gives (refused 9 1) (zeros 7) (zeros 3))
    ∷ (Given.a_code (0xbc ∷ 0x0b ∷ []) 7 3, Outcome.decoding_gives (accepted 1 0) (0 ∷ 0xbc ∷ 11 ∷ 0 ∷ 0 ∷ 0 ∷ 9 ∷ []) (nines 3))
    ∷ (Given.a_method "()VV" 5, Outcome.method_gives (Err (23, 2)) (zeros 5))
    ∷ (Given.a_field "La/;", Outcome.field_gives (Err (25, 3)))
    ∷ (Given.a_field "L;", Outcome.field_gives (Err (25, 1)))
    ∷ (Given.a_class_name "", Outcome.class_gives (Ok tt))
    ∷ (Given.a_class_name "a/", Outcome.class_gives (Ok tt))
    ∷ [])
