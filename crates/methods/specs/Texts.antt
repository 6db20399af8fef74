-- The reading of method descriptors, document 01, "Texts", with the reasons and places of the refusals, and the store of
-- the parameters' parts. specs/Grammar.antt has the grammar of JVMS 4.3.3 itself, and specs/Theorems.antt says that the
-- two agree.
use Rattle.std.specs.Prelude.{ℕ, zero, suc, ◌+◌, ◌-◌, ◌*◌, ◌/◌, Bool, true, false, List, ◌∷◌, [], ltb, length, drop, replicate, Option, Some, None, Result, Ok, Err, is_ok}
use Rattle.std.proofs.lemmas.List.Edits.{sets}
use Rattle.refusals.specs.declared.Reason.TheVariants as reason
use Rattle.refusals.specs.declared.Refusal.{Refusal}
use Rattle.refusals.specs.Numbers
use Rattle.laws.specs.Bytes.{byte, begins_with, within_limit}
use Rattle.descriptors.specs.declared.FieldDescriptor.{FieldDescriptor}
use Rattle.descriptors.specs.Texts.{Parsed, Field, field_from, return_from, whole}
use Rattle.methods.specs.declared.MethodDescriptor.{MethodDescriptor}
use Rattle.methods.specs.declared.Next.{Next}
use Rattle.methods.specs.declared.Next.TheVariants as next

-- What a reading finds: the number of parameters and the return part, with the bytes used, or a refusal.
abbrev pub Method : Type 0
Method = Parsed MethodDescriptor

abbrev pub parsed : ℕ → FieldDescriptor → ℕ → Method
parsed count f used = Ok (record { parameters = count; returned = f }, used)

-- What stands where a parameter may: a parameter, or ) and then the return part
abbrev pub parameter_of : Field → Result Next (Refusal ℕ)
parameter_of (Ok f) = Ok (next.Parameter f.0 f.1)
parameter_of (Err r) = Err r

abbrev pub return_of : Field → Result Next (Refusal ℕ)
return_of (Ok f) = Ok (next.Return f.0 f.1)
return_of (Err r) = Err r

unfoldable pub next_from : ℕ → List ℕ → Result Next (Refusal ℕ)
next_from at s =
    elim (begins_with (byte ")") s) [
      | true ↦ return_of (return_from (at + 1) (drop 1 s))
      | false ↦ parameter_of (field_from 0 at s)
    ]

-- A reading: the parameters one after the other, each with the place where it starts, and what ends them, which is the
-- return part with the bytes used, or a refusal
pub data Reading : Type 0 where
  parameter : ℕ → FieldDescriptor → Reading → Reading
  ended : FieldDescriptor → ℕ → Reading
  refused : Refusal ℕ → Reading

-- What stands after ( . A parameter has a byte at least, so `most` that starts as the text's length never comes to zero
unfoldable pub rest_from : ℕ → ℕ → List ℕ → Reading
rest_from zero at s = Reading.refused (Numbers.refused reason.TypeDue at)
rest_from (suc most) at s =
    elim (next_from at s) [
      | Ok n ↦ elim n [
        | next.Parameter f after ↦ Reading.parameter at f (rest_from most after (drop (after - at) s))
        | next.Return f used ↦ Reading.ended f used
      ]
      | Err r ↦ Reading.refused r
    ]

abbrev pub rest_reading : List ℕ → Reading
rest_reading s = rest_from (length s) 1 (drop 1 s)

-- 21: the text is over the limit. 29: no ( first
unfoldable pub opening : List ℕ → Result (Unit {0}) (Refusal ℕ)
opening s =
    elim (within_limit s) [
      | true ↦ elim (begins_with (byte "(") s) [ true ↦ Ok tt | false ↦ Err (Numbers.refused reason.NoParenthesis 0) ]
      | false ↦ Err (Numbers.refused reason.OverTheLimit 0)
    ]

unfoldable pub method_reading : List ℕ → Reading
method_reading s = elim (opening s) [ Ok u ↦ rest_reading s | Err r ↦ Reading.refused r ]

-- The store of the parameters: a record of four words each. 30: no record is left
abbrev pub part_words : ℕ
part_words = 4

abbrev pub words : FieldDescriptor → List ℕ
words f = f.dimensions ∷ f.letter ∷ f.start ∷ f.length ∷ []

abbrev pub room_of : List ℕ → ℕ
room_of store = length store / part_words

unfoldable pub within : ℕ → Reading → Reading
within room (Reading.ended f used) = Reading.ended f used
within room (Reading.refused r) = Reading.refused r
within zero (Reading.parameter at f r) = Reading.refused (Numbers.refused reason.NoPartLeft at)
within (suc room) (Reading.parameter at f r) = Reading.parameter at f (within room r)

-- The same where there may be no limit.
abbrev pub within_room : Option ℕ → Reading → Reading
within_room None r = r
within_room (Some room) r = within room r

-- Whether there is room for the parameter at an index.
abbrev pub has_room : Option ℕ → ℕ → Bool
has_room None index = true
has_room (Some room) index = ltb index room

-- The answer, where `count` parameters have been read before, and the store, where they have been stored
unfoldable pub answer_from : ℕ → Reading → Method
answer_from count (Reading.parameter at f r) = answer_from (count + 1) r
answer_from count (Reading.ended f used) = parsed count f used
answer_from count (Reading.refused r) = Err r

unfoldable pub store_from : List ℕ → ℕ → Reading → List ℕ
store_from store count (Reading.parameter at f r) = store_from (sets store (count * part_words) (words f)) (count + 1) r
store_from store count (Reading.ended f used) = store
store_from store count (Reading.refused r) = store

-- The entries' answers, with room for so many parameters, and with no store
abbrev pub method_prefix : ℕ → List ℕ → Method
method_prefix room s = answer_from 0 (within room (method_reading s))

abbrev pub method_text : ℕ → List ℕ → Method
method_text room s = whole (length s) (method_prefix room s)

abbrev pub method_check : List ℕ → Method
method_check s = whole (length s) (answer_from 0 (method_reading s))

-- What stands in the store afterwards: the records, or zero in every word where the answer is a refusal
abbrev pub filled : List ℕ → List ℕ → List ℕ
filled store s = store_from store 0 (within (room_of store) (method_reading s))

unfoldable pub store_after : Method → List ℕ → List ℕ
store_after (Ok m) store = store
store_after (Err r) store = replicate (length store) 0

abbrev pub prefix_store : List ℕ → List ℕ → List ℕ
prefix_store store s = store_after (method_prefix (room_of store) s) (filled store s)

abbrev pub text_store : List ℕ → List ℕ → List ℕ
text_store store s = store_after (method_text (room_of store) s) (filled store s)

abbrev pub is_method_text : List ℕ → Bool
is_method_text s = is_ok (method_check s)
