-- The numbers of each answer, as C sees them.
use Rattle.std.specs.Prelude.{ℕ, ◌≤◌, Result, Ok, Err, Option, Some, None}
use Rattle.descriptors.specs.declared.FieldDescriptor.{FieldDescriptor}
use Rattle.refusals.specs.declared.Refusal.{Refusal}
use Rattle.refusals.specs.Numbers.{number_of}
use Rattle.read.specs.declared.CodeOffset.{CodeOffset}
use Rattle.records.specs.declared.RecordIndex.{RecordIndex}
use Rattle.descriptors.specs.Texts.{Field}
use Rattle.methods.specs.Texts.{Method}
use Rattle.output.specs.Output.{Output}
use Rattle.jumps.specs.declared.Failure.{Failure}
use Rattle.bytecode.specs.Decoding.{Decision}
use Rattle.station.specs.declared.Answer.{Answer}
use Rattle.station.specs.declared.Parts.{Parts}

-- An acceptance says two numbers of its entry's own, a refusal where and which
abbrev pub acceptance : ℕ → ℕ → Answer
acceptance first next = record { number = 0; second = 0; place = 0; first = first; next = next }

abbrev pub refusal : ℕ → ℕ → ℕ → Answer
refusal number place second = record { number = number; second = second; place = place; first = 0; next = 0 }

-- a refusal by its number, its place, and 0 for the second number
abbrev pub refusal_at : Refusal ℕ → Answer
refusal_at r = refusal (number_of r.reason) r.place 0

-- one of code, with its second number
abbrev pub failure_at : Failure → Answer
failure_at f = refusal (number_of f.reason) f.place.0 f.second

-- how many instructions, and how many switch entries
abbrev pub decode_answer : Decision → Answer
decode_answer (Ok d) = acceptance d.instructions d.entries
decode_answer (Err f) = failure_at f

-- the index and 1, or nothing
abbrev pub lookup_answer : Result (Option RecordIndex) (Refusal CodeOffset) → Answer
lookup_answer (Ok (Some i)) = acceptance i.0 1
lookup_answer (Ok None) = acceptance 0 0
lookup_answer (Err r) = refusal (number_of r.reason) r.place.0 0

-- a class name has no number of its own
abbrev pub name_answer : Result (Unit {0}) (Refusal ℕ) → Answer
name_answer (Ok good) = acceptance 0 0
name_answer (Err r) = refusal_at r

-- the length written
abbrev pub output_answer : Output → Answer
output_answer (Ok size) = acceptance size 0
output_answer (Err r) = refusal_at r

-- A part of these four words
abbrev pub part_of : ℕ → ℕ → ℕ → ℕ → FieldDescriptor
part_of dimensions letter start size = record { dimensions = dimensions; letter = letter; start = start; length = size }

-- Those of a part, with a method's number of parameters and the bytes used
abbrev pub parts_of : FieldDescriptor → ℕ → ℕ → Parts
parts_of part parameters used =
    record {
      number = 0;
      dimensions = part.dimensions;
      letter = part.letter;
      start = part.start;
      length = part.length;
      parameters = parameters;
      place = 0;
      used = used;
    }

-- all words 0, but for a refusal's number and place
abbrev pub no_parts : ℕ → ℕ → Parts
no_parts number place = record { number = number; dimensions = 0; letter = 0; start = 0; length = 0; parameters = 0; place = place; used = 0 }

abbrev pub refused_parts : Refusal ℕ → Parts
refused_parts r = no_parts (number_of r.reason) r.place

abbrev pub field_parts : Field → Parts
field_parts (Ok f) = parts_of f.0 0 f.1
field_parts (Err r) = refused_parts r

-- of a text of n bytes, all of them used; letter 0 where it is not an array
abbrev pub array_parts : ℕ → Result (Option FieldDescriptor) (Refusal ℕ) → Parts
array_parts n (Ok (Some part)) = parts_of part 0 n
array_parts n (Ok None) = no_parts 0 0
array_parts n (Err r) = refused_parts r

-- the part is the return
abbrev pub method_parts : Method → Parts
method_parts (Ok m) = parts_of m.0.returned m.0.parameters m.1
method_parts (Err r) = refused_parts r

-- an answer whose count of parameters fits the field of `Parts`
abbrev pub HasFew : Method → Type 0
HasFew (Ok m) = m.0.parameters ≤ 4294967295
HasFew (Err r) = Unit {0}
