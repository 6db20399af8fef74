-- Reading and printing undo each other, and what 34 is given for. The proofs are in proofs/Roundtrip.antt.
use Rattle.std.specs.Prelude.{ℕ, ◌+◌, ◌≤◌, Bool, false, List, [], ◌++◌, ◌↔◌, ◌≡◌, length, take, drop, Ok, Err}
use Rattle.refusals.specs.declared.Reason.TheVariants as reason
use Rattle.refusals.specs.Numbers.{refused}
use Rattle.std.proofs.Math.Bool.{So}
use Rattle.laws.specs.Bytes.{byte, text_limit}
use Rattle.descriptors.specs.declared.FieldDescriptor.{FieldDescriptor}
use Rattle.descriptors.specs.Texts.{Field, field_text, return_text}
use Rattle.output.specs.Output.{Output}
use Rattle.printing.specs.Printing.{name_of, part_bytes, is_field_part, is_return_part, printing, print_field, print_return, field_output, return_output}

-- the class name of parts that point into a text
pub data HasName (text : List ℕ) (f : FieldDescriptor) (name : List ℕ) : Type 0 where
  -- of an object type: the bytes of its range, which lies within the text
  named : f.letter ≡ byte "L" → f.start + f.length ≤ length text → name_of text f ≡ name → HasName text f name
  -- of any other: none, start and length being 0
  unnamed : (f.letter ≡ byte "L" → ⊥) → f.start ≡ 0 → f.length ≡ 0 → name ≡ [] → HasName text f name

-- Two parts, each over its own text, agree in dimensions, letters and class-name bytes. The starts may differ
pub record Agree (text : List ℕ) (f : FieldDescriptor) (other : List ℕ) (g : FieldDescriptor) : Type 0 where
  pub dimensions : f.dimensions ≡ g.dimensions
  pub letter : f.letter ≡ g.letter
  pub name : List ℕ
  pub first : HasName text f name
  pub second : HasName other g name

-- (a) Given room, a whole descriptor that is accepted prints back to its own bytes, and the output's bytes past them stay
abbrev pub PrintsBack : (List ℕ → Field) → (List ℕ → FieldDescriptor → ℕ → Output) → (List ℕ → FieldDescriptor → List ℕ → List ℕ) → Type 0
PrintsBack reads prints outputs =
    (s out : List ℕ) (f : FieldDescriptor) (used : ℕ) → reads s ≡ Ok (f, used) → length s ≤ length out
    → (prints s f (length out) ≡ Ok (length s)) × (outputs s f out ≡ s ++ drop (length s) out)

-- proved as `field_prints_back`, `return_prints_back`
abbrev pub FieldPrintsBack : Type 0
FieldPrintsBack = PrintsBack field_text print_field field_output

abbrev pub ReturnPrintsBack : Type 0
ReturnPrintsBack = PrintsBack return_text print_return return_output

-- (b) What is printed reads back, whole, to parts that agree
abbrev pub ReadsBack : (List ℕ → Field) → (List ℕ → FieldDescriptor → ℕ → Output) → (List ℕ → FieldDescriptor → List ℕ → List ℕ) → Type 0
ReadsBack reads prints outputs =
    (text out : List ℕ) (f : FieldDescriptor) (n : ℕ) → prints text f (length out) ≡ Ok n
    → (g : FieldDescriptor) × (reads (take n (outputs text f out)) ≡ Ok (g, n)) × Agree text f (take n (outputs text f out)) g

-- proved as `field_reads_back`, `return_reads_back`
abbrev pub FieldReadsBack : Type 0
FieldReadsBack = ReadsBack field_text print_field field_output

abbrev pub ReturnReadsBack : Type 0
ReturnReadsBack = ReadsBack return_text print_return return_output

-- Parts keep the rules, and what they print is within the limit, exactly when some text reads to parts that agree with
-- these
abbrev pub KeptExactly : (List ℕ → FieldDescriptor → Bool) → (List ℕ → Field) → Type 0
KeptExactly kept reads =
    (text : List ℕ) (f : FieldDescriptor)
    → (So (kept text f) × (length (part_bytes text f) ≤ text_limit))
    ↔ ((s : List ℕ) × (g : FieldDescriptor) × (used : ℕ) × (reads s ≡ Ok (g, used)) × Agree text f s g)

-- proved as `field_kept_exactly`, `return_kept_exactly`
abbrev pub FieldKeptExactly : Type 0
FieldKeptExactly = KeptExactly is_field_part field_text

abbrev pub ReturnKeptExactly : Type 0
ReturnKeptExactly = KeptExactly is_return_part return_text

-- 34 is given exactly for parts that break the rules, over a text within the limit: proved as `refused_34_exactly`
abbrev pub Refused34Exactly : Type 0
Refused34Exactly =
    (text : List ℕ) (kept : Bool) (bytes : List ℕ) (room : ℕ)
    → (printing text kept bytes room ≡ Err (refused reason.BrokenParts 0)) ↔ ((length text ≤ text_limit) × (kept ≡ false))
