-- Reading and printing a method's parts undo each other, and what 34 is given for. The proofs are in
-- proofs/Roundtrip.antt.
use Rattle.std.specs.Prelude.{ℕ, ◌≤◌, List, [], ◌∷◌, ◌++◌, ◌↔◌, ◌≡◌, length, take, drop, Ok}
use Rattle.std.proofs.Math.Bool.{So}
use Rattle.laws.specs.Bytes.{text_limit}
use Rattle.descriptors.specs.declared.FieldDescriptor.{FieldDescriptor}
use Rattle.methods.specs.Texts.{room_of, parsed, method_text, text_store}
use Rattle.printing.specs.Theorems.{Agree}
use Rattle.method_printing.specs.Printing.{method_bytes, parts_in, are_method_parts, print_method, method_output}

-- Two lists of parts, each over its own text, agree, one part for each
pub data AllAgree (text other : List ℕ) : List FieldDescriptor → List FieldDescriptor → Type 0 where
  none : AllAgree text other [] []
  more : {f g : FieldDescriptor} {fs gs : List FieldDescriptor} → Agree text f other g → AllAgree text other fs gs → AllAgree text other (f ∷ fs) (g ∷ gs)

-- (a) Given room, a whole descriptor that is accepted prints back to its own bytes, from the parameters that the reading
-- left in the store, and the output's bytes past them stay: proved as `method_prints_back`
abbrev pub MethodPrintsBack : Type 0
MethodPrintsBack =
    (store s out : List ℕ) (count : ℕ) (r : FieldDescriptor) (used : ℕ)
    → method_text (room_of store) s ≡ parsed count r used → length s ≤ length out
    → (print_method s (text_store store s) count r (length out) ≡ Ok (length s))
    × (method_output s (text_store store s) count r out ≡ s ++ drop (length s) out)

-- (b) What is printed reads back, whole, to parts that agree and to the same number of parameters, in any store that has
-- room for them: proved as `method_reads_back`
pub record ReadsAlike (text : List ℕ) (parameters : List FieldDescriptor) (count : ℕ) (r : FieldDescriptor) (store s : List ℕ) : Type 0 where
  pub return : FieldDescriptor
  pub reads : method_text (room_of store) s ≡ parsed count return (length s)
  pub returns : Agree text r s return
  pub alike : AllAgree text s parameters (parts_in count (text_store store s))

abbrev pub MethodReadsBack : Type 0
MethodReadsBack =
    (text store out : List ℕ) (count : ℕ) (r : FieldDescriptor) (n : ℕ)
    → print_method text store count r (length out) ≡ Ok n → (other : List ℕ) → count ≤ room_of other
    → ReadsAlike text (parts_in count store) count r other (take n (method_output text store count r out))

-- Parts keep the rules, and what they print is within the limit, exactly when the records are there and some text reads
-- to parts that agree with these: proved as `method_kept_exactly`
abbrev pub MethodKeptExactly : Type 0
MethodKeptExactly =
    (text store : List ℕ) (count : ℕ) (r : FieldDescriptor)
    → (So (are_method_parts text store count r) × (length (method_bytes text (parts_in count store) r) ≤ text_limit))
    ↔ ((count ≤ room_of store) × ((other s : List ℕ) × ReadsAlike text (parts_in count store) count r other s))
