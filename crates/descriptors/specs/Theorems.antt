-- The readings and the grammar agree. The proofs are in proofs/Grammar.antt and proofs/Entries.antt.
use Rattle.std.specs.Prelude.{ℕ, ◌+◌, ◌≤◌, List, ◌∷◌, ◌++◌, ◌↔◌, ◌⊎◌, ◌≡◌, length, Some, Ok}
use Rattle.std.proofs.Math.Bool.{So}
use Rattle.laws.specs.Bytes.{byte, ascii, text_limit}
use Rattle.descriptors.specs.declared.FieldDescriptor.{FieldDescriptor}
use Rattle.descriptors.specs.Texts.{Field, max_dimensions, void, field_from, return_from, field_prefix, field_text, return_prefix, return_text, array_text, is_field_text, is_return_text, is_array_text}
use Rattle.descriptors.specs.Grammar.{FieldType, dimensions, parts_at}

-- A text has one derivation: proved as `one_derivation`
abbrev pub OneDerivation : Type 0
OneDerivation = (s : List ℕ) → IsProp (FieldType s)

-- and at most one of its beginnings has a derivation: proved as `one_beginning`
abbrev pub OneBeginning : Type 0
OneBeginning = (s t u v : List ℕ) → FieldType s → FieldType t → s ++ u ≡ t ++ v → (s ≡ t) × (u ≡ v)

-- what is left at `at`, after d dimensions, begins with a derived text: its parts and the place after it
pub record BeginsField (d at : ℕ) (s : List ℕ) (f : FieldDescriptor) (next : ℕ) : Type 0 where
  pub text : List ℕ
  pub rest : List ℕ
  pub tree : FieldType text
  pub split : s ≡ text ++ rest
  pub few : d + dimensions tree ≤ max_dimensions
  pub parts : f ≡ parts_at d at tree
  pub place : next ≡ at + length text

-- A prefix reading stops at the end of the derivable beginning, and its parts are the derivation's: proved as
-- `field_exactly`, with `one_beginning`
abbrev pub FieldExactly : Type 0
FieldExactly =
    (d at : ℕ) (s : List ℕ) (f : FieldDescriptor) (next : ℕ) → d ≤ max_dimensions
    → (field_from d at s ≡ Ok (f, next)) ↔ BeginsField d at s f next

-- The same for a return: V as the entire rest, or a field: proved as `return_exactly`
abbrev pub ReturnExactly : Type 0
ReturnExactly =
    (at : ℕ) (s : List ℕ) (f : FieldDescriptor) (next : ℕ)
    → (return_from at s ≡ Ok (f, next)) ↔ (((s ≡ ascii "V") × (f ≡ void) × (next ≡ at + 1)) ⊎ BeginsField 0 at s f next)

-- the whole text, within the limits, is derived
pub record DerivedField (s : List ℕ) (f : FieldDescriptor) (used : ℕ) : Type 0 where
  pub short : length s ≤ text_limit
  pub tree : FieldType s
  pub few : dimensions tree ≤ max_dimensions
  pub parts : f ≡ parts_at 0 0 tree
  pub all : used ≡ length s

-- A whole reading accepts exactly the texts that the grammar derives: proved as `field_text_exactly`
abbrev pub FieldTextExactly : Type 0
FieldTextExactly = (s : List ℕ) (f : FieldDescriptor) (used : ℕ) → (field_text s ≡ Ok (f, used)) ↔ DerivedField s f used

-- proved as `return_text_exactly`
abbrev pub ReturnTextExactly : Type 0
ReturnTextExactly =
    (s : List ℕ) (f : FieldDescriptor) (used : ℕ)
    → (return_text s ≡ Ok (f, used)) ↔ (((s ≡ ascii "V") × (f ≡ void) × (used ≡ 1)) ⊎ DerivedField s f used)

-- An array is a field whose text starts with [ : proved as `array_text_exactly`
abbrev pub ArrayTextExactly : Type 0
ArrayTextExactly =
    (s : List ℕ) (f : FieldDescriptor)
    → (array_text s ≡ Ok (Some f)) ↔ ((t : List ℕ) × (s ≡ byte "[" ∷ t) × DerivedField s f (length s))

-- A whole reading is a prefix reading with nothing left over: proved as `field_whole_is_prefix`, `return_whole_is_prefix`
abbrev WholeIsPrefix : (List ℕ → Field) → (List ℕ → Field) → Type 0
WholeIsPrefix text prefix =
    (s : List ℕ) (f : FieldDescriptor) (used : ℕ)
    → (text s ≡ Ok (f, used)) ↔ ((prefix s ≡ Ok (f, used)) × (used ≡ length s))

abbrev pub FieldWholeIsPrefix : Type 0
FieldWholeIsPrefix = WholeIsPrefix field_text field_prefix

abbrev pub ReturnWholeIsPrefix : Type 0
ReturnWholeIsPrefix = WholeIsPrefix return_text return_prefix

-- The yes/no checks agree with the readings: proved as `field_check_agrees`, `return_check_agrees`, `array_check_agrees`
abbrev pub FieldCheckAgrees : Type 0
FieldCheckAgrees = (s : List ℕ) → So (is_field_text s) ↔ ((f : FieldDescriptor) × (used : ℕ) × (field_text s ≡ Ok (f, used)))

abbrev pub ReturnCheckAgrees : Type 0
ReturnCheckAgrees = (s : List ℕ) → So (is_return_text s) ↔ ((f : FieldDescriptor) × (used : ℕ) × (return_text s ≡ Ok (f, used)))

abbrev pub ArrayCheckAgrees : Type 0
ArrayCheckAgrees = (s : List ℕ) → So (is_array_text s) ↔ ((f : FieldDescriptor) × (array_text s ≡ Ok (Some f)))
