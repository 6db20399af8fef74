-- The readings of method descriptors and the grammar agree. The proofs are in proofs/Grammar.antt and proofs/Entries.antt.
use Rattle.std.specs.Prelude.{ℕ, ◌+◌, ◌*◌, ◌≤◌, ◌<◌, Bool, true, false, List, [], ◌∷◌, ◌++◌, ◌↔◌, ◌⊎◌, ◌≡◌, length, drop, replicate, Err}
use Rattle.std.proofs.Math.Bool.{So}
use Rattle.refusals.specs.declared.Refusal.{Refusal}
use Rattle.laws.specs.Bytes.{byte, ascii, text_limit}
use Rattle.descriptors.specs.declared.FieldDescriptor.{FieldDescriptor}
use Rattle.descriptors.specs.Texts.{void}
use Rattle.descriptors.specs.Theorems.{BeginsField}
use Rattle.methods.specs.Texts.{parsed, Reading, method_reading, part_words, words, room_of, method_prefix, method_text, is_method_text, prefix_store, text_store}
use Rattle.methods.specs.Grammar.{Parameters, MethodDescriptor, FewDimensions, FewInMethod, reading_at, parameter_count, parameter_parts, return_parts}

-- A text has one derivation: proved as `one_derivation`
abbrev pub OneDerivation : Type 0
OneDerivation = (s : List ℕ) → IsProp (MethodDescriptor s)

-- and at most one of its beginnings has a derivation: proved as `one_beginning`
abbrev pub OneBeginning : Type 0
OneBeginning = (s t u v : List ℕ) → MethodDescriptor s → MethodDescriptor t → s ++ u ≡ t ++ v → (s ≡ t) × (u ≡ v)

-- the reading ends in a return part and not in a refusal
abbrev pub accepted : Reading → Bool
accepted (Reading.parameter at f r) = accepted r
accepted (Reading.ended f used) = true
accepted (Reading.refused r) = false

-- what is left at `at` begins with a return descriptor, V only as all of it: its parts and the place after it
abbrev pub BeginsReturn : ℕ → List ℕ → FieldDescriptor → ℕ → Type 0
BeginsReturn at s f used = ((s ≡ ascii "V") × (f ≡ void) × (used ≡ at + 1)) ⊎ BeginsField 0 at s f used

-- what is left at `at`, after the ( , begins with parameters, a ) and a return descriptor: the reading of these
pub record BeginsRest (at : ℕ) (s : List ℕ) (r : Reading) : Type 0 where
  pub parameters : List ℕ
  pub follows : List ℕ
  pub trees : Parameters parameters
  pub few : FewDimensions trees
  pub split : s ≡ parameters ++ byte ")" ∷ follows
  pub return : FieldDescriptor
  pub used : ℕ
  pub returns : BeginsReturn (at + length parameters + 1) follows return used
  pub reading : r ≡ reading_at at trees (Reading.ended return used)

-- the text, within the limit, begins with a method descriptor
pub record BeginsMethod (s : List ℕ) (r : Reading) : Type 0 where
  pub short : length s ≤ text_limit
  pub rest : List ℕ
  pub opens : s ≡ byte "(" ∷ rest
  pub begins : BeginsRest 1 rest r

-- A reading accepts exactly the texts that begin with a derived descriptor, and its parts are the derivation's: proved as
-- `method_exactly`
abbrev pub MethodExactly : Type 0
MethodExactly = (s : List ℕ) (r : Reading) → ((method_reading s ≡ r) × So (accepted r)) ↔ BeginsMethod s r

-- a beginning of the text is derived: its length is the bytes used
pub record DerivedBeginning (s : List ℕ) (count : ℕ) (f : FieldDescriptor) (used : ℕ) : Type 0 where
  pub text : List ℕ
  pub rest : List ℕ
  pub split : s ≡ text ++ rest
  pub tree : MethodDescriptor text
  pub counted : count ≡ parameter_count tree
  pub parts : f ≡ return_parts tree
  pub place : used ≡ length text

-- A prefix reading stops at the end of a derivable beginning, by `one_beginning` the only one: proved as `prefix_derived`
abbrev pub PrefixDerived : Type 0
PrefixDerived =
    (room : ℕ) (s : List ℕ) (count : ℕ) (f : FieldDescriptor) (used : ℕ)
    → method_prefix room s ≡ parsed count f used → DerivedBeginning s count f used

-- Each parameter has a byte, so there are fewer than the limit's bytes: proved as `few_parameters`
abbrev pub FewParameters : Type 0
FewParameters =
    (room : ℕ) (s : List ℕ) (count : ℕ) (f : FieldDescriptor) (used : ℕ)
    → method_prefix room s ≡ parsed count f used → count < text_limit

-- the whole text, within the limits and the store's room, is derived
pub record DerivedMethod (room : ℕ) (s : List ℕ) (count : ℕ) (f : FieldDescriptor) (used : ℕ) : Type 0 where
  pub short : length s ≤ text_limit
  pub tree : MethodDescriptor s
  pub few : FewInMethod tree
  pub counted : count ≡ parameter_count tree
  pub fits : count ≤ room
  pub parts : f ≡ return_parts tree
  pub all : used ≡ length s

-- A whole reading accepts exactly the texts that the grammar derives: proved as `method_text_exactly`
abbrev pub MethodTextExactly : Type 0
MethodTextExactly =
    (room : ℕ) (s : List ℕ) (count : ℕ) (f : FieldDescriptor) (used : ℕ)
    → (method_text room s ≡ parsed count f used) ↔ DerivedMethod room s count f used

-- the words of parts, record after record
unfoldable pub all_words : List FieldDescriptor → List ℕ
all_words [] = []
all_words (f ∷ fs) = words f ++ all_words fs

-- Accepted, the store has the parts of the derivation's parameters in front, and the words past them are as they were:
-- proved as `accepted_store`
abbrev pub AcceptedStore : Type 0
AcceptedStore =
    (store s : List ℕ) (count : ℕ) (f : FieldDescriptor) (used : ℕ) → method_text (room_of store) s ≡ parsed count f used
    → (tree : MethodDescriptor s) → text_store store s ≡ all_words (parameter_parts tree) ++ drop (count * part_words) store

-- Refused, every word of the store is zero: proved as `refused_store`
abbrev pub RefusedStore : Type 0
RefusedStore =
    (store s : List ℕ) (r : Refusal ℕ) → method_text (room_of store) s ≡ Err r → text_store store s ≡ replicate (length store) 0

-- The same after a prefix reading, with the parts of the derivable beginning: proved as `accepted_prefix_store` and
-- `refused_prefix_store`
abbrev pub AcceptedPrefixStore : Type 0
AcceptedPrefixStore =
    (store s : List ℕ) (count : ℕ) (f : FieldDescriptor) (used : ℕ) → method_prefix (room_of store) s ≡ parsed count f used
    → (b : DerivedBeginning s count f used) × (prefix_store store s ≡ all_words (parameter_parts b.tree) ++ drop (count * part_words) store)

abbrev pub RefusedPrefixStore : Type 0
RefusedPrefixStore =
    (store s : List ℕ) (r : Refusal ℕ) → method_prefix (room_of store) s ≡ Err r → prefix_store store s ≡ replicate (length store) 0

-- A whole reading is a prefix reading with nothing left over: proved as `whole_is_prefix`
abbrev pub WholeIsPrefix : Type 0
WholeIsPrefix =
    (room : ℕ) (s : List ℕ) (count : ℕ) (f : FieldDescriptor) (used : ℕ)
    → (method_text room s ≡ parsed count f used) ↔ ((method_prefix room s ≡ parsed count f used) × (used ≡ length s))

-- The yes/no check agrees with the reading, given room: proved as `check_agrees`
abbrev pub CheckAgrees : Type 0
CheckAgrees =
    (s : List ℕ) → So (is_method_text s) ↔ ((room count : ℕ) × (f : FieldDescriptor) × (used : ℕ) × (method_text room s ≡ parsed count f used))
