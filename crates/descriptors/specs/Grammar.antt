-- The grammar of field and return descriptors, JVMS 4.3.2 and 4.3.3, one constructor for a production, written apart
-- from any reader. A class name is document 01's: specs/Rules.antt of the crate class_names.
use Rattle.std.specs.Prelude.{ℕ, suc, ◌+◌, List, [], ◌∷◌, ◌++◌, ◌≡◌, length}
use Rattle.std.proofs.Math.Bool.{So}
use Rattle.laws.specs.Bytes.{byte, ascii, one_of}
use Rattle.class_names.specs.Rules.{ClassName}
use Rattle.descriptors.specs.declared.FieldDescriptor.{FieldDescriptor}
use Rattle.descriptors.specs.Texts.{base, object}

-- FieldType: BaseType, ObjectType or ArrayType
pub data FieldType : List ℕ → Type 0 where
  -- BaseType: one of B C D F I J S Z
  base_type : {b : ℕ} → So (one_of (ascii "BCDFIJSZ") b) → FieldType (b ∷ [])
  -- ObjectType: L ClassName ;
  object_type : {l : ℕ} {s : List ℕ} (name : List ℕ) → l ≡ byte "L" → ClassName name → s ≡ name ++ byte ";" ∷ [] → FieldType (l ∷ s)
  -- ArrayType: [ ComponentType, which is a FieldType
  array_type : {a : ℕ} {s : List ℕ} → a ≡ byte "[" → FieldType s → FieldType (a ∷ s)

-- ReturnDescriptor: FieldType or VoidDescriptor
pub data ReturnDescriptor (s : List ℕ) : Type 0 where
  value : FieldType s → ReturnDescriptor s
  void : s ≡ ascii "V" → ReturnDescriptor s

-- how many [ stand before the base or object type
unfoldable pub dimensions : {s : List ℕ} → FieldType s → ℕ
dimensions (base_type p) = 0
dimensions (object_type name e c q) = 0
dimensions (array_type e t) = suc (dimensions t)

-- the parts of a derivation whose text starts at `at`, with d dimensions before it
unfoldable pub parts_at : ℕ → ℕ → {s : List ℕ} → FieldType s → FieldDescriptor
parts_at d at (base_type {b} p) = base d b
parts_at d at (object_type name e c q) = object d (at + 1) (length name)
parts_at d at (array_type e t) = parts_at (d + 1) (at + 1) t
