-- The readings of class names and their rule agree. The proofs are in proofs/Rules.antt.
use Rattle.std.specs.Prelude.{ℕ, ◌+◌, ◌≤◌, false, List, ◌∷◌, ◌++◌, ◌↔◌, ◌≡◌, length, Ok}
use Rattle.std.proofs.Math.Bool.{So}
use Rattle.laws.specs.Bytes.{byte, text_limit}
use Rattle.class_names.specs.declared.NameEnd.TheVariants as name_end
use Rattle.class_names.specs.Names.{name_from, class_name, is_class_name}
use Rattle.class_names.specs.Rules.{ClassName, LoneClassName}

-- what is left begins with a class name and a ; at the place e
pub record Begins (at : ℕ) (s : List ℕ) (e : ℕ) : Type 0 where
  pub name : List ℕ
  pub rest : List ℕ
  pub rule : ClassName name
  pub split : s ≡ name ++ byte ";" ∷ rest
  pub place : e ≡ at + length name

-- proved as `ends_exactly`
abbrev pub EndsExactly : Type 0
EndsExactly = (at : ℕ) (s : List ℕ) (e : ℕ) → (name_from false at s ≡ Ok (name_end.Semicolon e)) ↔ Begins at s e

-- proved as `alone_exactly`
abbrev pub AloneExactly : Type 0
AloneExactly = (s : List ℕ) → (class_name s ≡ Ok tt) ↔ ((length s ≤ text_limit) × LoneClassName s)

-- proved as `class_name_exactly`
abbrev pub ClassNameExactly : Type 0
ClassNameExactly = (s : List ℕ) → So (is_class_name s) ↔ ClassName s

-- a text is a class name in one way: proved as `one_class_name`
abbrev pub OneClassName : Type 0
OneClassName = (s : List ℕ) → IsProp (ClassName s)
