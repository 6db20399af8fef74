-- What an identifier is written for. The proofs are in proofs/Exactly.antt.
use Rattle.std.specs.Prelude.{ℕ, ◌≤◌, true, List, ◌↔◌, ◌≡◌, length, Ok}
use Rattle.laws.specs.Bytes.{text_limit}
use Rattle.names.specs.Rules.{MethodName}
use Rattle.methods.specs.Grammar.{MethodDescriptor, FewInMethod}
use Rattle.identifier.specs.Identifier.{identifier_bytes, identifying}

-- a valid name and a valid whole descriptor, each within the limit, and room for the identifier
pub record Identifies (name descriptor : List ℕ) (room n : ℕ) : Type 0 where
  pub name_short : length name ≤ text_limit
  pub name_rule : MethodName true true name
  pub descriptor_short : length descriptor ≤ text_limit
  pub tree : MethodDescriptor descriptor
  pub few : FewInMethod tree
  pub written : n ≡ length (identifier_bytes name descriptor)
  pub fits : n ≤ room

-- proved as `identifies_exactly`
abbrev pub IdentifiesExactly : Type 0
IdentifiesExactly =
    (name descriptor : List ℕ) (room n : ℕ) → (identifying name descriptor room ≡ Ok n) ↔ Identifies name descriptor room n
