-- Each check says yes exactly to the texts of its rule that are within the limit. The proofs are in proofs/Rules.antt.
use Rattle.std.specs.Prelude.{ℕ, ◌≤◌, Bool, List, ◌↔◌, length}
use Rattle.std.proofs.Math.Bool.{So}
use Rattle.laws.specs.Bytes.{text_limit}
use Rattle.names.specs.Names.{is_unqualified_name, is_method_name, is_binary_name, is_module_name}
use Rattle.names.specs.Rules.{UnqualifiedName, MethodName, BinaryName, ModuleName}

-- the test answers yes exactly to the texts of the rule within the limit
abbrev Exactly : (List ℕ → Bool) → (List ℕ → Type 0) → Type 0
Exactly test Rule = (s : List ℕ) → So (test s) ↔ ((length s ≤ text_limit) × Rule s)

-- proved as `unqualified_exactly`
abbrev pub UnqualifiedExactly : Type 0
UnqualifiedExactly = Exactly is_unqualified_name UnqualifiedName

-- proved as `method_exactly`
abbrev pub MethodExactly : Type 0
MethodExactly = (init clinit : Bool) → Exactly (is_method_name init clinit) (MethodName init clinit)

-- proved as `binary_exactly`
abbrev pub BinaryExactly : Type 0
BinaryExactly = Exactly is_binary_name BinaryName

-- proved as `module_exactly`
abbrev pub ModuleExactly : Type 0
ModuleExactly = Exactly is_module_name ModuleName
