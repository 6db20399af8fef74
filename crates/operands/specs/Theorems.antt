-- The reading of operands and their pictures agree. The proofs are in proofs/Exactly.antt and proofs/Signed.antt.
use Rattle.std.specs.Prelude.{ℕ, ◌^◌, ◌≤◌, ◌<◌, List, ◌↔◌, ◌⊎◌, ◌≡◌, length, Ok}
use Rattle.read.specs.declared.CodeOffset.{CodeOffset}
use Rattle.opcodes.specs.Operands.{Operand}
use Rattle.operands.specs.Signed.{signed_in, signed_of, extended}
use Rattle.operands.specs.Checks.{operand_at}
use Rattle.operands.specs.Pictures.{Stands}

-- An operand is read exactly where its bytes stand and its pool entry has its kind: proved as `operand_exactly`
abbrev pub OperandExactly : Type 0
OperandExactly =
    (code pool : List ℕ) (o : Operand) (at : CodeOffset) (v : ℕ) (next : CodeOffset) → at.0 ≤ length code
    → (operand_at code pool o at ≡ Ok (v, next)) ↔ Stands code pool o at v next

-- Sign extension keeps the number, in one byte and in two: proved as `sign_kept`
abbrev pub SignKept : Type 0
SignKept = (n v : ℕ) → (n ≡ 1) ⊎ (n ≡ 2) → v < 256 ^ n → signed_of (extended n v) ≡ signed_in n v

-- and a word is a signed number of four bytes already: proved as `word_kept`
abbrev pub WordKept : Type 0
WordKept = (v : ℕ) → v < 256 ^ 4 → extended 4 v ≡ v
