-- The reading of operands and the pictures of JVMS 6.5 agree. The proofs are in proofs/Exactly.antt.
use Rattle.std.specs.Prelude.{ℕ, ◌≤◌, List, [], ◌↔◌, ◌≡◌, length, Ok}
use Rattle.read.specs.declared.CodeOffset.{CodeOffset}
use Rattle.read.specs.Reads.{after}
use Rattle.opcodes.specs.Operands.{Operand}
use Rattle.operands.specs.Pictures.{Stand}
use Rattle.ordinary.specs.declared.Instruction.{Instruction}
use Rattle.ordinary.specs.Ordinary.{operands_from, wide_step}
use Rattle.ordinary.specs.Pictures.{NamedAll, OrdinaryPicture, WidePicture}

-- Operands are read exactly where their pictures stand and the pool entries that they name have their kinds: proved as
-- `operands_exactly`
abbrev pub OperandsExactly : Type 0
OperandsExactly =
    (code pool : List ℕ) (kind : ℕ) (os : List Operand) (at : CodeOffset) (i : Instruction) (next : CodeOffset) → at.0 ≤ length code
    → (operands_from code pool kind [] os at ≡ Ok (i, next))
    ↔ ((bytes : List ℕ) × (p : OrdinaryPicture kind os i bytes) × NamedAll pool p.drawn × Stand code at bytes × (next ≡ after (length bytes) at))

-- What stands after wide is decoded exactly where its picture stands: proved as `wide_exactly`
abbrev pub WideExactly : Type 0
WideExactly =
    (code pool : List ℕ) (at : CodeOffset) (i : Instruction) (next : CodeOffset)
    → (wide_step code pool at ≡ Ok (i, next))
    ↔ ((bytes : List ℕ) × WidePicture i bytes × Stand code at bytes × (next ≡ after (length bytes) at))
