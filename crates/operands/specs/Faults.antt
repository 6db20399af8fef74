-- What is wrong with an operand, and document 01's number for it, from the side of the bytes that stand there. Nothing
-- here is read. The proof is in proofs/Faults.antt.
use Rattle.std.specs.Prelude.{ℕ, ◌+◌, ◌<◌, ◌≤◌, List, ◌↔◌, ◌⊎◌, ◌≡◌, length, get_or, Err}
use Rattle.laws.specs.Bytes.{In}
use Rattle.read.specs.declared.CodeOffset.{CodeOffset}
use Rattle.refusals.specs.declared.Reason.{Reason}
use Rattle.refusals.specs.Numbers.{refused, number_of}
use Rattle.read.specs.Reads.{big_endian}
use Rattle.pool.specs.declared.Kinds.{Kinds}
use Rattle.pool.specs.Tags.{tags_of}
use Rattle.opcodes.specs.Operands.{Meaning, Operand}
use Rattle.operands.specs.Checks.{operand_at}
use Rattle.operands.specs.Pictures.{Stand}

-- 6: 0 or not in the pool table. 7: the entry there is of no kind that the instruction may name
pub data WrongIndex (pool : List ℕ) (kinds : Kinds) (v : ℕ) (why : Reason) : Type 0 where
  no_entry : number_of why ≡ 6 → (v ≡ 0) ⊎ (length pool ≤ v) → WrongIndex pool kinds v why
  wrong_kind : number_of why ≡ 7 → 0 < v → v < length pool → (In (get_or pool v 0) (tags_of kinds) → ⊥) → WrongIndex pool kinds v why

-- what is wrong with the number v of an operand's bytes. 8: not zero. 9: no tag of a primitive array
abbrev pub Wrong : List ℕ → Meaning → ℕ → Reason → Type 0
Wrong pool Meaning.unsigned v why = ⊥
Wrong pool Meaning.signed v why = ⊥
Wrong pool (Meaning.index kinds) v why = WrongIndex pool kinds v why
Wrong pool Meaning.zero v why = (number_of why ≡ 8) × (v ≡ 0 → ⊥)
Wrong pool Meaning.array_tag v why = (number_of why ≡ 9) × ((v < 4) ⊎ (11 < v))

-- the code ends within so many bytes, 3, or they stand there and their number is wrong
pub data BytesFault (code pool : List ℕ) (k : ℕ) (meaning : Meaning) (at : CodeOffset) (why : Reason) : Type 0 where
  short : number_of why ≡ 3 → length code < at.0 + k → BytesFault code pool k meaning at why
  wrong : (bytes : List ℕ) → length bytes ≡ k → Stand code at bytes → Wrong pool meaning (big_endian bytes) why → BytesFault code pool k meaning at why

-- an operand that the opcode implies has no fault
abbrev pub OperandFault : List ℕ → List ℕ → Operand → CodeOffset → Reason → Type 0
OperandFault code pool (Operand.implied v) at why = ⊥
OperandFault code pool (Operand.bytes k meaning) at why = BytesFault code pool k meaning at why

-- An operand is refused exactly for its fault's reason, and where its bytes start: proved as `operand_refused_exactly`
abbrev pub OperandRefusedExactly : Type 0
OperandRefusedExactly =
    (code pool : List ℕ) (o : Operand) (at : CodeOffset) (why : Reason) (place : CodeOffset)
    → (operand_at code pool o at ≡ Err (refused why place)) ↔ (OperandFault code pool o at why × (place ≡ at))
