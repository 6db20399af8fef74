-- JVMS 6.5 from the other side: the bytes of an operand, as the boxes of an instruction's format draw them, the value that
-- they stand for, and bytes that stand in the code. Nothing here is read, and nothing has a number or a place of document 01.
use Rattle.std.specs.Prelude.{ℕ, ◌+◌, ◌≤◌, List, [], ◌≡◌, length}
use Rattle.read.specs.declared.CodeOffset.{CodeOffset}
use Rattle.read.specs.Reads.{big_endian, bytes_at, after}
use Rattle.pool.specs.Entries.{HasKind}
use Rattle.opcodes.specs.Operands.{Meaning, Operand}
use Rattle.operands.specs.Signed.{extended}

-- the value of n bytes that make a number
abbrev pub value_of : ℕ → Meaning → ℕ → ℕ
value_of n Meaning.unsigned v = v
value_of n Meaning.signed v = extended n v
value_of n (Meaning.index kinds) v = v
value_of n Meaning.zero v = v
value_of n Meaning.array_tag v = v

-- what the number must be
abbrev pub Keeps : Meaning → ℕ → Type 0
Keeps Meaning.unsigned v = Unit {0}
Keeps Meaning.signed v = Unit {0}
Keeps (Meaning.index kinds) v = Unit {0}
Keeps Meaning.zero v = v ≡ 0
Keeps Meaning.array_tag v = (4 ≤ v) × (v ≤ 11)

-- an operand's value and bytes: big-endian, or none
abbrev pub Drawn : Operand → ℕ → List ℕ → Type 0
Drawn (Operand.implied k) v bytes = (v ≡ k) × (bytes ≡ [])
Drawn (Operand.bytes n meaning) v bytes = (length bytes ≡ n) × (v ≡ value_of n meaning (big_endian bytes)) × Keeps meaning (big_endian bytes)

-- the pool entry that an operand names has its kind
abbrev pub Named : List ℕ → Operand → ℕ → Type 0
Named pool (Operand.implied k) v = Unit {0}
Named pool (Operand.bytes n Meaning.unsigned) v = Unit {0}
Named pool (Operand.bytes n Meaning.signed) v = Unit {0}
Named pool (Operand.bytes n (Meaning.index kinds)) v = HasKind pool kinds v
Named pool (Operand.bytes n Meaning.zero) v = Unit {0}
Named pool (Operand.bytes n Meaning.array_tag) v = Unit {0}

-- so many bytes of the code, at an offset within it, are these
pub record Stand (code : List ℕ) (at : CodeOffset) (bytes : List ℕ) : Type 0 where
  pub within : at.0 + length bytes ≤ length code
  pub there : bytes_at (length bytes) code at.0 ≡ bytes

-- an operand that stands at an offset with its value: its bytes are there, and the pool entry that it names has its kind
pub record Stands (code pool : List ℕ) (o : Operand) (at : CodeOffset) (v : ℕ) (next : CodeOffset) : Type 0 where
  pub bytes : List ℕ
  pub drawn : Drawn o v bytes
  pub named : Named pool o v
  pub stand : Stand code at bytes
  pub place : next ≡ after (length bytes) at
