-- What a read becomes by the meaning of its bytes, with document 01's reasons and places: `at` is where the bytes start.
use Rattle.std.specs.Prelude.{ℕ, Bool, true, false, ◌&&◌, List, eqb, leb, Option, Some, None, Ok, Err}
use Rattle.refusals.specs.declared.Reason.{Reason}
use Rattle.refusals.specs.declared.Reason.TheVariants as reason
use Rattle.refusals.specs.Numbers.{refused}
use Rattle.read.specs.declared.CodeOffset.{CodeOffset}
use Rattle.read.specs.Reads.{Read, read_of}
use Rattle.pool.specs.declared.Kinds.{Kinds}
use Rattle.pool.specs.Entries.{Entry, entry_of_kind}
use Rattle.opcodes.specs.Operands.{Meaning, Operand}
use Rattle.operands.specs.Signed.{extended}

-- a read's number replaced by what it stands for
unfoldable pub signed_read : ℕ → Read → Read
signed_read n (Ok found) = Ok (extended n found.0, found.1)
signed_read n (Err r) = Err r

-- a read, refused for a fault if there is one
abbrev refused_for : Option Reason → Read → CodeOffset → Read
refused_for None found at = found
refused_for (Some why) found at = Err (refused why at)

unfoldable pub unless_fault : (ℕ → Option Reason) → CodeOffset → Read → Read
unless_fault fault at (Ok found) = refused_for (fault found.0) (Ok found) at
unless_fault fault at (Err r) = Err r

-- 6, 7: the pool's refusals
abbrev pub fault_in : Entry → Option Reason
fault_in (Ok tag) = None
fault_in (Err why) = Some why

abbrev pub index_fault : List ℕ → Kinds → ℕ → Option Reason
index_fault pool kinds index = fault_in (entry_of_kind pool kinds index)

-- 8: not zero
abbrev pub zero_fault : ℕ → Option Reason
zero_fault v = elim (eqb v 0) [ true ↦ None | false ↦ Some reason.NotZero ]

-- 9: JVMS 6.5 newarray: the tags are 4 T_BOOLEAN to 11 T_LONG
abbrev pub is_array_tag : ℕ → Bool
is_array_tag tag = leb 4 tag && leb tag 11

abbrev pub array_tag_fault : ℕ → Option Reason
array_tag_fault tag = elim (is_array_tag tag) [ true ↦ None | false ↦ Some reason.NoArrayTag ]

abbrev pub index_read : List ℕ → Kinds → CodeOffset → Read → Read
index_read pool kinds at found = unless_fault (index_fault pool kinds) at found

abbrev pub zero_read : CodeOffset → Read → Read
zero_read at found = unless_fault zero_fault at found

abbrev pub array_tag_read : CodeOffset → Read → Read
array_tag_read at found = unless_fault array_tag_fault at found

abbrev pub meant : List ℕ → ℕ → Meaning → CodeOffset → Read → Read
meant pool n Meaning.unsigned at found = found
meant pool n Meaning.signed at found = signed_read n found
meant pool n (Meaning.index kinds) at found = index_read pool kinds at found
meant pool n Meaning.zero at found = zero_read at found
meant pool n Meaning.array_tag at found = array_tag_read at found

-- An operand at an offset: one that the opcode implies is there without a byte
abbrev pub operand_at : List ℕ → List ℕ → Operand → CodeOffset → Read
operand_at code pool (Operand.implied v) at = Ok (v, at)
operand_at code pool (Operand.bytes n meaning) at = meant pool n meaning at (read_of n code at)
