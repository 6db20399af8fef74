-- The pool indexes that an instruction names: those operands of its format that are indexes.
use Rattle.std.specs.Prelude.{ℕ, ◌+◌, List, [], ◌∷◌, ◌++◌, get_or}
use Rattle.read.specs.declared.CodeOffset.{CodeOffset}
use Rattle.read.specs.Reads.{big_endian, bytes_at}
use Rattle.opcodes.specs.Formats.{format_of}
use Rattle.opcodes.specs.Operands.{Meaning, Operand, Layout, layout_of}

-- the index that an operand of n bytes at an offset is, if it is one
abbrev pub index_of : List ℕ → ℕ → ℕ → Meaning → List ℕ
index_of code n at Meaning.unsigned = []
index_of code n at Meaning.signed = []
index_of code n at (Meaning.index kinds) = big_endian (bytes_at n code at) ∷ []
index_of code n at Meaning.zero = []
index_of code n at Meaning.array_tag = []

unfoldable pub indexes_from : List ℕ → ℕ → List Operand → List ℕ
indexes_from code at [] = []
indexes_from code at (Operand.implied v ∷ os) = indexes_from code at os
indexes_from code at (Operand.bytes n meaning ∷ os) = index_of code n at meaning ++ indexes_from code (at + n) os

-- `wide` and the switches name none
abbrev pub indexes_in : List ℕ → ℕ → Layout → List ℕ
indexes_in code at (Layout.operands os) = indexes_from code at os
indexes_in code at Layout.wide = []
indexes_in code at Layout.table_switch = []
indexes_in code at Layout.lookup_switch = []
indexes_in code at Layout.none = []

-- the indexes that the instruction at an offset names
abbrev pub names_at : List ℕ → CodeOffset → List ℕ
names_at code at = indexes_in code (at.0 + 1) (layout_of (format_of (get_or code at.0 0)))
