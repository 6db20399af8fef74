-- JVMS 6.5: the operands of an ordinary instruction, in the order in which its format draws them after the opcode.
use Rattle.std.specs.Prelude.{ℕ, List, [], ◌∷◌}
use Rattle.pool.specs.declared.Kinds.{Kinds}
use Rattle.opcodes.specs.declared.Follow.{Follow}
use Rattle.opcodes.specs.declared.Follow.TheVariants as follow
use Rattle.opcodes.specs.declared.Format.{Format}
use Rattle.opcodes.specs.declared.Format.TheVariants as format
use Rattle.opcodes.specs.declared.WideForm.{WideForm}
use Rattle.opcodes.specs.declared.WideForm.TheVariants as form

-- what the bytes of an operand are: a number, a signed number, an index of the pool, zero, or the tag of a primitive
-- array's elements
pub data Meaning : Type 0 where
  unsigned : Meaning
  signed : Meaning
  index : Kinds → Meaning
  zero : Meaning
  array_tag : Meaning

-- an operand that the opcode implies has no bytes
pub data Operand : Type 0 where
  implied : ℕ → Operand
  bytes : ℕ → Meaning → Operand

-- what follows an opcode: its operands, or what `wide`, a switch or no instruction is
pub data Layout : Type 0 where
  operands : List Operand → Layout
  wide : Layout
  table_switch : Layout
  lookup_switch : Layout
  none : Layout

-- after an index: a count, and bytes that must be zero
abbrev pub follow_of : Follow → List Operand
follow_of follow.Nothing = []
follow_of follow.Count = Operand.bytes 1 Meaning.unsigned ∷ []
follow_of follow.CountAndZero = Operand.bytes 1 Meaning.unsigned ∷ Operand.bytes 1 Meaning.zero ∷ []
follow_of follow.TwoZeros = Operand.bytes 2 Meaning.zero ∷ []

-- a local and the number that is added to it, of n bytes each
abbrev pub increment_of : ℕ → List Operand
increment_of n = Operand.bytes n Meaning.unsigned ∷ Operand.bytes n Meaning.signed ∷ []

abbrev pub layout_of : Format → Layout
layout_of format.Plain = Layout.operands []
layout_of format.SignedByte = Layout.operands (Operand.bytes 1 Meaning.signed ∷ [])
layout_of format.SignedShort = Layout.operands (Operand.bytes 2 Meaning.signed ∷ [])
layout_of format.Local = Layout.operands (Operand.bytes 1 Meaning.unsigned ∷ [])
layout_of (format.ImpliedLocal n) = Layout.operands (Operand.implied n ∷ [])
layout_of format.Increment = Layout.operands (increment_of 1)
layout_of format.Jump2 = Layout.operands (Operand.bytes 2 Meaning.signed ∷ [])
layout_of format.Jump4 = Layout.operands (Operand.bytes 4 Meaning.signed ∷ [])
layout_of (format.Index1 kinds) = Layout.operands (Operand.bytes 1 (Meaning.index kinds) ∷ [])
layout_of (format.Index2 kinds after) = Layout.operands (Operand.bytes 2 (Meaning.index kinds) ∷ follow_of after)
layout_of format.ArrayTag = Layout.operands (Operand.bytes 1 Meaning.array_tag ∷ [])
layout_of format.Wide = Layout.wide
layout_of format.TableSwitch = Layout.table_switch
layout_of format.LookupSwitch = Layout.lookup_switch
layout_of format.NoInstruction = Layout.none

-- what follows the byte after wide: its operands, or nothing where wide does not modify it
pub data WideLayout : Type 0 where
  operands : List Operand → WideLayout
  none : WideLayout

-- after wide: a local has two bytes, and so has the number by which iinc increments it
abbrev pub wide_layout_of : WideForm → WideLayout
wide_layout_of form.Local = WideLayout.operands (Operand.bytes 2 Meaning.unsigned ∷ [])
wide_layout_of form.Increment = WideLayout.operands (increment_of 2)
wide_layout_of form.NoInstruction = WideLayout.none
