-- The operands of a record in words. What has no name is shown by its number.
use Rattle.std.specs.Prelude.{ℕ, ◌+◌, ◌%◌, ◌^◌, Bool, true, false, List, [], ◌++◌, eqb, get_or}
use Rattle.laws.specs.Bytes.{ascii}
use Rattle.opcodes.specs.declared.Follow.{Follow}
use Rattle.opcodes.specs.declared.Follow.TheVariants as follow
use Rattle.opcodes.specs.declared.Format.{Format}
use Rattle.opcodes.specs.declared.Format.TheVariants as format
use Rattle.opcodes.specs.declared.WideForm.{WideForm}
use Rattle.opcodes.specs.declared.WideForm.TheVariants as form
use Rattle.opcodes.specs.Wide.{wide_form_of}
use Rattle.records.specs.declared.Record.{Record}
use Rattle.phrases.specs.Numbers.{decimal, signed}
use Rattle.mnemonics.specs.Mnemonics.{mnemonic_of}
use Rattle.wording.specs.Names.{or_else, kind_name, array_type}

-- so many of something, in the singular or the plural
unfoldable pub counted : ℕ → List ℕ → List ℕ → List ℕ
counted n one many = decimal n ++ elim (eqb n 1) [ true ↦ one | false ↦ many ]

-- the offset that a jump leads to
abbrev pub target : ℕ → ℕ → ℕ
target offset jump = (offset + jump) % 2 ^ 32

-- The operands of a record.
abbrev pub increment : ℕ → ℕ → List ℕ
increment local by = decimal local ++ ascii ", " ++ signed by

abbrev pub named : List ℕ → ℕ → List ℕ
named name n = or_else name (decimal n)

-- an index with the name of its entry's kind
abbrev pub index_text : ℕ → ℕ → List ℕ
index_text index tag = ascii "#" ++ decimal index ++ ascii " " ++ named (kind_name tag) tag

abbrev pub indexed : List ℕ → ℕ → List ℕ
indexed pool index = index_text index (get_or pool index 0)

unfoldable pub followed : Follow → Record → List ℕ
followed follow.Nothing r = []
followed follow.Count r = ascii ", " ++ decimal r.b
followed follow.CountAndZero r = ascii ", " ++ decimal r.b
followed follow.TwoZeros r = []

-- the instruction that wide modifies
unfoldable pub modified : WideForm → Record → List ℕ
modified form.Local r = mnemonic_of r.kind ++ ascii " " ++ decimal r.a
modified form.Increment r = mnemonic_of r.kind ++ ascii " " ++ increment r.a r.b
modified form.NoInstruction r = decimal r.kind

abbrev pub otherwise : Record → List ℕ
otherwise r = ascii ", default " ++ decimal (target r.offset r.a)

unfoldable pub operands_of : Format → List ℕ → Record → List ℕ
operands_of format.Plain pool r = []
operands_of format.SignedByte pool r = signed r.a
operands_of format.SignedShort pool r = signed r.a
operands_of format.Local pool r = decimal r.a
operands_of (format.ImpliedLocal n) pool r = []
operands_of format.Increment pool r = increment r.a r.b
operands_of format.Jump2 pool r = decimal (target r.offset r.a)
operands_of format.Jump4 pool r = decimal (target r.offset r.a)
operands_of (format.Index1 kinds) pool r = indexed pool r.a
operands_of (format.Index2 kinds after) pool r = indexed pool r.a ++ followed after r
operands_of format.ArrayTag pool r = named (array_type r.a) r.a
operands_of format.Wide pool r = modified (wide_form_of r.kind) r
operands_of format.TableSwitch pool r = signed r.b ++ ascii " to " ++ signed r.c ++ otherwise r
operands_of format.LookupSwitch pool r = counted r.b (ascii " pair") (ascii " pairs") ++ otherwise r
operands_of format.NoInstruction pool r = []

abbrev pub has_operands : Format → Bool
has_operands format.Plain = false
has_operands format.SignedByte = true
has_operands format.SignedShort = true
has_operands format.Local = true
has_operands (format.ImpliedLocal n) = false
has_operands format.Increment = true
has_operands format.Jump2 = true
has_operands format.Jump4 = true
has_operands (format.Index1 kinds) = true
has_operands (format.Index2 kinds after) = true
has_operands format.ArrayTag = true
has_operands format.Wide = true
has_operands format.TableSwitch = true
has_operands format.LookupSwitch = true
has_operands format.NoInstruction = false
