-- The lines of a listing, as javap's: an offset in a column of 8, the mnemonic in one of 16 where operands follow, then the
-- operands.
use Rattle.std.specs.Prelude.{ℕ, true, false, List, [], ◌∷◌, ◌++◌, ltb, length, get_or, Ok, Err}
use Rattle.laws.specs.Bytes.{ascii}
use Rattle.opcodes.specs.declared.Format.{Format}
use Rattle.opcodes.specs.Formats.{format_of}
use Rattle.records.specs.declared.Record.{Record}
use Rattle.records.specs.declared.SwitchEntry.{SwitchEntry}
use Rattle.refusals.specs.declared.Reason.TheVariants as reason
use Rattle.refusals.specs.Numbers.{refused}
use Rattle.output.specs.Output.{Output, output_after}
use Rattle.phrases.specs.Numbers.{decimal, signed, pad_left, pad_right}
use Rattle.mnemonics.specs.Mnemonics.{mnemonic_of}
use Rattle.wording.specs.Operands.{target, counted, named, operands_of, has_operands}
use Rattle.listing.specs.Meanings.{meaning_or_none}

-- The room that a line must find, whatever its own length. No line is longer
abbrev pub line_room : ℕ
line_room = 160

-- 33: the output is too short
unfoldable pub lining : List ℕ → ℕ → Output
lining line room = elim (ltb room line_room) [ true ↦ Err (refused reason.TooShort 0) | false ↦ Ok (length line) ]

-- the output afterwards
abbrev pub line_output : List ℕ → List ℕ → List ℕ
line_output line out = output_after (lining line (length out)) line out

abbrev pub newline : List ℕ
newline = 10 ∷ []

-- the mnemonic, in its column where operands follow
unfoldable pub instruction : Format → ℕ → List ℕ → Record → List ℕ
instruction f byte pool r =
    elim (has_operands f) [
      | true ↦ pad_right 16 (mnemonic_of byte) ++ operands_of f pool r
      | false ↦ named (mnemonic_of byte) byte
    ]

-- The line of an instruction, by the code's byte at the record's offset.
unfoldable pub shown_at : List ℕ → List ℕ → Record → List ℕ
shown_at code pool r =
    elim (ltb r.offset (length code)) [
      | true ↦ instruction (format_of (get_or code r.offset 0)) (get_or code r.offset 0) pool r
      | false ↦ ascii "past the end"
    ]

abbrev pub instruction_line : List ℕ → List ℕ → Record → List ℕ
instruction_line code pool r = pad_left 8 (decimal r.offset) ++ ascii ": " ++ shown_at code pool r ++ newline

-- The line of an entry of the switch at an offset. Its key ends under the first byte of the operands
abbrev pub entry_line : ℕ → SwitchEntry → List ℕ
entry_line offset entry = pad_left 27 (signed entry.key) ++ ascii ": " ++ decimal (target offset entry.jump) ++ newline

-- The lines on a method and on all.
abbrev pub accepted_line : ℕ → ℕ → List ℕ
accepted_line instructions entries =
    ascii "accepted, " ++ counted instructions (ascii " instruction") (ascii " instructions")
    ++ ascii ", " ++ counted entries (ascii " switch entry") (ascii " switch entries") ++ newline

unfoldable pub refusal : ℕ → ℕ → ℕ → List ℕ
refusal number place second = ascii "refused, " ++ decimal number ++ ascii " at " ++ decimal place ++ ascii ", second number " ++ decimal second

abbrev pub refused_line : ℕ → ℕ → ℕ → List ℕ
refused_line number place second =
    refusal number place second ++ ascii ": " ++ meaning_or_none number ++ newline

abbrev pub sum_line : ℕ → ℕ → ℕ → List ℕ
sum_line methods accepted refused =
    ascii "methods " ++ decimal methods ++ ascii ", accepted " ++ decimal accepted ++ ascii ", refused " ++ decimal refused ++ newline
