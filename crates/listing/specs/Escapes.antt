-- A text that a terminal may show, whatever bytes it holds: every byte but 20 to 7e, and the backslash itself, as \xNN.
use Rattle.std.specs.Prelude.{ℕ, ◌+◌, ◌-◌, ◌/◌, ◌%◌, Bool, true, false, not, ◌&&◌, List, [], ◌∷◌, ◌++◌, eqb, leb, ltb, length, Ok, Err}
use Rattle.laws.specs.Bytes.{byte}
use Rattle.refusals.specs.declared.Reason.TheVariants as reason
use Rattle.refusals.specs.Numbers.{refused}
use Rattle.output.specs.Output.{Output, output_after}

abbrev pub backslash : ℕ
backslash = 0x5c

abbrev pub is_plain : ℕ → Bool
is_plain b = leb 0x20 b && leb b 0x7e && not (eqb b backslash)

unfoldable pub hex_digit : ℕ → ℕ
hex_digit d = elim (ltb d 10) [ true ↦ byte "0" + d | false ↦ byte "a" + (d - 10) ]

unfoldable pub shown_byte : ℕ → List ℕ
shown_byte b = elim (is_plain b) [ true ↦ b ∷ [] | false ↦ backslash ∷ byte "x" ∷ hex_digit (b / 16) ∷ hex_digit (b % 16) ∷ [] ]

unfoldable pub shown_text : List ℕ → List ℕ
shown_text [] = []
shown_text (b ∷ text) = shown_byte b ++ shown_text text

-- 33: the output has fewer than 4 bytes for each of the text's
unfoldable pub showing : List ℕ → ℕ → Output
showing text room = elim (ltb (room / 4) (length text)) [ true ↦ Err (refused reason.TooShort 0) | false ↦ Ok (length (shown_text text)) ]

-- the output afterwards
abbrev pub shown_output : List ℕ → List ℕ → List ℕ
shown_output text out = output_after (showing text (length out)) (shown_text text) out
