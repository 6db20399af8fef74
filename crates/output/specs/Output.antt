-- Writing bytes into a lent output, document 01, "Texts".
use Rattle.std.specs.Prelude.{ℕ, true, false, List, ◌++◌, leb, length, drop, Result, Ok, Err}
use Rattle.refusals.specs.declared.Reason.TheVariants as reason
use Rattle.refusals.specs.declared.Refusal.{Refusal}
use Rattle.refusals.specs.Numbers.{refused}

-- What a writing answers: the length written, or a refusal.
abbrev pub Output : Type 0
Output = Result ℕ (Refusal ℕ)

-- The answer where these bytes are to be written into so much room. 33: the output is too short
unfoldable pub writing : List ℕ → ℕ → Output
writing bytes room = elim (leb (length bytes) room) [ true ↦ Ok (length bytes) | false ↦ Err (refused reason.TooShort 0) ]

-- The output afterwards: the bytes in front and those past them as they were, or nothing changed
unfoldable pub output_after : Output → List ℕ → List ℕ → List ℕ
output_after (Ok n) bytes out = bytes ++ drop n out
output_after (Err r) bytes out = out
