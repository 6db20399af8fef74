-- Class names as document 01 reads them, with the reasons and places of their refusals. `at` is the place in the whole
-- text of the first byte of what is left. specs/Rules.antt has the rule itself, and specs/Theorems.antt says that the
-- two agree.
use Rattle.std.specs.Prelude.{ℕ, ◌+◌, ◌-◌, Bool, true, false, not, ◌&&◌, List, [], ◌∷◌, eqb, ltb, length, get_or, Result, Ok, Err}
use Rattle.refusals.specs.declared.Reason.TheVariants as reason
use Rattle.refusals.specs.declared.Refusal.{Refusal}
use Rattle.refusals.specs.Numbers.{refused}
use Rattle.laws.specs.Bytes.{byte, ascii, one_of, within_limit}
use Rattle.class_names.specs.declared.NameEnd.{NameEnd}
use Rattle.class_names.specs.declared.NameEnd.TheVariants as name_end

-- The bytes that matter in a class name.
abbrev pub is_separator : ℕ → Bool
is_separator b = one_of (ascii "/;") b

abbrev pub is_barred : ℕ → Bool
is_barred b = one_of (ascii ".[<>") b

-- Segments, of which the first may have begun before: up to a ; after a segment that has a byte, or to the text's end.
-- 25: / or ; opens a segment. 26: one of . [ < >
unfoldable pub name_from : Bool → ℕ → List ℕ → Result NameEnd (Refusal ℕ)
name_from started at [] = Ok (name_end.TextEnd at)
name_from started at (b ∷ s) =
    elim (is_separator b) [
      | true ↦ elim started [
        | false ↦ Err (refused reason.EmptySegment at)
        | true ↦ elim (eqb b (byte ";")) [ true ↦ Ok (name_end.Semicolon at) | false ↦ name_from false (at + 1) s ]
      ]
      | false ↦ elim (is_barred b) [ true ↦ Err (refused reason.BarredByte at) | false ↦ name_from true (at + 1) s ]
    ]

-- A class name alone: the text's end ends it, also after a / or at once. 28: a ; that opens no segment
unfoldable pub alone_of : Result NameEnd (Refusal ℕ) → Result (Unit {0}) (Refusal ℕ)
alone_of (Ok (name_end.Semicolon e)) = Err (refused reason.LoneSemicolon e)
alone_of (Ok (name_end.TextEnd e)) = Ok tt
alone_of (Err r) = Err r

-- 21: the text is over the limit
unfoldable pub class_name : List ℕ → Result (Unit {0}) (Refusal ℕ)
class_name s = elim (within_limit s) [ true ↦ alone_of (name_from false 0 s) | false ↦ Err (refused reason.OverTheLimit 0) ]

-- A class name without the ; that ends it in a descriptor: its reading comes to the text's end, and the last segment has
-- a byte
abbrev pub ends_in_segment : List ℕ → Bool
ends_in_segment s = ltb 0 (length s) && not (eqb (get_or s (length s - 1) 0) (byte "/"))

unfoldable pub is_named_by : List ℕ → Result NameEnd (Refusal ℕ) → Bool
is_named_by s (Ok (name_end.Semicolon e)) = false
is_named_by s (Ok (name_end.TextEnd e)) = ends_in_segment s
is_named_by s (Err r) = false

abbrev pub is_class_name : List ℕ → Bool
is_class_name s = is_named_by s (name_from false 0 s)
