-- Numbers as texts, and texts in columns.
use Rattle.std.specs.Prelude.{ℕ, zero, suc, ◌+◌, ◌-◌, ◌/◌, ◌%◌, ◌^◌, true, false, List, [], ◌∷◌, ◌++◌, ltb, length, replicate}
use Rattle.laws.specs.Bytes.{byte}

abbrev pub digit : ℕ → ℕ
digit d = byte "0" + d

-- the decimal digits of n, in at most so many steps
unfoldable pub digits_within : ℕ → ℕ → List ℕ
digits_within zero n = digit n ∷ []
digits_within (suc k) n = elim (ltb n 10) [ true ↦ digit n ∷ [] | false ↦ digits_within k (n / 10) ++ digit (n % 10) ∷ [] ]

-- n steps are always enough
unfoldable pub decimal : ℕ → List ℕ
decimal n = digits_within n n

-- a word of two's complement
unfoldable pub signed : ℕ → List ℕ
signed word = elim (ltb word (2 ^ 31)) [ true ↦ decimal word | false ↦ byte "-" ∷ decimal (2 ^ 32 - word) ]

abbrev pub blanks : ℕ → List ℕ
blanks n = replicate n (byte " ")

-- a text in a column of so many bytes, at its right or at its left
unfoldable pub pad_left : ℕ → List ℕ → List ℕ
pad_left width text = blanks (width - length text) ++ text

unfoldable pub pad_right : ℕ → List ℕ → List ℕ
pad_right width text = text ++ blanks (width - length text)
