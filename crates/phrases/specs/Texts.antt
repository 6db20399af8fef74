-- Texts in a table: each is ended by a bar, and none holds one.
use Rattle.std.specs.Prelude.{ℕ, zero, suc, Bool, true, false, not, List, [], ◌∷◌, ◌++◌, eqb}
use Rattle.laws.specs.Bytes.{byte, every}

abbrev pub is_bar : ℕ → Bool
is_bar b = eqb b (byte "|")

unfoldable pub table : List (List ℕ) → List ℕ
table [] = []
table (text ∷ texts) = text ++ byte "|" ∷ table texts

abbrev pub has_no_bar : List ℕ → Bool
has_no_bar text = every (λ (b : ℕ). not (is_bar b)) text

-- what stands before the first bar, and what follows it
unfoldable pub before_bar : List ℕ → List ℕ
before_bar [] = []
before_bar (b ∷ s) = elim (is_bar b) [ true ↦ [] | false ↦ b ∷ before_bar s ]

unfoldable pub after_bar : List ℕ → List ℕ
after_bar [] = []
after_bar (b ∷ s) = elim (is_bar b) [ true ↦ s | false ↦ after_bar s ]

-- the text with the number n in a table, and nothing past its end
unfoldable pub item : ℕ → List ℕ → List ℕ
item zero s = before_bar s
item (suc n) s = item n (after_bar s)
