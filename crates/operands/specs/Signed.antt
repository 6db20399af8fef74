-- Signed numbers: two's complement, in n bytes and in a word of 32 bits.
use Rattle.std.specs.Prelude.{ℕ, suc, ◌+◌, ◌-◌, ◌/◌, ◌%◌, ◌^◌, true, false, ltb, ℤ, pos, negsuc, ◌-ℤ◌}

-- the signed number that a number of n bytes stands for
unfoldable pub signed_in : ℕ → ℕ → ℤ
signed_in n v = elim (ltb v (256 ^ n / 2)) [ true ↦ pos v | false ↦ pos v -ℤ pos (256 ^ n) ]

abbrev pub signed_of : ℕ → ℤ
signed_of word = signed_in 4 word

-- the other way: the word that stores a signed number
abbrev pub word_of : ℤ → ℕ
word_of (pos n) = n % 256 ^ 4
word_of (negsuc n) = 256 ^ 4 - suc (n % 256 ^ 4)

-- JVMS 6.5, as in bipush: the low n bytes of v, sign-extended to an int
unfoldable pub extended : ℕ → ℕ → ℕ
extended n v = elim (ltb (v % 256 ^ n) (256 ^ n / 2)) [ true ↦ v % 256 ^ n | false ↦ v % 256 ^ n + (256 ^ 4 - 256 ^ n) ]
