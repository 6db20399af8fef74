-- What the digits of a number are worth. The proofs are in proofs/Value.antt.
use Rattle.std.specs.Prelude.{ℕ, ◌+◌, ◌-◌, ◌*◌, ◌<◌, ◌≡◌, get_or}
use mathlib.Core.List.{List, foldl}
use Rattle.laws.specs.Bytes.{byte}
use Rattle.phrases.specs.Numbers.{decimal}

-- the number that decimal digits stand for
abbrev pub value_of : List ℕ → ℕ
value_of digits = foldl (λ (value digit : ℕ). value * 10 + (digit - byte "0")) 0 digits

-- proved as `reads_back`
abbrev pub ReadsBack : Type 0
ReadsBack = (n : ℕ) → value_of (decimal n) ≡ n

-- proved as `no_leading_zero`
abbrev pub NoLeadingZero : Type 0
NoLeadingZero = (n : ℕ) → 0 < n → byte "0" < get_or (decimal n) 0 0
