-- The digits read back, from the last on.
use Prim.Native.Nat.{ℕ, zero, suc, ◌+◌, ◌-◌, ◌*◌, ◌/◌, ◌%◌, ◌≤◌, ◌<◌}
use mathlib.Core.List.{[], ◌∷◌, foldl-append}
use mathlib.Core.Logic.{⊎_elim}
use mathlib.Core.Path.{◌≡◌, ap, ◌∙◌}
use native.Mathlib.Nat.{le_refl}
use native.Mathlib.Omega.{arith}
use lib.ListN.{length, get_or, get_or-append}
use Rattle.laws.specs.Bytes.{byte}
use Rattle.phrases.specs.Numbers.{digit, decimal}
use Rattle.phrases.specs.Theorems.{value_of, ReadsBack, NoLeadingZero}
use Rattle.phrases.proofs.Numbers.{one_or_more, decimal_digit, decimal_more, length_digit, length_more}

value_within : (k n : ℕ) → n ≤ k → value_of (decimal n) ≡ n
value_within zero n h = ap value_of (decimal_digit n (omega arith)) ∙ omega arith
value_within (suc k) n h =
    ⊎_elim
    (λ l. ap value_of (decimal_digit n l) ∙ omega arith)
    (λ l. ap value_of (decimal_more n l) ∙ foldl-append (λ (value d : ℕ). value * 10 + (d - byte "0")) 0 (decimal (n / 10)) (digit (n % 10) ∷ []) ∙ omega (arith, value_within k (n / 10) (omega arith)))
    (one_or_more n)

pub reads_back : ReadsBack
reads_back n = value_within n n (le_refl n)

first_within : (k n : ℕ) → n ≤ k → 0 < n → (byte "0" < get_or (decimal n) 0 0) × (0 < length (decimal n))
first_within zero n h l = absurd (omega arith)
first_within (suc k) n h l =
    ⊎_elim
    (λ o. let d = decimal_digit n o in (rw (d) (omega arith), omega (arith, length_digit n o)))
    (λ m.
    let tenth = first_within k (n / 10) (omega arith) (omega arith) in
    (rw (decimal_more n m, get_or-append (decimal (n / 10)) (digit (n % 10) ∷ []) 0 0 tenth.1) tenth.0, omega (arith, length_more n m)))
    (one_or_more n)

pub no_leading_zero : NoLeadingZero
no_leading_zero n h = (first_within n n (le_refl n) h).0
