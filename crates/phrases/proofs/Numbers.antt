-- Decimal digits, one more or less.
use Prim.Native.Nat.{ℕ, zero, suc, ◌+◌, ◌-◌, ◌/◌, ◌%◌, ◌^◌, ◌≤◌, ◌<◌}
use mathlib.Core.Bool.{Bool, true, false}
use mathlib.Core.List.{List, [], ◌∷◌, ◌++◌}
use mathlib.Core.Path.{◌≡◌, refl, sym, ap, ◌∙◌}
use mathlib.Core.Logic.{◌⊎◌, inl, inr, ⊎_elim}
use native.Mathlib.Nat.{add-zero, add-suc, pow-suc, div-lt_iff_lt-mul}
use native.Mathlib.Omega.{arith}
use borrow.Author.Tests.{lt-ltb, le-ltb, ltb-true, ltb-false}
use lib.Dec.{ltb}
use lib.ListN.{length, length-append}
use Rattle.laws.specs.Bytes.{byte}
use Rattle.phrases.specs.Numbers.{digit, digits_within, decimal, signed}

pub one_or_more : (n : ℕ) → (n < 10) ⊎ (10 ≤ n)
one_or_more n = go (ltb n 10) refl
  where
    go : (t : Bool) → ltb n 10 ≡ t → (n < 10) ⊎ (10 ≤ n)
    go true e = inl (ltb-true n 10 e)
    go false e = inr (ltb-false n 10 e)

-- digits by their number: one, or those of a tenth and the last
digits_one : (k n : ℕ) → n < 10 → digits_within k n ≡ digit n ∷ []
unfolding digits_within
digits_one zero n h = refl
digits_one (suc k) n h = rw (lt-ltb _ _ h, digits_within)

digits_more : (k n : ℕ) → 10 ≤ n → digits_within (suc k) n ≡ digits_within k (n / 10) ++ digit (n % 10) ∷ []
unfolding digits_within
digits_more k n h = rw (le-ltb _ _ h, digits_within)

-- one step more changes nothing
enough : (k n : ℕ) → n ≤ k → digits_within (suc k) n ≡ digits_within k n
enough zero n h = digits_one 1 n (omega arith) ∙ sym (digits_one 0 n (omega arith))
enough (suc k) n h = go (enough k (n / 10) (omega arith)) (one_or_more n)
  where
    go : digits_within (suc k) (n / 10) ≡ digits_within k (n / 10) → (n < 10) ⊎ (10 ≤ n) → digits_within (suc (suc k)) n ≡ digits_within (suc k) n
    go e (inl l) = digits_one (suc (suc k)) n l ∙ sym (digits_one (suc k) n l)
    go e (inr l) = digits_more (suc k) n l ∙ ap (λ (s : List ℕ). s ++ digit (n % 10) ∷ []) e ∙ sym (digits_more k n l)

more : (d n : ℕ) → digits_within (n + d) n ≡ decimal n
unfolding decimal
more zero n = rw (add-zero)
more (suc d) n = rw (add-suc) (enough (n + d) n (omega arith) ∙ more d n)

pub decimal_digit : (n : ℕ) → n < 10 → decimal n ≡ digit n ∷ []
unfolding decimal
decimal_digit n h = digits_one n n h

pub decimal_more : (n : ℕ) → 10 ≤ n → decimal n ≡ decimal (n / 10) ++ digit (n % 10) ∷ []
unfolding decimal
decimal_more zero h = absurd (omega arith)
decimal_more (suc n) h =
    let rest : suc n / 10 + (n - suc n / 10) ≡ n = omega arith in
    digits_more n (suc n) h ∙ ap (λ (s : List ℕ). s ++ digit (suc n % 10) ∷ []) (ap (λ (k : ℕ). digits_within k (suc n / 10)) (sym rest) ∙ more (n - suc n / 10) (suc n / 10))

-- the length by the same two cases, and its bound
pub length_digit : (n : ℕ) → n < 10 → length (decimal n) ≡ 1
length_digit n h = ap length (decimal_digit n h)

pub length_more : (n : ℕ) → 10 ≤ n → length (decimal n) ≡ length (decimal (n / 10)) + 1
length_more n h = ap length (decimal_more n h) ∙ length-append (decimal (n / 10)) (digit (n % 10) ∷ [])

pub decimal_short : (k n : ℕ) → n < 10 ^ suc k → length (decimal n) ≤ suc k
decimal_short zero n h = omega (arith, length_digit n h)
decimal_short (suc k) n h = ⊎_elim (λ l. omega (arith, length_digit n l)) (λ l. omega (arith, length_more n l, decimal_short k (n / 10) ((div-lt_iff_lt-mul (omega arith)).1 (rw pow-suc at h)))) (one_or_more n)

pub number_short : (n : ℕ) → n < 2 ^ 64 → length (decimal n) ≤ 20
number_short n h = decimal_short 19 n (omega arith)

pub tenth_short : (n : ℕ) → 10 ≤ n → n < 2 ^ 64 → length (decimal (n / 10)) < 20
tenth_short n h small = omega (arith, length_more n h, number_short n small)

-- a word of two's complement by its sign
pub signed_plain : (word : ℕ) → word < 2 ^ 31 → signed word ≡ decimal word
unfolding signed
signed_plain word h = rw (lt-ltb _ _ h, signed)

pub signed_minus : (word : ℕ) → 2 ^ 31 ≤ word → signed word ≡ byte "-" ∷ decimal (2 ^ 32 - word)
unfolding signed
signed_minus word h = rw (le-ltb _ _ h, signed)
