-- Sign extension as the code finds it.
use Prim.Native.Nat.{ℕ, zero, suc, ◌%◌, ◌+◌, ◌-◌, ◌*◌, ◌/◌, ◌^◌, ◌≤◌, ◌<◌}
use mathlib.Core.Bool.{Bool, true, false}
use mathlib.Core.Path.{◌≡◌, refl}
use native.Mathlib.Nat.{mod-eq_of_lt}
use native.Mathlib.Omega.{arith}
use borrow.Author.Tests.{lt-ltb, le-ltb}
use lib.Dec.{ltb}
use Rattle.operands.specs.Signed.{extended}
use Rattle.operands.specs.Theorems.{WordKept}

module _ (n v : ℕ) where
  pub stays : v % 256 ^ n < 256 ^ n / 2 → v % 256 ^ n ≡ extended n v
  unfolding extended
  stays h = rw (lt-ltb _ _ h, extended)

  pub lifted : 256 ^ n / 2 ≤ v % 256 ^ n → v % 256 ^ n + (256 ^ 4 - 256 ^ n) ≡ extended n v
  unfolding extended
  lifted h = rw (le-ltb _ _ h, extended)

-- the range of n bytes, as the code finds it
range : (n : ℕ) → n ≤ 4 → (1 * 2 ^ (8 * n)) % 2 ^ 64 ≡ 256 ^ n
range zero h = refl
range (suc zero) h = refl
range (suc (suc zero)) h = refl
range (suc (suc (suc zero))) h = refl
range (suc (suc (suc (suc zero)))) h = refl
range (suc (suc (suc (suc (suc n))))) h = absurd (omega arith)

module _ (n v : ℕ) (h : n ≤ 4) where
  pub low_part : v % ((1 * 2 ^ (8 * n)) % 2 ^ 64) < (1 * 2 ^ (8 * n)) % 2 ^ 64 / 2 → v % ((1 * 2 ^ (8 * n)) % 2 ^ 64) ≡ extended n v
  low_part = rw (range n h) (stays n v)

  pub high_part : (1 * 2 ^ (8 * n)) % 2 ^ 64 / 2 ≤ v % ((1 * 2 ^ (8 * n)) % 2 ^ 64) → v % ((1 * 2 ^ (8 * n)) % 2 ^ 64) + (0x1_0000_0000 - (1 * 2 ^ (8 * n)) % 2 ^ 64) ≡ extended n v
  high_part = rw (range n h) (lifted n v)

-- a word is a signed number of four bytes already
pub word_kept : WordKept
unfolding extended
word_kept v h = go (ltb (v % 256 ^ 4) (256 ^ 4 / 2)) refl
  where
    go : (t : Bool) → ltb (v % 256 ^ 4) (256 ^ 4 / 2) ≡ t → extended 4 v ≡ v
    go true e = rw (e, extended) (mod-eq_of_lt h)
    go false e =
        let all : v % 256 ^ 4 ≡ v = mod-eq_of_lt h in
        rw (e, extended) (omega arith)
