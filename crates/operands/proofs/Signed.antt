-- Sign extension keeps the number that the bytes stand for.
use Prim.Native.Nat.{ℕ, zero, suc, ◌+◌, ◌-◌, ◌/◌, ◌%◌, ◌^◌, ◌≤◌, ◌<◌}
use mathlib.Core.Bool.{Bool, true, false}
use mathlib.Core.Logic.{inl, inr}
use mathlib.Core.Path.{◌≡◌, refl, sym, ap, ◌∙◌, subst}
use native.Mathlib.Nat.{mod-eq_of_lt}
use native.Mathlib.Omega.{arith}
use borrow.Author.Tests.{lt-ltb, le-ltb, ltb-true, ltb-false}
use lib.Dec.{ltb}
use lib.IntN.{pos, negsuc, ◌-ℤ◌}
use Rattle.operands.specs.Signed.{signed_in, signed_of, extended}
use Rattle.operands.specs.Theorems.{SignKept}
use Rattle.operands.proofs.Laws.{stays, lifted}

-- a difference of two naturals that is below zero
pub below_zero : (a b : ℕ) → a < b → pos a -ℤ pos b ≡ negsuc (b - suc a)
below_zero a zero h = absurd (omega arith)
below_zero a (suc b) h = rw (lt-ltb _ _ h)

module _ (n v : ℕ) where
  pub signed_low : v < 256 ^ n / 2 → signed_in n v ≡ pos v
  unfolding signed_in
  signed_low h = rw (lt-ltb _ _ h, signed_in)

  pub signed_high : 256 ^ n / 2 ≤ v → v < 256 ^ n → signed_in n v ≡ negsuc (256 ^ n - suc v)
  unfolding signed_in
  signed_high h l = rw (le-ltb _ _ h, signed_in) (below_zero v (256 ^ n) l)

-- in n bytes with a sign bit, fewer than a word has
module _ (n v : ℕ) (few : 256 ^ n ≤ 256 ^ 2) (some : 1 ≤ 256 ^ n / 2) (h : v < 256 ^ n) where
  kept : signed_of (extended n v) ≡ signed_in n v
  kept = go (ltb v (256 ^ n / 2)) refl
    where
      all : v % 256 ^ n ≡ v
      all = mod-eq_of_lt h

      go : (t : Bool) → ltb v (256 ^ n / 2) ≡ t → signed_of (extended n v) ≡ signed_in n v
      go true e =
          let low : v < 256 ^ n / 2 = ltb-true _ _ e in
          let is : extended n v ≡ v = sym (stays n v (rw all low)) ∙ all in
          ap signed_of is ∙ signed_low 4 v (omega arith) ∙ sym (signed_low n v low)
      go false e =
          let high : 256 ^ n / 2 ≤ v = ltb-false _ _ e in
          let is : extended n v ≡ v + (256 ^ 4 - 256 ^ n) = sym (lifted n v (rw all high)) ∙ ap (λ (x : ℕ). x + (256 ^ 4 - 256 ^ n)) all in
          ap signed_of is ∙ signed_high 4 (v + (256 ^ 4 - 256 ^ n)) (omega arith) (omega arith) ∙ ap negsuc (omega arith) ∙ sym (signed_high n v high h)

pub sign_kept : SignKept
sign_kept n v (inl e) h = subst (λ k. v < 256 ^ k → signed_of (extended k v) ≡ signed_in k v) (sym e) (λ l. kept 1 v (omega arith) (omega arith) l) h
sign_kept n v (inr e) h = subst (λ k. v < 256 ^ k → signed_of (extended k v) ≡ signed_in k v) (sym e) (λ l. kept 2 v (omega arith) (omega arith) l) h
