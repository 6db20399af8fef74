-- The limits of the code and of the pool table, taken apart.
use Prim.Native.Nat.{ℕ, ◌≤◌, ◌<◌}
use mathlib.Core.Bool.{Bool, true, false}
use mathlib.Core.List.{List}
use mathlib.Core.Path.{◌≡◌, refl, sym, ◌∙◌}
use borrow.Author.Tests.{le-leb, lt-leb, leb-true, leb-false}
use lib.Dec.{leb}
use lib.ListN.{length}
use Rattle.refusals.specs.declared.Reason.TheVariants as reason
use Rattle.bytecode.specs.Decoding.{Decision, at_once, code_limit, pool_limit, limited}

module _ (code pool : List ℕ) (answer : Decision) where
  pub over_code : code_limit < length code → limited code pool answer ≡ at_once reason.CodeTooLong
  unfolding limited
  over_code h = rw (lt-leb _ _ h, limited)

  pub over_pool : length code ≤ code_limit → pool_limit < length pool → limited code pool answer ≡ at_once reason.PoolTooLong
  unfolding limited
  over_pool h k = rw (le-leb _ _ h, lt-leb _ _ k, limited)

  pub both_within : length code ≤ code_limit → length pool ≤ pool_limit → limited code pool answer ≡ answer
  unfolding limited
  both_within h k = rw (le-leb _ _ h, le-leb _ _ k, limited)

  -- the three ways to an answer
  pub data Limits (r : Decision) : Type 0 where
    long_code : code_limit < length code → r ≡ at_once reason.CodeTooLong → Limits r
    long_pool : length code ≤ code_limit → pool_limit < length pool → r ≡ at_once reason.PoolTooLong → Limits r
    within : length code ≤ code_limit → length pool ≤ pool_limit → r ≡ answer → Limits r

  pub by_limits : {r : Decision} → limited code pool answer ≡ r → Limits r
  by_limits {r = r} e = go (leb (length code) code_limit) refl (leb (length pool) pool_limit) refl
    where
      go : (c : Bool) → leb (length code) code_limit ≡ c → (p : Bool) → leb (length pool) pool_limit ≡ p → Limits r
      go true c true p = let h = leb-true _ _ c in let k = leb-true _ _ p in Limits.within h k (sym e ∙ both_within h k)
      go true c false p = let h = leb-true _ _ c in let k = leb-false _ _ p in Limits.long_pool h k (sym e ∙ over_pool h k)
      go false c b p = let h = leb-false _ _ c in Limits.long_code h (sym e ∙ over_code h)
