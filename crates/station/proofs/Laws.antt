-- The count of a method's parameters fits its field.
use Prim.Native.Nat.{ℕ}
use mathlib.Core.List.{List}
use mathlib.Core.Path.{◌≡◌, refl}
use native.Mathlib.Omega.{arith}
use Rattle.std.specs.Prelude.{Ok, Err}
use Rattle.methods.specs.Texts.{Method, method_prefix, method_text}
use Rattle.methods.proofs.Entries.{few_parameters, whole_is_prefix}
use Rattle.station.specs.Station.{HasFew}

module _ (room : ℕ) (text : List ℕ) where
  pub few_in_prefix : HasFew (method_prefix room text)
  few_in_prefix = go (method_prefix room text) refl
    where
      go : (r : Method) → method_prefix room text ≡ r → HasFew r
      go (Ok m) e = omega (arith, few_parameters room text m.0.parameters m.0.returned m.1 e)
      go (Err r) e = tt

  pub few_in_whole : HasFew (method_text room text)
  few_in_whole = go (method_text room text) refl
    where
      go : (r : Method) → method_text room text ≡ r → HasFew r
      go (Ok m) e = omega (arith, few_parameters room text m.0.parameters m.0.returned m.1 ((whole_is_prefix room text m.0.parameters m.0.returned m.1).0 e).0)
      go (Err r) e = tt
