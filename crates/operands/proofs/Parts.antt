-- An answer is one value or one refusal, and never both; and by parts, what stands there and the offset after it, or the reason
-- and the place.
use mathlib.Core.Path.{◌≡◌, ap}
use Rattle.std.specs.Prelude.{Result, Ok, Err}
use Rattle.refusals.specs.declared.Reason.{Reason}
use Rattle.refusals.specs.declared.Refusal.{Refusal}
use Rattle.refusals.specs.Numbers.{refused}
use Rattle.read.specs.declared.CodeOffset.{CodeOffset}

module _ {A B : Type 0} where
  pub clash : {a : A} {b : B} → ◌≡◌ {A = Result A B} (Err b) (Ok a) → ⊥
  clash e = cc

  pub same_value : {a b : A} → ◌≡◌ {A = Result A B} (Ok a) (Ok b) → a ≡ b
  same_value e = cc

  pub same_refusal : {a b : B} → ◌≡◌ {A = Result A B} (Err a) (Err b) → a ≡ b
  same_refusal e = cc

abbrev pub Answer : Type 0 → Type 0
Answer A = Result (A × CodeOffset) (Refusal CodeOffset)

module _ {A : Type 0} {a b : A} {next end : CodeOffset} (e : ◌≡◌ {A = Answer A} (Ok (a, next)) (Ok (b, end))) where
  pub same_first : a ≡ b
  same_first = ap (λ (p : A × CodeOffset). p.0) (same_value e)

  pub same_end : next ≡ end
  same_end = ap (λ (p : A × CodeOffset). p.1) (same_value e)

module _ {A : Type 0} {why other : Reason} {place there : CodeOffset} (e : ◌≡◌ {A = Answer A} (Err (refused why place)) (Err (refused other there))) where
  pub same_reason : why ≡ other
  same_reason = ap (λ (r : Refusal CodeOffset). r.reason) (same_refusal e)

  pub same_place : place ≡ there
  same_place = ap (λ (r : Refusal CodeOffset). r.place) (same_refusal e)
