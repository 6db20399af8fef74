-- Jumps that land on an instruction, and the first that does not. Nothing here computes.
use Rattle.std.specs.Prelude.{ℕ, ◌≡◌, ℤ, pos, negsuc, length}
use mathlib.Core.List.{List, ◌∷◌, ◌++◌, Memᴰ}
use Rattle.laws.specs.Bytes.{In}
use Rattle.refusals.specs.declared.Reason.{Reason}
use Rattle.refusals.specs.Numbers.{number_of}
use Rattle.read.specs.declared.CodeOffset.{CodeOffset}
use Rattle.jumps.specs.Jumps.{Jumps, target_of, starts_of}

-- a target is the start of an instruction
pub record Lands (starts : List ℕ) (target : ℤ) : Type 0 where
  pub start : ℕ
  pub is : target ≡ pos start
  pub listed : In start starts

abbrev pub AllLand : List ℕ → CodeOffset → List ℕ → Type 0
AllLand starts at words = (word : ℕ) → In word words → Lands starts (target_of at word)

-- a target fails for a reason, told by its number
pub data Fails (starts : List ℕ) (target : ℤ) (why : Reason) : Type 0 where
  below_zero : (t : ℕ) → target ≡ negsuc t → number_of why ≡ 12 → Fails starts target why
  nowhere : (t : ℕ) → target ≡ pos t → (In t starts → ⊥) → number_of why ≡ 13 → Fails starts target why

-- the jump that fails, with every jump before it landing
pub record FirstFailing (js : List Jumps) (why : Reason) (place : CodeOffset) (second : ℕ) : Type 0 where
  pub before : List Jumps
  pub at : Jumps
  pub after : List Jumps
  pub split : js ≡ before ++ (at ∷ after)
  pub land : (j : Jumps) → Memᴰ j before → AllLand (starts_of js) j.at j.words
  pub earlier : List ℕ
  pub word : ℕ
  pub later : List ℕ
  pub words : at.words ≡ earlier ++ (word ∷ later)
  pub earlier_land : AllLand (starts_of js) at.at earlier
  pub fails : Fails (starts_of js) (target_of at.at word) why
  pub placed : place ≡ at.at
  pub counted : second ≡ length earlier
