-- The reason with a number, which undoes `number_of`.
use Rattle.std.specs.Prelude.{ℕ, ◌≡◌, List, [], ◌∷◌, eqb, true, false}
use Rattle.std.proofs.Common.{refl, ap, sym, ◌∙◌}
use Rattle.refusals.specs.declared.Reason.{Reason}
use Rattle.refusals.specs.declared.Reason.TheVariants as reason
use Rattle.refusals.specs.Numbers.{number_of}
use Rattle.refusals.specs.Theorems.{NumbersDiffer}

-- the first reason of a list with this number
abbrev first_with : ℕ → List Reason → Reason
first_with n [] = reason.NotSorted
first_with n (r ∷ rs) = elim (eqb n (number_of r)) [ true ↦ r | false ↦ first_with n rs ]

abbrev with_number : ℕ → Reason
with_number n =
    first_with n (
    reason.CodeTooLong
    ∷ reason.PoolTooLong
    ∷ reason.PastEnd
    ∷ reason.NotAnInstruction
    ∷ reason.NotAfterWide
    ∷ reason.NoEntry
    ∷ reason.WrongKind
    ∷ reason.NotZero
    ∷ reason.NoArrayTag
    ∷ reason.BadBounds
    ∷ reason.NegativeCount
    ∷ reason.BelowZero
    ∷ reason.NoTarget
    ∷ reason.NoEntryLeft
    ∷ reason.NoRecordLeft
    ∷ reason.OverTheLimit
    ∷ reason.TypeDue
    ∷ reason.NoSuchType
    ∷ reason.Dimension256
    ∷ reason.EmptySegment
    ∷ reason.BarredByte
    ∷ reason.NameNotEnded
    ∷ reason.LoneSemicolon
    ∷ reason.NoParenthesis
    ∷ reason.NoPartLeft
    ∷ reason.LeftOver
    ∷ reason.NameNotValid
    ∷ reason.TooShort
    ∷ reason.BrokenParts
    ∷ reason.NotSorted
    ∷ [])

undone : (r : Reason) → with_number (number_of r) ≡ r
undone reason.CodeTooLong = refl
undone reason.PoolTooLong = refl
undone reason.PastEnd = refl
undone reason.NotAnInstruction = refl
undone reason.NotAfterWide = refl
undone reason.NoEntry = refl
undone reason.WrongKind = refl
undone reason.NotZero = refl
undone reason.NoArrayTag = refl
undone reason.BadBounds = refl
undone reason.NegativeCount = refl
undone reason.BelowZero = refl
undone reason.NoTarget = refl
undone reason.NoEntryLeft = refl
undone reason.NoRecordLeft = refl
undone reason.OverTheLimit = refl
undone reason.TypeDue = refl
undone reason.NoSuchType = refl
undone reason.Dimension256 = refl
undone reason.EmptySegment = refl
undone reason.BarredByte = refl
undone reason.NameNotEnded = refl
undone reason.LoneSemicolon = refl
undone reason.NoParenthesis = refl
undone reason.NoPartLeft = refl
undone reason.LeftOver = refl
undone reason.NameNotValid = refl
undone reason.TooShort = refl
undone reason.BrokenParts = refl
undone reason.NotSorted = refl

pub numbers_differ : NumbersDiffer
numbers_differ r s same = sym (undone r) ∙ ap with_number same ∙ undone s
