-- Document 01's numbers of the refusals.
use Rattle.std.specs.Prelude.{ℕ}
use Rattle.refusals.specs.declared.Reason.{Reason}
use Rattle.refusals.specs.declared.Reason.TheVariants as reason
use Rattle.refusals.specs.declared.Refusal.{Refusal}

abbrev pub number_of : Reason → ℕ
number_of reason.CodeTooLong = 1
number_of reason.PoolTooLong = 2
number_of reason.PastEnd = 3
number_of reason.NotAnInstruction = 4
number_of reason.NotAfterWide = 5
number_of reason.NoEntry = 6
number_of reason.WrongKind = 7
number_of reason.NotZero = 8
number_of reason.NoArrayTag = 9
number_of reason.BadBounds = 10
number_of reason.NegativeCount = 11
number_of reason.BelowZero = 12
number_of reason.NoTarget = 13
number_of reason.NoEntryLeft = 14
number_of reason.NoRecordLeft = 15
number_of reason.OverTheLimit = 21
number_of reason.TypeDue = 22
number_of reason.NoSuchType = 23
number_of reason.Dimension256 = 24
number_of reason.EmptySegment = 25
number_of reason.BarredByte = 26
number_of reason.NameNotEnded = 27
number_of reason.LoneSemicolon = 28
number_of reason.NoParenthesis = 29
number_of reason.NoPartLeft = 30
number_of reason.LeftOver = 31
number_of reason.NameNotValid = 32
number_of reason.TooShort = 33
number_of reason.BrokenParts = 34
number_of reason.NotSorted = 35

-- a refusal for this reason at a place
abbrev pub refused : {Place : Type 0} → Reason → Place → Refusal Place
refused r at = record { reason = r; place = at }
