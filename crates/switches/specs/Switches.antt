-- The two switches of JVMS 6.5, read in order with document 01's reasons and places. `at` is the offset after the opcode.
use Rattle.std.specs.Prelude.{ℕ, zero, suc, ◌+◌, ◌*◌, ◌/◌, true, false, List, leb, ℤ, pos, negsuc, ◌-ℤ◌, Option, Some, None, Result, Ok, Err}
use Rattle.read.specs.declared.CodeOffset.{CodeOffset}
use Rattle.refusals.specs.declared.Reason.TheVariants as reason
use Rattle.refusals.specs.declared.Refusal.{Refusal}
use Rattle.refusals.specs.Numbers.{refused}
use Rattle.read.specs.Reads.{read_of}
use Rattle.operands.specs.Signed.{signed_of}
use Rattle.ordinary.specs.declared.Instruction.{Instruction}
use Rattle.ordinary.specs.declared.Instruction.TheVariants as instruction
use Rattle.ordinary.specs.Ordinary.{Step, then_read}

-- the next offset divisible by 4, counted from the code's start
abbrev pub padded : CodeOffset → CodeOffset
padded at = record { 0 = (at.0 + 3) / 4 * 4 }

-- so many words of four bytes, read in turn: the offset after them, or the refusal of the first that does not fit
unfoldable pub words_from : ℕ → List ℕ → CodeOffset → Result CodeOffset (Refusal CodeOffset)
words_from zero code at = Ok at
words_from (suc count) code at = elim (read_of 4 code at) [ Ok found ↦ words_from count code found.1 | Err r ↦ Err r ]

-- document 01: at most so many entries, which is the largest signed word
abbrev pub most_entries : ℕ
most_entries = 2147483647

-- how many entries a table has whose high is so far above its low: none where it lies below, and none where they are too many
unfoldable pub count_of : ℤ → Option ℕ
count_of (pos above) = elim (leb (above + 1) most_entries) [ true ↦ Some (above + 1) | false ↦ None ]
count_of (negsuc below) = None

-- as signed numbers
abbrev pub entry_count : ℕ → ℕ → Option ℕ
entry_count low high = count_of (signed_of high -ℤ signed_of low)

-- an instruction that ends where its words do, or the refusal of these
abbrev pub ended : Instruction → Result CodeOffset (Refusal CodeOffset) → Step
ended i (Ok next) = Ok (i, next)
ended i (Err r) = Err r

-- JVMS 6.5 tableswitch: a default, low, high, and high - low + 1 offsets. 10: low > high or too many entries
abbrev pub table_of : List ℕ → CodeOffset → ℕ → ℕ → ℕ → CodeOffset → Option ℕ → Step
table_of code place default low high entries None = Err (refused reason.BadBounds place)
table_of code place default low high entries (Some n) =
    ended (instruction.TableSwitch default low high entries n) (words_from n code entries)

abbrev pub table_entries : List ℕ → CodeOffset → ℕ → ℕ → ℕ → CodeOffset → Step
table_entries code place default low high entries = table_of code place default low high entries (entry_count low high)

abbrev pub table_step : List ℕ → CodeOffset → Step
table_step code at =
    then_read (read_of 4 code (padded at))
    (λ default low_at.
    then_read (read_of 4 code low_at)
    (λ low high_at. then_read (read_of 4 code high_at) (λ high entries. table_entries code high_at default low high entries)))

-- JVMS 6.5 lookupswitch: a default, npairs, and so many pairs of a key and an offset. 11: npairs is negative
abbrev pub lookup_of : List ℕ → CodeOffset → ℕ → CodeOffset → ℤ → Step
lookup_of code place default entries (pos n) =
    ended (instruction.LookupSwitch default entries n) (words_from (2 * n) code entries)
lookup_of code place default entries (negsuc n) = Err (refused reason.NegativeCount place)

abbrev pub lookup_entries : List ℕ → CodeOffset → ℕ → ℕ → CodeOffset → Step
lookup_entries code place default npairs entries = lookup_of code place default entries (signed_of npairs)

abbrev pub lookup_step : List ℕ → CodeOffset → Step
lookup_step code at =
    then_read (read_of 4 code (padded at))
    (λ default npairs_at. then_read (read_of 4 code npairs_at) (λ npairs entries. lookup_entries code npairs_at default npairs entries))
