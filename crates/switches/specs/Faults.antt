-- What is wrong with a switch after its opcode, and document 01's number and place for it, from the side of the bytes that
-- stand there. Nothing here is read. The proofs are in proofs/Faults.antt.
use Rattle.std.specs.Prelude.{ℕ, ◌+◌, ◌*◌, ◌%◌, ◌≤◌, ◌<◌, List, ◌↔◌, ◌≡◌, ℤ, pos, negsuc, ◌+ℤ◌, ◌-ℤ◌, length, Err}
use Rattle.read.specs.declared.CodeOffset.{CodeOffset}
use Rattle.read.specs.Reads.{big_endian, after}
use Rattle.operands.specs.Signed.{signed_of}
use Rattle.operands.specs.Pictures.{Stand}
use Rattle.ordinary.specs.Ordinary.{Step}
use Rattle.refusals.specs.declared.Reason.{Reason}
use Rattle.refusals.specs.Numbers.{refused, number_of}
use Rattle.switches.specs.Switches.{most_entries, table_step, lookup_step}

-- where the words of a switch start: the next offset divisible by 4, counted from the code's start. It may lie past the end
-- of the code, and then the padding does too
pub record FirstWord (at start : CodeOffset) : Type 0 where
  pub from : at.0 ≤ start.0
  pub near : start.0 < at.0 + 4
  pub aligned : start.0 % 4 ≡ 0

pub record WordStands (code : List ℕ) (at : CodeOffset) (word : List ℕ) : Type 0 where
  pub four : length word ≡ 4
  pub stand : Stand code at word

-- 3, where the word starts: the code ends within it
pub record WordShort (code : List ℕ) (at : CodeOffset) (why : Reason) (place : CodeOffset) : Type 0 where
  pub number : number_of why ≡ 3
  pub placed : place ≡ at
  pub past : length code < at.0 + 4

-- of so many words the first stand, and the next is short
pub record WordsShort (code : List ℕ) (at : CodeOffset) (count : ℕ) (why : Reason) (place : CodeOffset) : Type 0 where
  pub fit : ℕ
  pub fewer : fit < count
  pub words : List ℕ
  pub all : length words ≡ 4 * fit
  pub stand : Stand code at words
  pub short : WordShort code (after (4 * fit) at) why place

-- the words of a table before its entries
pub record TableOpening (code : List ℕ) (at : CodeOffset) : Type 0 where
  pub start : CodeOffset
  pub first : FirstWord at start
  pub default : List ℕ
  pub low : List ℕ
  pub high : List ℕ
  pub default_word : WordStands code start default
  pub low_word : WordStands code (after 4 start) low
  pub high_word : WordStands code (after 8 start) high

-- high - low + 1, as signed numbers
abbrev pub counted : List ℕ → List ℕ → ℤ
counted low high = signed_of (big_endian high) -ℤ signed_of (big_endian low) +ℤ pos 1

abbrev pub BelowZero : ℤ → Type 0
BelowZero (pos n) = ⊥
BelowZero (negsuc n) = Unit {0}

-- low > high as signed numbers, or more entries than document 01 allows
pub data BadBounds (low high : List ℕ) : Type 0 where
  crossed : BelowZero (signed_of (big_endian high) -ℤ signed_of (big_endian low)) → BadBounds low high
  too_many : (count : ℕ) → counted low high ≡ pos count → most_entries < count → BadBounds low high

-- tableswitch: one of its first three words is short; bad bounds, 10 at the high word; or an entry is short
pub data TableFault (code : List ℕ) (at : CodeOffset) (why : Reason) (place : CodeOffset) : Type 0 where
  default_short : (start : CodeOffset) → FirstWord at start → WordShort code start why place → TableFault code at why place
  low_short :
      (start : CodeOffset) → FirstWord at start → (default : List ℕ) → WordStands code start default
      → WordShort code (after 4 start) why place
      → TableFault code at why place
  high_short :
      (start : CodeOffset) → FirstWord at start → (default low : List ℕ) → WordStands code start default
      → WordStands code (after 4 start) low → WordShort code (after 8 start) why place
      → TableFault code at why place
  bad_bounds : (o : TableOpening code at) → number_of why ≡ 10 → place ≡ after 8 o.start → BadBounds o.low o.high → TableFault code at why place
  entry_short :
      (o : TableOpening code at) (count : ℕ) → counted o.low o.high ≡ pos count → count ≤ most_entries
      → WordsShort code (after 12 o.start) count why place
      → TableFault code at why place

-- the words of a lookup before its pairs
pub record LookupOpening (code : List ℕ) (at : CodeOffset) : Type 0 where
  pub start : CodeOffset
  pub first : FirstWord at start
  pub default : List ℕ
  pub npairs : List ℕ
  pub default_word : WordStands code start default
  pub npairs_word : WordStands code (after 4 start) npairs

-- lookupswitch: one of its first two words is short; npairs is negative, 11 at npairs; or a word of a pair is short
pub data LookupFault (code : List ℕ) (at : CodeOffset) (why : Reason) (place : CodeOffset) : Type 0 where
  default_short : (start : CodeOffset) → FirstWord at start → WordShort code start why place → LookupFault code at why place
  npairs_short :
      (start : CodeOffset) → FirstWord at start → (default : List ℕ) → WordStands code start default
      → WordShort code (after 4 start) why place
      → LookupFault code at why place
  negative : (o : LookupOpening code at) → number_of why ≡ 11 → place ≡ after 4 o.start → BelowZero (signed_of (big_endian o.npairs)) → LookupFault code at why place
  pair_short :
      (o : LookupOpening code at) (count : ℕ) → signed_of (big_endian o.npairs) ≡ pos count
      → WordsShort code (after 8 o.start) (2 * count) why place
      → LookupFault code at why place

-- refused exactly for its fault
abbrev FaultExactly : (List ℕ → CodeOffset → Step) → (List ℕ → CodeOffset → Reason → CodeOffset → Type 0) → Type 0
FaultExactly step_of Fault =
    (code : List ℕ) (at : CodeOffset) (why : Reason) (place : CodeOffset) → (step_of code at ≡ Err (refused why place)) ↔ Fault code at why place

-- proved as `table_refused_exactly`, `lookup_refused_exactly`
abbrev pub TableRefusedExactly : Type 0
TableRefusedExactly = FaultExactly table_step TableFault

abbrev pub LookupRefusedExactly : Type 0
LookupRefusedExactly = FaultExactly lookup_step LookupFault
