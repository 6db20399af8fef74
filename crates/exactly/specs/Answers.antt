-- Each answer of `decode` exactly when, over the instructions that stand in the code: document 01's table of refusals, row by
-- row, and demand 2 of the order. Nothing here reads. The proofs are in proofs/Answers.antt.
use Rattle.std.specs.Prelude.{ℕ, ◌+◌, ◌≤◌, ◌<◌, ◌↔◌, ◌⊎◌, ◌≡◌, length, Ok, Err}
use mathlib.Core.List.{List, [], ◌∷◌, Memᴰ}
use Rattle.laws.specs.Bytes.{In}
use Rattle.refusals.specs.declared.Reason.{Reason}
use Rattle.refusals.specs.Numbers.{number_of}
use Rattle.read.specs.declared.CodeOffset.{CodeOffset}
use Rattle.instruction.specs.Entries.{entries_of}
use Rattle.instruction.specs.Faults.{StepFault}
use Rattle.jumps.specs.Jumps.{failure, starts_of}
use Rattle.jumps.specs.Landing.{AllLand, FirstFailing}
use Rattle.bytecode.specs.Decoding.{counts, code_limit, pool_limit, decoding}
use Rattle.exactly.specs.Standing.{Standing, lines_in, total_entries, LinesTile, jumps_drawn, all_jumps_drawn}

abbrev offset : ℕ → CodeOffset
offset i = record { 0 = i }

-- Both lengths are within their limits, and lines stand from 0 up to an offset, for which there is room
pub record StoredTo (code pool : List ℕ) (room_of_records room_of_entries : ℕ) (ls : List (Standing code pool)) (end : CodeOffset) : Type 0 where
  pub short_code : length code ≤ code_limit
  pub short_pool : length pool ≤ pool_limit
  pub tile : LinesTile (offset 0) ls end
  pub records_fit : length ls ≤ room_of_records
  pub entries_fit : total_entries (lines_in ls) ≤ room_of_entries

-- Demand 2: lines that cover the code, k of them with m entries, all jumps leading to the start of one; and no others do
pub record Accepts (code pool : List ℕ) (room_of_records room_of_entries k m : ℕ) (ls : List (Standing code pool)) : Type 0 where
  pub stored : StoredTo code pool room_of_records room_of_entries ls (offset (length code))
  pub instructions : k ≡ length ls
  pub switch_entries : m ≡ total_entries (lines_in ls)
  pub land : (s : Standing code pool) → Memᴰ s ls → AllLand (starts_of (all_jumps_drawn ls)) s.line.at (jumps_drawn s).words

pub record Demand2 (code pool : List ℕ) (room_of_records room_of_entries k m : ℕ) : Type 0 where
  pub lines : List (Standing code pool)
  pub accepted : Accepts code pool room_of_records room_of_entries k m lines
  pub only : (others : List (Standing code pool)) → LinesTile (offset 0) others (offset (length code)) → lines_in others ≡ lines_in lines

-- proved as `demand_2_exactly`
abbrev pub Demand2Exactly : Type 0
Demand2Exactly =
    (code pool : List ℕ) (room_of_records room_of_entries k m : ℕ)
    → (decoding code pool room_of_records room_of_entries ≡ Ok (counts k m)) ↔ Demand2 code pool room_of_records room_of_entries k m

-- This number, at this place, with 0 for the second number
abbrev pub Tells : ℕ → CodeOffset → Reason → CodeOffset → ℕ → Type 0
Tells number at n place second = (number_of n ≡ number) × (place ≡ at) × (second ≡ 0)

-- Why a code is refused for a reason, told by its number, at a place, with a second number
pub data Why (code pool : List ℕ) (room_of_records room_of_entries : ℕ) (n : Reason) (place : CodeOffset) (second : ℕ) : Type 0 where
  -- 1, 2: the code or the pool table is over its limit
  long_code : code_limit < length code → Tells 1 (offset 0) n place second → Why code pool room_of_records room_of_entries n place second
  long_pool :
      length code ≤ code_limit → pool_limit < length pool → Tells 2 (offset 0) n place second
      → Why code pool room_of_records room_of_entries n place second
  -- 3 to 11: after lines that are stored, the code goes on, and the instruction there has a fault of its own
  bad_instruction :
      (ls : List (Standing code pool)) (at : CodeOffset) → StoredTo code pool room_of_records room_of_entries ls at
      → at.0 < length code → StepFault code pool at n place → second ≡ 0
      → Why code pool room_of_records room_of_entries n place second
  -- 14: the next line has more entries than there is room left
  no_entry_left :
      (ls : List (Standing code pool)) (s : Standing code pool) → StoredTo code pool room_of_records room_of_entries ls s.line.at
      → room_of_entries < total_entries (lines_in ls) + entries_of s.line.instruction → Tells 14 s.line.at n place second
      → Why code pool room_of_records room_of_entries n place second
  -- 15: its entries have room, and no record is left
  no_record_left :
      (ls : List (Standing code pool)) (s : Standing code pool) → StoredTo code pool room_of_records room_of_entries ls s.line.at
      → total_entries (lines_in ls) + entries_of s.line.instruction ≤ room_of_entries → length ls ≡ room_of_records → Tells 15 s.line.at n place second
      → Why code pool room_of_records room_of_entries n place second
  -- 12, 13: all lines are stored, and this is the first jump that fails
  bad_jump :
      (ls : List (Standing code pool)) → StoredTo code pool room_of_records room_of_entries ls (offset (length code))
      → FirstFailing (all_jumps_drawn ls) n place second
      → Why code pool room_of_records room_of_entries n place second

-- proved as `refused_exactly`
abbrev pub RefusedExactly : Type 0
RefusedExactly =
    (code pool : List ℕ) (room_of_records room_of_entries : ℕ) (n : Reason) (place : CodeOffset) (second : ℕ)
    → (decoding code pool room_of_records room_of_entries ≡ Err (failure n place second)) ↔ Why code pool room_of_records room_of_entries n place second

-- So the numbers are 1 to 15, and the second number is 0 but for 12 and 13: proved as `refusal_numbers`
abbrev pub refusals : List ℕ
refusals = 1 ∷ 2 ∷ 3 ∷ 4 ∷ 5 ∷ 6 ∷ 7 ∷ 8 ∷ 9 ∷ 10 ∷ 11 ∷ 12 ∷ 13 ∷ 14 ∷ 15 ∷ []

abbrev pub RefusalNumbers : Type 0
RefusalNumbers =
    (code pool : List ℕ) (room_of_records room_of_entries : ℕ) (n : Reason) (place : CodeOffset) (second : ℕ)
    → decoding code pool room_of_records room_of_entries ≡ Err (failure n place second)
    → In (number_of n) refusals × (In (number_of n) (12 ∷ 13 ∷ []) ⊎ (second ≡ 0))
