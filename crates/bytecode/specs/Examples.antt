-- Worked codes: the answer and what both stores hold afterwards, whole. A word that was 9 before and is 9 afterwards is one
-- that stays. Proved in proofs/Examples.antt. The settled examples of document 01 that are marked P are among them.
use Rattle.std.specs.Prelude.{ℕ, List, [], ◌∷◌, ◌++◌, replicate, Result, Ok, Err}
use Rattle.laws.specs.Examples.{Computes}
use Rattle.records.specs.Records.{record_room, entry_room}
use Rattle.refusals.specs.declared.Reason.TheVariants as reason
use Rattle.read.specs.declared.CodeOffset.{CodeOffset}
use Rattle.jumps.specs.Jumps.{failure}
use Rattle.jumps.specs.Answers.{failure_by_number}
use Rattle.bytecode.specs.declared.Decoded.{Decoded}
use Rattle.bytecode.specs.Decoding.{Decision, counts, decoding, store_after, records_after, entries_after}

-- the counts, or the number, the place and the second number of the refusal
abbrev Answer : Type 0
Answer = Result Decoded (ℕ × CodeOffset × ℕ)

abbrev accepted : ℕ → ℕ → Answer
accepted instructions entries = Ok (counts instructions entries)

abbrev refused : ℕ → ℕ → ℕ → Answer
refused number place second = Err (number, record { 0 = place }, second)

-- a code with no pool table, and stores of so many words
abbrev Whole : Type 0
Whole = Answer × List ℕ × List ℕ

abbrev decoded_in : (List ℕ × ℕ × ℕ) → Whole
decoded_in q =
    let records : List ℕ = replicate q.1 9 in
    let entries : List ℕ = replicate q.2 9 in
    (failure_by_number (decoding q.0 [] (record_room records) (entry_room entries)), records_after q.0 [] records entries, entries_after q.0 [] records entries)

abbrev zeros : ℕ → List ℕ
zeros n = replicate n 0

-- iload_0, ifeq 6, iinc 0 -1, return
abbrev loop : List ℕ
loop = 0x1a ∷ 0x99 ∷ 0x00 ∷ 0x06 ∷ 0x84 ∷ 0x00 ∷ 0xff ∷ 0xb1 ∷ []

abbrev loop_records : List ℕ
loop_records =
    0 ∷ 0x15 ∷ 0 ∷ 0 ∷ 0 ∷ 0 ∷
    1 ∷ 0x99 ∷ 6 ∷ 0 ∷ 0 ∷ 0 ∷
    4 ∷ 0x84 ∷ 0 ∷ 4294967295 ∷ 0 ∷ 0 ∷
    7 ∷ 0xb1 ∷ 0 ∷ 0 ∷ 0 ∷ 0 ∷ []

-- the bytes of a word below 256
abbrev word : ℕ → List ℕ
word n = 0 ∷ 0 ∷ 0 ∷ n ∷ []

-- tableswitch of 0 and 1 with jumps to the return after it, and with a second jump that leads elsewhere
abbrev table : ℕ → List ℕ
table jump = 0xaa ∷ 7 ∷ 7 ∷ 7 ∷ word 24 ++ word 0 ++ word 1 ++ word 24 ++ word jump ++ (0xb1 ∷ [])

-- return, padding, lookupswitch of no pairs: its first entry's index is the number of entries before it
abbrev lookup : List ℕ
lookup = 0xb1 ∷ 0xb1 ∷ 0xb1 ∷ 0xab ∷ 0xff ∷ 0xff ∷ 0xff ∷ 0xfd ∷ word 0

-- proved as `codes_compute`
abbrev pub CodesCompute : Type 0
CodesCompute =
    Computes decoded_in (
    -- the store exactly full, one word more, one word short
    ((loop, 24, 0), (accepted 4 0, loop_records, []))
    ∷ ((loop, 25, 3), (accepted 4 0, loop_records ++ (9 ∷ []), 9 ∷ 9 ∷ 9 ∷ []))
    ∷ ((loop, 23, 3), (refused 15 7 0, zeros 23, zeros 3))
    ∷ ((loop, 0, 0), (refused 15 0 0, [], []))
    -- no code
    ∷ (([], 0, 0), (accepted 0 0, [], []))
    ∷ (([], 7, 1), (accepted 0 0, replicate 7 9, 9 ∷ []))
    -- a switch, its entries in a store that is exactly full, one word short, and with a word left over
    ∷ ((table 24, 12, 4), (accepted 2 2, 0 ∷ 0xaa ∷ 24 ∷ 0 ∷ 1 ∷ 0 ∷ 24 ∷ 0xb1 ∷ 0 ∷ 0 ∷ 0 ∷ 0 ∷ [], 0 ∷ 24 ∷ 1 ∷ 24 ∷ []))
    ∷ ((table 24, 13, 5), (accepted 2 2, 0 ∷ 0xaa ∷ 24 ∷ 0 ∷ 1 ∷ 0 ∷ 24 ∷ 0xb1 ∷ 0 ∷ 0 ∷ 0 ∷ 0 ∷ 9 ∷ [], 0 ∷ 24 ∷ 1 ∷ 24 ∷ 9 ∷ []))
    ∷ ((table 24, 12, 3), (refused 14 0 0, zeros 12, zeros 3))
    -- 14 goes before 15, and both after the reads of the instruction
    ∷ ((table 24, 5, 3), (refused 14 0 0, zeros 5, zeros 3))
    ∷ ((table 24, 5, 4), (refused 15 0 0, zeros 5, zeros 4))
    ∷ ((0xaa ∷ 0 ∷ 0 ∷ 0 ∷ word 24 ++ word 0 ++ word 1 ++ word 24, 0, 0), (refused 3 20 0, [], []))
    -- the second number, and the default first
    ∷ ((table 25, 12, 4), (refused 13 0 2, zeros 12, zeros 4))
    ∷ ((0xaa ∷ 0 ∷ 0 ∷ 0 ∷ word 23 ++ word 0 ++ word 1 ++ word 25 ++ word 26 ++ (0xb1 ∷ []), 12, 4), (refused 13 0 0, zeros 12, zeros 4))
    ∷ ((0xaa ∷ 0 ∷ 0 ∷ 0 ∷ word 24 ++ word 0 ++ word 1 ++ word 25 ++ (0xff ∷ 0xff ∷ 0xff ∷ 0xff ∷ 0xb1 ∷ []), 12, 4), (refused 13 0 1, zeros 12, zeros 4))
    -- a lookupswitch with no pairs, whose default leads back to 0
    ∷ ((lookup, 24, 2), (accepted 4 0, 0 ∷ 0xb1 ∷ 0 ∷ 0 ∷ 0 ∷ 0 ∷ 1 ∷ 0xb1 ∷ 0 ∷ 0 ∷ 0 ∷ 0 ∷ 2 ∷ 0xb1 ∷ 0 ∷ 0 ∷ 0 ∷ 0 ∷ 3 ∷ 0xab ∷ 4294967293 ∷ 0 ∷ 0 ∷ 0 ∷ [], 9 ∷ 9 ∷ []))
    -- jumps to the end, below 0, far past the end, and into the middle of an instruction
    ∷ ((0xa7 ∷ 0x00 ∷ 0x03 ∷ [], 6, 1), (refused 13 0 0, zeros 6, zeros 1))
    ∷ ((0xa7 ∷ 0xff ∷ 0xff ∷ [], 6, 1), (refused 12 0 0, zeros 6, zeros 1))
    ∷ ((0x00 ∷ 0xc8 ∷ 0x7f ∷ 0xff ∷ 0xff ∷ 0xff ∷ [], 12, 0), (refused 13 1 0, zeros 12, []))
    ∷ ((0xa7 ∷ 0x00 ∷ 0x01 ∷ [], 6, 0), (refused 13 0 0, zeros 6, []))
    ∷ ((0xa7 ∷ 0x00 ∷ 0x00 ∷ [], 6, 0), (accepted 1 0, 0 ∷ 0xa7 ∷ 0 ∷ 0 ∷ 0 ∷ 0 ∷ [], []))
    -- the first of two jumps that fail, and a refusal of a later byte before any jump
    ∷ ((0xa7 ∷ 0x00 ∷ 0x01 ∷ 0xa7 ∷ 0xff ∷ 0x00 ∷ [], 12, 0), (refused 13 0 0, zeros 12, []))
    ∷ ((0xa7 ∷ 0x00 ∷ 0x01 ∷ 0xcb ∷ [], 12, 0), (refused 4 3 0, zeros 12, []))
    -- wide, and the tag of newarray
    ∷ ((0xc4 ∷ 0x00 ∷ [], 6, 1), (refused 5 1 0, zeros 6, zeros 1))
    ∷ ((0xbc ∷ 0x03 ∷ [], 6, 1), (refused 9 1 0, zeros 6, zeros 1))
    ∷ ((0xbc ∷ 0x0b ∷ [], 6, 1), (accepted 1 0, 0 ∷ 0xbc ∷ 11 ∷ 0 ∷ 0 ∷ 0 ∷ [], 9 ∷ []))
    ∷ [])

-- the limits of the code and of the pool table: proved as `limits_compute`
abbrev pub LimitsCompute : Type 0
LimitsCompute =
    Computes (λ (q : List ℕ × List ℕ). failure_by_number (decoding q.0 q.1 0 0)) (
    ((replicate 65536 0, []), refused 1 0 0)
    ∷ ((replicate 65536 0, replicate 4097 0), refused 1 0 0)
    ∷ (([], replicate 4097 0), refused 2 0 0)
    ∷ (([], replicate 4096 0), accepted 0 0)
    ∷ ((0xcb ∷ [], replicate 4096 0), refused 4 0 0)
    ∷ [])

abbrev no_target : Decision
no_target = Err (failure reason.NoTarget (record { 0 = 0 }) 0)

-- a store of nines afterwards, by the mark from which a refusal clears it: proved as `marks_compute`
abbrev pub MarksCompute : Type 0
MarksCompute =
    Computes (λ (q : ℕ × Decision). store_after q.0 q.1 (replicate 4 9) (replicate 4 7)) (
    ((0, no_target), zeros 4)
    ∷ ((3, no_target), 9 ∷ 9 ∷ 9 ∷ 0 ∷ [])
    ∷ ((4, no_target), replicate 4 9)
    ∷ ((3, Ok (counts 1 0)), replicate 4 7)
    ∷ [])
