-- Worked lines. Proved in proofs/Examples.antt.
use Rattle.std.specs.Prelude.{ℕ, List, [], ◌∷◌, ◌++◌, replicate, Ok, Err}
use Rattle.laws.specs.Bytes.{ascii}
use Rattle.laws.specs.Examples.{Computes}
use Rattle.records.specs.declared.Record.{Record}
use Rattle.refusals.specs.Answers.{by_number}
use Rattle.listing.specs.Lines.{lining, newline, instruction_line, entry_line, accepted_line, refused_line, sum_line}

abbrev words : ℕ → ℕ → ℕ → ℕ → ℕ → Record
words offset kind a b c = record { offset = offset; kind = kind; a = a; b = b; c = c; d = 0 }

-- a pool whose entries 1 to 5 are a Methodref, an unused slot, a String, a Class and an InterfaceMethodref
abbrev pool : List ℕ
pool = 0 ∷ 10 ∷ 0 ∷ 8 ∷ 7 ∷ 11 ∷ []

-- the byte at the record's offset, the record and the line: proved as `instruction_lines_compute`
abbrev pub InstructionLinesCompute : Type 0
InstructionLinesCompute =
    Computes (λ (e : ℕ × Record). instruction_line (replicate e.1.offset 0 ++ e.0 ∷ []) pool e.1) (
    ((0x2a, words 0 0x19 0 0 0), ascii "       0: aload_0" ++ newline)
    ∷ ((0xb7, words 1 0xb7 1 0 0), ascii "       1: invokespecial   #1 Methodref" ++ newline)
    ∷ ((0x10, words 4 0x10 4294967289 0 0), ascii "       4: bipush          -7" ++ newline)
    ∷ ((0x11, words 4 0x11 300 0 0), ascii "       4: sipush          300" ++ newline)
    ∷ ((0x15, words 4 0x15 9 0 0), ascii "       4: iload           9" ++ newline)
    ∷ ((0x84, words 6 0x84 1 4294967295 0), ascii "       6: iinc            1, -1" ++ newline)
    ∷ ((0x99, words 9 0x99 15 0 0), ascii "       9: ifeq            24" ++ newline)
    ∷ ((0xa7, words 9 0xa7 4294967287 0 0), ascii "       9: goto            0" ++ newline)
    ∷ ((0xc8, words 9 0xa7 15 0 0), ascii "       9: goto_w          24" ++ newline)
    ∷ ((0xc4, words 12 0x84 300 4294967295 0), ascii "      12: wide            iinc 300, -1" ++ newline)
    ∷ ((0xc4, words 12 0x15 300 0 0), ascii "      12: wide            iload 300" ++ newline)
    ∷ ((0xb9, words 18 0xb9 5 2 0), ascii "      18: invokeinterface #5 InterfaceMethodref, 2" ++ newline)
    ∷ ((0xc5, words 23 0xc5 4 3 0), ascii "      23: multianewarray  #4 Class, 3" ++ newline)
    ∷ ((0xbc, words 27 0xbc 10 0 0), ascii "      27: newarray        int" ++ newline)
    ∷ ((0x12, words 29 0x12 3 0 0), ascii "      29: ldc             #3 String" ++ newline)
    ∷ ((0xaa, words 31 0xaa 29 0 1), ascii "      31: tableswitch     0 to 1, default 60" ++ newline)
    ∷ ((0xab, words 60 0xab 30 2 0), ascii "      60: lookupswitch    2 pairs, default 90" ++ newline)
    ∷ ((0xab, words 60 0xab 30 1 0), ascii "      60: lookupswitch    1 pair, default 90" ++ newline)
    -- what has no name is shown by its number
    ∷ ((0xcb, words 1 0xcb 0 0 0), ascii "       1: 203" ++ newline)
    ∷ ((0x12, words 1 0x12 2 0 0), ascii "       1: ldc             #2 0" ++ newline)
    ∷ ((0xbc, words 1 0xbc 3 0 0), ascii "       1: newarray        3" ++ newline)
    ∷ ((0xc4, words 1 0x12 0 0 0), ascii "       1: wide            18" ++ newline)
    ∷ [])

-- proved as `past_the_end_computes`
abbrev pub PastTheEndComputes : Type 0
PastTheEndComputes =
    Computes (λ (offset : ℕ). instruction_line [] [] (words offset 0 0 0 0)) (
    (0, ascii "       0: past the end" ++ newline)
    -- an offset that is wider than its column
    ∷ (4294967295, ascii "4294967295: past the end" ++ newline)
    ∷ [])

-- the key and the jump of an entry of the switch at 31: proved as `entry_lines_compute`
abbrev pub EntryLinesCompute : Type 0
EntryLinesCompute =
    Computes (λ (e : ℕ × ℕ). entry_line 31 (record { key = e.0; jump = e.1 })) (
    ((0, 29), ascii "                          0: 60" ++ newline)
    ∷ ((2147483648, 4294967265), ascii "                -2147483648: 0" ++ newline)
    ∷ [])

-- proved as `accepted_lines_compute`
abbrev pub AcceptedLinesCompute : Type 0
AcceptedLinesCompute =
    Computes (λ (e : ℕ × ℕ). accepted_line e.0 e.1) (
    ((12, 3), ascii "accepted, 12 instructions, 3 switch entries" ++ newline)
    ∷ ((1, 1), ascii "accepted, 1 instruction, 1 switch entry" ++ newline)
    ∷ ((0, 0), ascii "accepted, 0 instructions, 0 switch entries" ++ newline)
    ∷ [])

-- proved as `refused_lines_compute`
abbrev pub RefusedLinesCompute : Type 0
RefusedLinesCompute =
    Computes (λ (e : ℕ × ℕ × ℕ). refused_line e.0 e.1 e.2) (
    ((13, 4, 2), ascii "refused, 13 at 4, second number 2: a jump's target is not an instruction's offset" ++ newline)
    ∷ ((35, 0, 0), ascii "refused, 35 at 0, second number 0: the records are not all there, or not in order" ++ newline)
    ∷ ((16, 0, 0), ascii "refused, 16 at 0, second number 0: a number without a meaning" ++ newline)
    ∷ [])

-- proved as `sum_line_computes`
abbrev pub SumLineComputes : Type 0
SumLineComputes = Computes (λ (e : ℕ × ℕ × ℕ). sum_line e.0 e.1 e.2) (((12, 11, 1), ascii "methods 12, accepted 11, refused 1" ++ newline) ∷ [])

-- the room that a line of nine bytes must find: proved as `rooms_compute`
abbrev pub RoomsCompute : Type 0
RoomsCompute = Computes (λ (room : ℕ). by_number (lining (ascii "a line...") room)) ((160, Ok 9) ∷ (159, Err (33, 0)) ∷ [])
