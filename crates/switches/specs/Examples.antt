-- Worked switches: their entries in a code. Proved in proofs/Examples.antt.
use Rattle.std.specs.Prelude.{ℕ, List, [], ◌∷◌}
use Rattle.laws.specs.Examples.{Computes}
use Rattle.read.specs.declared.CodeOffset.{CodeOffset}
use Rattle.records.specs.declared.SwitchEntry.{SwitchEntry}
use Rattle.ordinary.specs.declared.Instruction.TheVariants as instruction
use Rattle.switches.specs.Entries.{entries_in}

abbrev offset : ℕ → CodeOffset
offset i = record { 0 = i }

abbrev entry : ℕ → ℕ → SwitchEntry
entry key jump = record { key = key; jump = jump }

-- the words 24, -16, the least one and 7
abbrev code : List ℕ
code = 0 ∷ 0 ∷ 0 ∷ 24 ∷ 0xff ∷ 0xff ∷ 0xff ∷ 0xf0 ∷ 0x80 ∷ 0 ∷ 0 ∷ 0 ∷ 0 ∷ 0 ∷ 0 ∷ 7 ∷ []

-- proved as `entries_compute`
abbrev pub EntriesCompute : Type 0
EntriesCompute =
    Computes (entries_in code) (
    -- iinc 1 -1 has none
    (instruction.Ordinary 0x84 1 0xffff_ffff, [])
    -- a table from -1 to 0, and one of a single entry further on
    ∷ (instruction.TableSwitch 9 0xffff_ffff 0 (offset 0) 2, entry 0xffff_ffff 24 ∷ entry 0 0xffff_fff0 ∷ [])
    ∷ (instruction.TableSwitch 9 5 5 (offset 4) 1, entry 5 0xffff_fff0 ∷ [])
    -- a lookup of two pairs, in their own order, and one of none
    ∷ (instruction.LookupSwitch 9 (offset 0) 2, entry 24 0xffff_fff0 ∷ entry 0x8000_0000 7 ∷ [])
    ∷ (instruction.LookupSwitch 9 (offset 16) 0, [])
    ∷ [])
