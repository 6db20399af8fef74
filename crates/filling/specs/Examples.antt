-- Worked instructions: the words of their records. Proved in proofs/Examples.antt.
use Rattle.std.specs.Prelude.{ℕ, [], ◌∷◌}
use Rattle.laws.specs.Examples.{Computes}
use Rattle.read.specs.declared.CodeOffset.{CodeOffset}
use Rattle.records.specs.Records.{index, words_of}
use Rattle.ordinary.specs.declared.Instruction.{Instruction}
use Rattle.ordinary.specs.declared.Instruction.TheVariants as instruction
use Rattle.filling.specs.Filling.{record_of}

abbrev offset : ℕ → CodeOffset
offset i = record { 0 = i }

-- an instruction at the offset 3, five entries being stored before its own: proved as `records_compute`
abbrev pub RecordsCompute : Type 0
RecordsCompute =
    Computes (λ (i : Instruction). words_of (record_of (offset 3) (index 5) i)) (
    (instruction.Ordinary 0x84 1 0xffff_ffff, 3 ∷ 0x84 ∷ 1 ∷ 0xffff_ffff ∷ 0 ∷ 0 ∷ [])
    ∷ (instruction.TableSwitch 9 0xffff_ffff 0 (offset 16) 2, 3 ∷ 0xaa ∷ 9 ∷ 0xffff_ffff ∷ 0 ∷ 5 ∷ [])
    ∷ (instruction.LookupSwitch 9 (offset 12) 2, 3 ∷ 0xab ∷ 9 ∷ 2 ∷ 0 ∷ 5 ∷ [])
    -- a lookup of no pairs tells the index too
    ∷ (instruction.LookupSwitch 9 (offset 12) 0, 3 ∷ 0xab ∷ 9 ∷ 0 ∷ 0 ∷ 5 ∷ [])
    ∷ [])
