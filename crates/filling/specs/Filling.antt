-- The record of an instruction (document 01, "Instructions as records").
use Rattle.read.specs.declared.CodeOffset.{CodeOffset}
use Rattle.records.specs.declared.Record.{Record}
use Rattle.records.specs.declared.RecordIndex.{RecordIndex}
use Rattle.ordinary.specs.declared.Instruction.{Instruction}
use Rattle.ordinary.specs.declared.Instruction.TheVariants as instruction

-- The record of an instruction at an offset, so many entries being stored before its own: offset, kind, a, b, c, d
abbrev pub record_of : CodeOffset → RecordIndex → Instruction → Record
record_of at first (instruction.Ordinary kind a b) = record { offset = at.0; kind = kind; a = a; b = b; c = 0; d = 0 }
record_of at first (instruction.TableSwitch default low high from count) =
    record { offset = at.0; kind = 0xaa; a = default; b = low; c = high; d = first.0 }
record_of at first (instruction.LookupSwitch default from count) =
    record { offset = at.0; kind = 0xab; a = default; b = count; c = 0; d = first.0 }
