-- A step and the pictures of JVMS 6.5 agree, and where an instruction ends. The proofs are in proofs/Exactly.antt.
use Rattle.std.specs.Prelude.{ℕ, List, ◌↔◌, ◌≡◌, Ok}
use Rattle.laws.specs.Bytes.{In}
use Rattle.read.specs.declared.CodeOffset.{CodeOffset}
use Rattle.pool.specs.Entries.{entry_at}
use Rattle.ordinary.specs.declared.Instruction.{Instruction}
use Rattle.instruction.specs.Steps.{step_of}
use Rattle.instruction.specs.Names.{names_at}
use Rattle.instruction.specs.Pictures.{StandsAt}
use Rattle.instruction.specs.Entries.{Within}

-- A step decodes exactly what stands there: proved as `step_exactly`
abbrev pub StepExactly : Type 0
StepExactly =
    (code pool : List ℕ) (at : CodeOffset) (i : Instruction) (next : CodeOffset)
    → (step_of code pool at ≡ Ok (i, next)) ↔ StandsAt code pool at i next

-- A decoded instruction has a byte at least and one for each entry, and ends within the code: proved as `step_within`
abbrev pub StepWithin : Type 0
StepWithin =
    (code pool : List ℕ) (at : CodeOffset) (i : Instruction) (next : CodeOffset)
    → step_of code pool at ≡ Ok (i, next) → Within code at i next

-- Two pool tables that agree on the entries that the instruction at an offset names give the same step: proved as
-- `step_pool`, in proofs/Pool.antt
abbrev pub StepPool : Type 0
StepPool =
    (code pool other : List ℕ) (at : CodeOffset) → ((i : ℕ) → In i (names_at code at) → entry_at pool i ≡ entry_at other i)
    → step_of code pool at ≡ step_of code other at
