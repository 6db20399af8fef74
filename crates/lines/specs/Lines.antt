-- The instructions of a code, JVMS 4.9.1 and 6.5: the first starts at 0, each starts where the one before it ends, and the
-- last ends with the code. Nothing here knows a store.
use Rattle.std.specs.Prelude.{ℕ, zero, suc, ◌<◌, true, false, List, [], ◌∷◌, ◌≡◌, ltb, length, Ok, Err}
use Rattle.read.specs.declared.CodeOffset.{CodeOffset}
use Rattle.ordinary.specs.declared.Instruction.{Instruction}
use Rattle.refusals.specs.declared.Refusal.{Refusal}
use Rattle.instruction.specs.Steps.{step_of}

-- an instruction, the offset where it starts and the offset after it
pub record Line : Type 0 where
  pub at : CodeOffset
  pub instruction : Instruction
  pub next : CodeOffset

-- Lines one after the other, and what ends them: the end of the code, or a refusal with its place
pub data Lines : Type 0 where
  line : Line → Lines → Lines
  end : Lines
  stop : Refusal CodeOffset → Lines

-- What stands from an offset on. An instruction has a byte at least, so `most` that starts as the code's length never
-- comes to zero before the code's end
unfoldable pub lines_from : List ℕ → List ℕ → ℕ → CodeOffset → Lines
lines_from code pool zero at = Lines.end
lines_from code pool (suc most) at =
    elim (ltb at.0 (length code)) [
      | true ↦ elim (step_of code pool at) [
        | Ok found ↦ Lines.line (record { at = at; instruction = found.0; next = found.1 }) (lines_from code pool most found.1)
        | Err r ↦ Lines.stop r
      ]
      | false ↦ Lines.end
    ]

abbrev pub lines_of : List ℕ → List ℕ → Lines
lines_of code pool = lines_from code pool (length code) (record { 0 = 0 })

-- the lines before what ends them
unfoldable pub list_of : Lines → List Line
list_of (Lines.line l rest) = l ∷ list_of rest
list_of Lines.end = []
list_of (Lines.stop r) = []

-- Consecutive lines from an offset on: each is what stands in the code where the one before it ends. They end
-- exactly with the code, or where the first refusal is
abbrev pub Consecutive : List ℕ → List ℕ → CodeOffset → Lines → Type 0
Consecutive code pool at (Lines.line l rest) =
    (l.at ≡ at) × (at.0 < length code) × (step_of code pool at ≡ Ok (l.instruction, l.next)) × Consecutive code pool l.next rest
Consecutive code pool at Lines.end = at.0 ≡ length code
Consecutive code pool at (Lines.stop r) = (at.0 < length code) × (step_of code pool at ≡ Err r)

-- An offset where an instruction of the code stands, where the first refused one does, or where the code ends
pub data Reached (code pool : List ℕ) : CodeOffset → Type 0 where
  first : Reached code pool (record { 0 = 0 })
  next : {at after : CodeOffset} {i : Instruction} → Reached code pool at → step_of code pool at ≡ Ok (i, after) → Reached code pool after
