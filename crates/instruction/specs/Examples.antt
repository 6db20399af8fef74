-- Worked steps: the code, and what stands at its offset 0 or at another. Proved in proofs/Examples.antt.
use Rattle.std.specs.Prelude.{ℕ, List, [], ◌∷◌, ◌++◌, Result, Ok, Err}
use Rattle.laws.specs.Examples.{Computes}
use Rattle.read.specs.declared.CodeOffset.{CodeOffset}
use Rattle.ordinary.specs.declared.Instruction.{Instruction}
use Rattle.ordinary.specs.declared.Instruction.TheVariants as instruction
use Rattle.refusals.specs.Answers.{by_number}
use Rattle.instruction.specs.Steps.{step_of}

abbrev offset : ℕ → CodeOffset
offset i = record { 0 = i }

-- an Integer, a Fieldref, a Methodref, an InterfaceMethodref, an InvokeDynamic, a Class, and an unused slot
abbrev pool : List ℕ
pool = 0 ∷ 3 ∷ 9 ∷ 10 ∷ 11 ∷ 18 ∷ 7 ∷ 0 ∷ []

-- the instruction and where the next one starts, or the number and the place of the refusal
abbrev Answer : Type 0
Answer = Result (Instruction × CodeOffset) (ℕ × CodeOffset)

abbrev ordinary : ℕ → ℕ → ℕ → ℕ → Answer
ordinary kind a b next = Ok (instruction.Ordinary kind a b, offset next)

abbrev refusal : ℕ → ℕ → Answer
refusal number place = Err (number, offset place)

abbrev first : List ℕ → Answer
first code = by_number (step_of code pool (offset 0))

-- each format, short, plain and wide forms: proved as `formats_compute`
abbrev pub FormatsCompute : Type 0
FormatsCompute =
    Computes first (
    -- nop, breakpoint, impdep2
    (0x00 ∷ [], ordinary 0x00 0 0 1)
    ∷ (0xca ∷ [], ordinary 0xca 0 0 1)
    ∷ (0xff ∷ [], ordinary 0xff 0 0 1)
    -- bipush -1, sipush -2
    ∷ (0x10 ∷ 0xff ∷ [], ordinary 0x10 0xffff_ffff 0 2)
    ∷ (0x10 ∷ 0x7f ∷ [], ordinary 0x10 0x7f 0 2)
    ∷ (0x11 ∷ 0xff ∷ 0xfe ∷ [], ordinary 0x11 0xffff_fffe 0 3)
    -- iload 200, iload_0, aload_3, istore_0, astore_3, ret 1
    ∷ (0x15 ∷ 0xc8 ∷ [], ordinary 0x15 0xc8 0 2)
    ∷ (0x1a ∷ [], ordinary 0x15 0 0 1)
    ∷ (0x2d ∷ [], ordinary 0x19 3 0 1)
    ∷ (0x3b ∷ [], ordinary 0x36 0 0 1)
    ∷ (0x4e ∷ [], ordinary 0x3a 3 0 1)
    ∷ (0xa9 ∷ 1 ∷ [], ordinary 0xa9 1 0 2)
    -- iinc 1 -1; wide iload 256, wide iinc 256 -1
    ∷ (0x84 ∷ 1 ∷ 0xff ∷ [], ordinary 0x84 1 0xffff_ffff 3)
    ∷ (0xc4 ∷ 0x15 ∷ 1 ∷ 0 ∷ [], ordinary 0x15 0x100 0 4)
    ∷ (0xc4 ∷ 0x84 ∷ 1 ∷ 0 ∷ 0xff ∷ 0xff ∷ [], ordinary 0x84 0x100 0xffff_ffff 6)
    -- ifeq -3, goto_w, jsr_w
    ∷ (0x99 ∷ 0xff ∷ 0xfd ∷ [], ordinary 0x99 0xffff_fffd 0 3)
    ∷ (0xc8 ∷ 0x80 ∷ 0 ∷ 0 ∷ 0 ∷ [], ordinary 0xa7 0x8000_0000 0 5)
    ∷ (0xc9 ∷ 0 ∷ 0 ∷ 0 ∷ 5 ∷ [], ordinary 0xa8 5 0 5)
    -- ldc, ldc2_w, getfield, invokevirtual, invokestatic of an interface's method
    ∷ (0x12 ∷ 1 ∷ [], ordinary 0x12 1 0 2)
    ∷ (0x14 ∷ 0 ∷ 1 ∷ [], ordinary 0x14 1 0 3)
    ∷ (0xb4 ∷ 0 ∷ 2 ∷ [], ordinary 0xb4 2 0 3)
    ∷ (0xb6 ∷ 0 ∷ 3 ∷ [], ordinary 0xb6 3 0 3)
    ∷ (0xb8 ∷ 0 ∷ 4 ∷ [], ordinary 0xb8 4 0 3)
    -- invokeinterface with its count, invokedynamic, multianewarray with its dimensions, newarray long
    ∷ (0xb9 ∷ 0 ∷ 4 ∷ 2 ∷ 0 ∷ [], ordinary 0xb9 4 2 5)
    ∷ (0xba ∷ 0 ∷ 5 ∷ 0 ∷ 0 ∷ [], ordinary 0xba 5 0 5)
    ∷ (0xc5 ∷ 0 ∷ 6 ∷ 2 ∷ [], ordinary 0xc5 6 2 4)
    ∷ (0xbc ∷ 11 ∷ [], ordinary 0xbc 11 0 2)
    ∷ [])

-- each refusal but the switches' own, at its place: proved as `refusals_compute`
abbrev pub RefusalsCompute : Type 0
RefusalsCompute =
    Computes first (
    ([], refusal 3 0)
    ∷ (0x10 ∷ [], refusal 3 1)
    ∷ (0x11 ∷ 0 ∷ [], refusal 3 1)
    ∷ (0x84 ∷ 1 ∷ [], refusal 3 2)
    ∷ (0xc4 ∷ [], refusal 3 1)
    ∷ (0xc4 ∷ 0x84 ∷ 0 ∷ 1 ∷ 0 ∷ [], refusal 3 4)
    ∷ (0xb9 ∷ 0 ∷ 4 ∷ [], refusal 3 3)
    ∷ (0xb9 ∷ 0 ∷ 4 ∷ 1 ∷ [], refusal 3 4)
    ∷ (0xba ∷ 0 ∷ 5 ∷ 0 ∷ [], refusal 3 3)
    ∷ (0xcb ∷ [], refusal 4 0)
    ∷ (0xfd ∷ [], refusal 4 0)
    ∷ (0xc4 ∷ 0 ∷ [], refusal 5 1)
    ∷ (0xc4 ∷ 0xc4 ∷ [], refusal 5 1)
    ∷ (0x12 ∷ 0 ∷ [], refusal 6 1)
    ∷ (0xb2 ∷ 0 ∷ 8 ∷ [], refusal 6 1)
    ∷ (0xb2 ∷ 0 ∷ 3 ∷ [], refusal 7 1)
    ∷ (0x12 ∷ 7 ∷ [], refusal 7 1)
    -- the index is judged before what follows it is read
    ∷ (0xb9 ∷ 0 ∷ 3 ∷ [], refusal 7 1)
    ∷ (0xb9 ∷ 0 ∷ 4 ∷ 1 ∷ 1 ∷ [], refusal 8 4)
    ∷ (0xba ∷ 0 ∷ 5 ∷ 0 ∷ 1 ∷ [], refusal 8 3)
    ∷ (0xbc ∷ 3 ∷ [], refusal 9 1)
    ∷ (0xbc ∷ 12 ∷ [], refusal 9 1)
    ∷ [])

-- the code of a switch: bytes before it, its opcode, padding and words
abbrev word : ℕ → List ℕ
word low = 0 ∷ 0 ∷ 0 ∷ low ∷ []

abbrev minus_one : List ℕ
minus_one = 0xff ∷ 0xff ∷ 0xff ∷ 0xff ∷ []

-- the least and the largest signed word
abbrev least : List ℕ
least = 0x80 ∷ 0 ∷ 0 ∷ 0 ∷ []

abbrev largest : List ℕ
largest = 0x7f ∷ 0xff ∷ 0xff ∷ 0xff ∷ []

-- where the step starts, and the code: proved as `switches_compute`
abbrev pub SwitchesCompute : Type 0
SwitchesCompute =
    Computes (λ (q : ℕ × List ℕ). by_number (step_of q.1 pool (offset q.0))) (
    -- padding of three bytes, of any value, and of none
    ((0, 0xaa ∷ 1 ∷ 2 ∷ 3 ∷ word 24 ++ word 0 ++ word 1 ++ word 24 ++ word 24), Ok (instruction.TableSwitch 24 0 1 (offset 16) 2, offset 24))
    ∷ ((3, 0 ∷ 0 ∷ 0 ∷ 0xaa ∷ word 9 ++ word 5 ++ word 5 ++ word 9), Ok (instruction.TableSwitch 9 5 5 (offset 16) 1, offset 20))
    -- from -1 to 0
    ∷ ((3, 0 ∷ 0 ∷ 0 ∷ 0xaa ∷ word 9 ++ minus_one ++ word 0 ++ word 9 ++ word 9), Ok (instruction.TableSwitch 9 0xffff_ffff 0 (offset 16) 2, offset 24))
    -- low > high, and more entries than a signed word counts, at the high word
    ∷ ((3, 0 ∷ 0 ∷ 0 ∷ 0xaa ∷ word 9 ++ word 1 ++ word 0), refusal 10 12)
    ∷ ((3, 0 ∷ 0 ∷ 0 ∷ 0xaa ∷ word 9 ++ least ++ largest), refusal 10 12)
    ∷ ((3, 0 ∷ 0 ∷ 0 ∷ 0xaa ∷ word 9 ++ word 0 ++ largest), refusal 10 12)
    -- so many are allowed, and the first does not fit
    ∷ ((3, 0 ∷ 0 ∷ 0 ∷ 0xaa ∷ word 9 ++ word 1 ++ largest), refusal 3 16)
    -- the second of two entries is cut short; padding past the end
    ∷ ((3, 0 ∷ 0 ∷ 0 ∷ 0xaa ∷ word 9 ++ word 0 ++ word 1 ++ word 9 ++ 0 ∷ 0 ∷ 0 ∷ []), refusal 3 20)
    ∷ ((0, 0xaa ∷ []), refusal 3 4)
    ∷ ((0, 0xaa ∷ 0 ∷ 0 ∷ 0 ∷ word 9 ++ word 0), refusal 3 12)
    -- no pairs, and one whose keys need no order
    ∷ ((3, 0 ∷ 0 ∷ 0 ∷ 0xab ∷ word 9 ++ word 0), Ok (instruction.LookupSwitch 9 (offset 12) 0, offset 12))
    ∷ ((3, 0 ∷ 0 ∷ 0 ∷ 0xab ∷ word 9 ++ word 1 ++ minus_one ++ word 9), Ok (instruction.LookupSwitch 9 (offset 12) 1, offset 20))
    -- a negative count, at the count; a pair cut short at its jump
    ∷ ((3, 0 ∷ 0 ∷ 0 ∷ 0xab ∷ word 9 ++ least), refusal 11 8)
    ∷ ((3, 0 ∷ 0 ∷ 0 ∷ 0xab ∷ word 9 ++ word 1 ++ word 7 ++ 0 ∷ []), refusal 3 16)
    ∷ [])
