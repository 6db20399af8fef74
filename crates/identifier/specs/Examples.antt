-- Worked identifiers: the name, the descriptor and the output's length, and the answer or the output. Proved in
-- proofs/Examples.antt.
use Rattle.std.specs.Prelude.{ℕ, [], ◌∷◌, ◌++◌, replicate, Ok, Err}
use Prim.Native.String.{String}
use Rattle.laws.specs.Bytes.{byte, ascii}
use Rattle.laws.specs.Examples.{Computes}
use Rattle.refusals.specs.Answers.{by_number}
use Rattle.identifier.specs.Identifier.{identifying, identifier_output}

-- proved as `identifiers_compute`
abbrev pub IdentifiersCompute : Type 0
IdentifiersCompute =
    Computes (λ (e : String × String × ℕ). by_number (identifying (ascii e.0) (ascii e.1) e.2)) (
    (("run", "()V", 6), Ok 6)
    ∷ (("run", "()V", 9), Ok 6)
    ∷ (("<init>", "(I)V", 10), Ok 10)
    ∷ (("<clinit>", "()V", 11), Ok 11)
    -- 32: the name, looked at first
    ∷ (("", "()V", 9), Err (32, 0))
    ∷ (("a;", "()V", 9), Err (32, 0))
    ∷ (("<other>", "()V", 99), Err (32, 0))
    ∷ (("a/b", "X", 0), Err (32, 0))
    -- the descriptor's refusals, at their place in the descriptor
    ∷ (("run", "(I", 9), Err (22, 2))
    ∷ (("run", "()VV", 9), Err (23, 2))
    ∷ (("run", "(L;)V", 9), Err (25, 2))
    ∷ (("run", "(La", 9), Err (27, 3))
    ∷ (("run", "", 9), Err (29, 0))
    ∷ (("run", "()II", 0), Err (31, 3))
    -- 33: one byte short
    ∷ (("run", "()V", 5), Err (33, 0))
    ∷ [])

-- the output, each byte 7 before: proved as `identifier_outputs_compute`
abbrev pub IdentifierOutputsCompute : Type 0
IdentifierOutputsCompute =
    Computes (λ (e : String × String × ℕ). identifier_output (ascii e.0) (ascii e.1) (replicate e.2 7)) (
    (("run", "(I)V", 9), ascii "run(I)V" ++ 7 ∷ 7 ∷ [])
    ∷ (("<init>", "()V", 9), ascii "<init>()V")
    ∷ (("run", "()V", 5), replicate 5 7)
    ∷ (("run", "()VV", 9), replicate 9 7)
    ∷ (("", "()V", 9), replicate 9 7)
    ∷ [])

-- a name over the limit gets 32, a descriptor over it 21: the lengths of the two, each made of a . Proved as
-- `identifier_limits_compute`
abbrev pub IdentifierLimitsCompute : Type 0
IdentifierLimitsCompute =
    Computes (λ (e : ℕ × ℕ). by_number (identifying (replicate e.0 (byte "a")) (replicate e.1 (byte "a")) 0)) (
    ((65536, 65536), Err (32, 0))
    ∷ ((65535, 65536), Err (21, 0))
    ∷ ((65535, 65535), Err (29, 0))
    ∷ [])
