-- The method identifier, document 01, "Texts".
use Rattle.std.specs.Prelude.{ℕ, true, false, List, ◌++◌, length, Result, Ok, Err}
use Rattle.refusals.specs.declared.Reason.TheVariants as reason
use Rattle.refusals.specs.declared.Refusal.{Refusal}
use Rattle.refusals.specs.Numbers.{refused}
use Rattle.names.specs.Names.{is_method_name}
use Rattle.methods.specs.Texts.{method_check}
use Rattle.output.specs.Output.{Output, writing, output_after}

-- The bytes of an identifier: the name's, followed by the descriptor's
unfoldable pub identifier_bytes : List ℕ → List ℕ → List ℕ
identifier_bytes name descriptor = name ++ descriptor

-- the refusal, or what follows where there is none
unfoldable pub unless_refused : {T U : Type 0} → Result T (Refusal ℕ) → Result U (Refusal ℕ) → Result U (Refusal ℕ)
unless_refused (Ok accepted) follows = follows
unless_refused (Err r) follows = Err r

-- 32: the name is not valid, with both special names allowed. Then the refusal of the whole descriptor, at its place in
-- the descriptor
unfoldable pub check_method : List ℕ → List ℕ → Result Unit (Refusal ℕ)
check_method name descriptor =
    elim (is_method_name true true name) [
      | true ↦ unless_refused (method_check descriptor) (Ok tt)
      | false ↦ Err (refused reason.NameNotValid 0)
    ]

-- Then the room
unfoldable pub identifying : List ℕ → List ℕ → ℕ → Output
identifying name descriptor room = unless_refused (check_method name descriptor) (writing (identifier_bytes name descriptor) room)

-- the output afterwards
abbrev pub identifier_output : List ℕ → List ℕ → List ℕ → List ℕ
identifier_output name descriptor out = output_after (identifying name descriptor (length out)) (identifier_bytes name descriptor) out
