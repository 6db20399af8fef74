-- The mnemonics against the formats and kinds of the opcodes. The proofs are in proofs/Theorems.antt.
use Rattle.std.specs.Prelude.{ℕ, ◌≤◌, Bool, true, false, List, [], ◌∷◌, ◌++◌, ◌≡◌, length}
use Rattle.std.proofs.Math.Bool.{So}
use Rattle.laws.specs.Bytes.{ascii}
use Rattle.opcodes.specs.declared.Format.{Format}
use Rattle.opcodes.specs.declared.Format.TheVariants as format
use Rattle.opcodes.specs.Formats.{format_of}
use Rattle.opcodes.specs.Operands.{Layout, layout_of}
use Rattle.opcodes.specs.InstructionKinds.{kind_of}
use Rattle.phrases.specs.Numbers.{decimal}
use Rattle.mnemonics.specs.Mnemonics.{mnemonic_of}

abbrev pub is_named : List ℕ → Bool
is_named [] = false
is_named (b ∷ s) = true

unfoldable pub is_instruction : Format → Bool
is_instruction f =
    elim (layout_of f) [
      | Layout.operands s ↦ true
      | Layout.wide ↦ true
      | Layout.table_switch ↦ true
      | Layout.lookup_switch ↦ true
      | Layout.none ↦ false
    ]

-- A byte has a mnemonic exactly where it is an instruction: proved as `named_exactly`
abbrev pub NamedExactly : Type 0
NamedExactly = (byte : ℕ) → is_named (mnemonic_of byte) ≡ is_instruction (format_of byte)

-- A byte that implies a local is named by its kind and the local's number: proved as `short_forms`
abbrev pub ShortForms : Type 0
ShortForms = (byte n : ℕ) → format_of byte ≡ format.ImpliedLocal n → mnemonic_of byte ≡ mnemonic_of (kind_of byte) ++ ascii "_" ++ decimal n

-- goto_w and jsr_w: proved as `wide_jumps`
abbrev pub WideJumps : Type 0
WideJumps = (mnemonic_of 0xc8 ≡ mnemonic_of (kind_of 0xc8) ++ ascii "_w") × (mnemonic_of 0xc9 ≡ mnemonic_of (kind_of 0xc9) ++ ascii "_w")

-- No two instructions share a mnemonic: proved as `no_two_alike`
abbrev pub NoTwoAlike : Type 0
NoTwoAlike = (a b : ℕ) → So (is_instruction (format_of a)) → mnemonic_of a ≡ mnemonic_of b → a ≡ b

-- proved as `mnemonic_short`
abbrev pub MnemonicShort : Type 0
MnemonicShort = (byte : ℕ) → length (mnemonic_of byte) ≤ 15
