-- Each theorem is computed once over the table.
use Prim.Native.Nat.{ℕ, ◌+◌, ◌≤◌, ◌<◌}
use mathlib.Core.Bool.{Bool, true, false, So, not, ◌||◌, false≢true}
use mathlib.Core.List.{List, [], ◌∷◌, ◌++◌, map}
use mathlib.Core.Path.{◌≡◌, refl, sym, ap, ◌∙◌}
use native.Mathlib.Omega.{arith}
use borrow.Author.Tests.{eqb-true, leb-true, leb-false}
use lib.Dec.{eqb, leb}
use lib.ListN.{get_or, get_or-map, get_or-eq_default}
use Rattle.laws.specs.Bytes.{ascii, every, same_text}
use Rattle.laws.specs.Listed.{listed}
use Rattle.laws.proofs.Bytes.{same_text_lem}
use Rattle.laws.proofs.Lists.{every_in}
use Rattle.laws.proofs.Listed.{in_listed}
use Rattle.opcodes.specs.declared.Format.{Format}
use Rattle.opcodes.specs.declared.Format.TheVariants as format
use Rattle.opcodes.specs.Formats.{formats, format_of}
use Rattle.opcodes.specs.InstructionKinds.{instruction_kinds, kind_of}
use Rattle.phrases.specs.Numbers.{decimal, digits_within}
use Rattle.phrases.proofs.Texts.{text_short}
use Rattle.mnemonics.specs.Mnemonics.{mnemonics, mnemonic_of}
use Rattle.mnemonics.specs.Theorems.{is_named, is_instruction, NamedExactly, ShortForms, WideJumps, NoTwoAlike, MnemonicShort}
use Rattle.mnemonics.proofs.Table.{all_short}

pub mnemonic_short : MnemonicShort
unfolding mnemonic_of
mnemonic_short byte = text_short (map ascii mnemonics) 15 byte all_short

named_all : map is_named (map ascii mnemonics) ≡ map is_instruction formats
unfolding mnemonics formats is_instruction
named_all = refl

pub named_exactly : NamedExactly
unfolding mnemonic_of format_of is_instruction
named_exactly byte =
    sym (get_or-map is_named (map ascii mnemonics) byte [])
    ∙ ap (λ (l : List Bool). get_or l byte false) named_all
    ∙ get_or-map is_instruction formats byte format.NoInstruction

pub wide_jumps : WideJumps
unfolding mnemonics mnemonic_of instruction_kinds kind_of
wide_jumps = (refl, refl)

-- a test passed by each byte
each_byte : (p : ℕ → Bool) → So (every p (listed (λ (i : ℕ). i) 0 256)) → (byte : ℕ) → byte < 256 → So (p byte)
each_byte p h byte small = (every_in p (listed (λ (i : ℕ). i) 0 256)).0 h byte ((in_listed (λ (i : ℕ). i) 256 0).1 (byte, omega arith, omega arith, refl))

-- past the table there is no instruction
past : (byte : ℕ) → 256 ≤ byte → format_of byte ≡ format.NoInstruction
unfolding format_of formats
past byte h = get_or-eq_default formats format.NoInstruction h

-- the short form's mnemonic as a test
abbrev is_short_form : Format → ℕ → Bool
is_short_form format.Plain byte = true
is_short_form format.SignedByte byte = true
is_short_form format.SignedShort byte = true
is_short_form format.Local byte = true
is_short_form (format.ImpliedLocal n) byte = same_text (mnemonic_of byte) (mnemonic_of (kind_of byte) ++ ascii "_" ++ decimal n)
is_short_form format.Increment byte = true
is_short_form format.Jump2 byte = true
is_short_form format.Jump4 byte = true
is_short_form (format.Index1 kinds) byte = true
is_short_form (format.Index2 kinds after) byte = true
is_short_form format.ArrayTag byte = true
is_short_form format.Wide byte = true
is_short_form format.TableSwitch byte = true
is_short_form format.LookupSwitch byte = true
is_short_form format.NoInstruction byte = true

short_forms_all : So (every (λ (byte : ℕ). is_short_form (format_of byte) byte) (listed (λ (i : ℕ). i) 0 256))
unfolding every listed same_text formats format_of instruction_kinds kind_of mnemonics mnemonic_of decimal digits_within
short_forms_all = refl

pub short_forms : ShortForms
short_forms byte n e = go (leb 256 byte) refl
  where
    go : (t : Bool) → leb 256 byte ≡ t → mnemonic_of byte ≡ mnemonic_of (kind_of byte) ++ ascii "_" ++ decimal n
    go true l = absurd (let z : ◌≡◌ {A = ℕ} 0 1 = cc (past byte (leb-true _ _ l)) in omega arith)
    go false l = (same_text_lem _ _).0 (rw (e) at (each_byte (λ (b : ℕ). is_short_form (format_of b) b) short_forms_all byte (leb-false _ _ l)))

-- the first byte with a mnemonic, counted from i on
abbrev first_with : List ℕ → ℕ → List (List ℕ) → ℕ
first_with name i [] = i
first_with name i (text ∷ texts) = elim (same_text name text) [ true ↦ i | false ↦ first_with name (i + 1) texts ]

found_all : So (every (λ (byte : ℕ). not (is_instruction (format_of byte)) || eqb (first_with (mnemonic_of byte) 0 (map ascii mnemonics)) byte) (listed (λ (i : ℕ). i) 0 256))
unfolding every listed same_text formats format_of is_instruction mnemonics mnemonic_of
found_all = refl

found : (byte : ℕ) → So (is_instruction (format_of byte)) → first_with (mnemonic_of byte) 0 (map ascii mnemonics) ≡ byte
unfolding is_instruction
found byte h = go (leb 256 byte) refl
  where
    go : (t : Bool) → leb 256 byte ≡ t → first_with (mnemonic_of byte) 0 (map ascii mnemonics) ≡ byte
    go true l = absurd (false≢true (sym (ap is_instruction (past byte (leb-true _ _ l))) ∙ h))
    go false l =
        eqb-true _ _ (ap (λ (t : Bool). not t || eqb (first_with (mnemonic_of byte) 0 (map ascii mnemonics)) byte) (sym h)
        ∙ each_byte (λ (b : ℕ). not (is_instruction (format_of b)) || eqb (first_with (mnemonic_of b) 0 (map ascii mnemonics)) b) found_all byte (leb-false _ _ l))

pub no_two_alike : NoTwoAlike
no_two_alike a b h e =
    let other : So (is_instruction (format_of b)) = sym (named_exactly b) ∙ ap is_named (sym e) ∙ named_exactly a ∙ h in
    sym (found a h) ∙ ap (λ (name : List ℕ). first_with name 0 (map ascii mnemonics)) e ∙ found b other
