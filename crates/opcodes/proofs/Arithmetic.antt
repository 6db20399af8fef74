-- The code finds kinds and forms after wide by ranges. It agrees with the lists, computed once over each range.
use Prim.Native.Nat.{ℕ, ◌+◌, ◌-◌, ◌/◌, ◌≤◌, ◌<◌, zero-le}
use mathlib.Core.Path.{◌≡◌, refl, ap, sym}
use native.Mathlib.Omega.{arith}
use lib.ListN.{get_or-eq_default}
use Rattle.laws.specs.Listed.{listed}
use Rattle.laws.proofs.Listed.{listed_same}
use Rattle.opcodes.specs.declared.WideForm.TheVariants as wide
use Rattle.opcodes.specs.InstructionKinds.{instruction_kinds, kind_of}
use Rattle.opcodes.specs.Wide.{wide_forms, wide_form_of}

-- what is computed over the bytes from one up to another, which is not among them
run : {A : Type 0} (f g : ℕ → A) (from n : ℕ) → listed f from n ≡ listed g from n → (b : ℕ) → from ≤ b → b < from + n → f b ≡ g b
run f g from n e b = listed_same f g n from e b

module _ (b : ℕ) where
  pub short_load : 0x1a ≤ b → b ≤ 0x2d → 0x15 + (b - 0x1a) / 4 ≡ kind_of b
  unfolding listed instruction_kinds kind_of
  short_load h k = run (λ (x : ℕ). 0x15 + (x - 0x1a) / 4) kind_of 0x1a 20 refl b h (omega arith)

  pub short_store : 0x3b ≤ b → b ≤ 0x4e → 0x36 + (b - 0x3b) / 4 ≡ kind_of b
  unfolding listed instruction_kinds kind_of
  short_store h k = run (λ (x : ℕ). 0x36 + (x - 0x3b) / 4) kind_of 0x3b 20 refl b h (omega arith)

  pub long_goto : b ≡ 0xc8 → 0xa7 ≡ kind_of b
  unfolding instruction_kinds kind_of
  long_goto e = ap kind_of (sym e)

  pub long_jsr : b ≡ 0xc9 → 0xa8 ≡ kind_of b
  unfolding instruction_kinds kind_of
  long_jsr e = ap kind_of (sym e)

  -- every other byte is its own kind
  pub own_to_aload : b < 0x1a → b ≡ kind_of b
  unfolding listed instruction_kinds kind_of
  own_to_aload h = run (λ (x : ℕ). x) kind_of 0 0x1a refl b zero-le h

  pub own_to_astore : 0x2d < b → b < 0x3b → b ≡ kind_of b
  unfolding listed instruction_kinds kind_of
  own_to_astore h k = run (λ (x : ℕ). x) kind_of 0x2e 13 refl b h (omega arith)

  pub own_to_ifnonnull : 0x4e < b → b < 0xc8 → b ≡ kind_of b
  unfolding listed instruction_kinds kind_of
  own_to_ifnonnull h k = run (λ (x : ℕ). x) kind_of 0x4f 121 refl b h (omega arith)

  pub own_to_impdep2 : 0xc9 < b → b < 256 → b ≡ kind_of b
  unfolding listed instruction_kinds kind_of
  own_to_impdep2 h k = run (λ (x : ℕ). x) kind_of 0xca 54 refl b h (omega arith)

  pub wide_load : 0x15 ≤ b → b ≤ 0x19 → wide.Local ≡ wide_form_of b
  unfolding listed wide_forms wide_form_of
  wide_load h k = run (λ (x : ℕ). wide.Local) wide_form_of 0x15 5 refl b h (omega arith)

  pub wide_store : 0x36 ≤ b → b ≤ 0x3a → wide.Local ≡ wide_form_of b
  unfolding listed wide_forms wide_form_of
  wide_store h k = run (λ (x : ℕ). wide.Local) wide_form_of 0x36 5 refl b h (omega arith)

  pub wide_ret : b ≡ 0xa9 → wide.Local ≡ wide_form_of b
  unfolding wide_forms wide_form_of
  wide_ret e = ap wide_form_of (sym e)

  pub wide_iinc : b ≡ 0x84 → wide.Increment ≡ wide_form_of b
  unfolding wide_forms wide_form_of
  wide_iinc e = ap wide_form_of (sym e)

  -- wide modifies no other byte
  pub none_to_ldc2_w : b < 0x15 → wide.NoInstruction ≡ wide_form_of b
  unfolding listed wide_forms wide_form_of
  none_to_ldc2_w h = run (λ (x : ℕ). wide.NoInstruction) wide_form_of 0 0x15 refl b zero-le h

  pub none_to_saload : 0x19 < b → b < 0x36 → wide.NoInstruction ≡ wide_form_of b
  unfolding listed wide_forms wide_form_of
  none_to_saload h k = run (λ (x : ℕ). wide.NoInstruction) wide_form_of 0x1a 28 refl b h (omega arith)

  pub none_to_lxor : 0x3a < b → b < 0x84 → wide.NoInstruction ≡ wide_form_of b
  unfolding listed wide_forms wide_form_of
  none_to_lxor h k = run (λ (x : ℕ). wide.NoInstruction) wide_form_of 0x3b 73 refl b h (omega arith)

  pub none_to_jsr : 0x84 < b → b < 0xa9 → wide.NoInstruction ≡ wide_form_of b
  unfolding listed wide_forms wide_form_of
  none_to_jsr h k = run (λ (x : ℕ). wide.NoInstruction) wide_form_of 0x85 36 refl b h (omega arith)

  pub none_past_ret : 0xa9 < b → wide.NoInstruction ≡ wide_form_of b
  unfolding wide_form_of wide_forms
  none_past_ret h = sym (get_or-eq_default wide_forms wide.NoInstruction h)

pub ruleset kinds_by_range = (short_load, short_store, long_goto, long_jsr, own_to_aload, own_to_astore, own_to_ifnonnull, own_to_impdep2)

pub ruleset forms_by_range = (wide_load, wide_store, wide_ret, wide_iinc, none_to_ldc2_w, none_to_saload, none_to_lxor, none_to_jsr, none_past_ret)
