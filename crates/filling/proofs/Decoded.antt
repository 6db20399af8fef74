-- What a decoded instruction tells: the bounds of a table count its entries, and only a switch has the kind of a switch.
use Prim.Native.Nat.{ℕ, ◌≤◌, ◌<◌, zero-le}
use mathlib.Core.Bool.{Bool, true, false}
use mathlib.Core.List.{List}
use mathlib.Core.Path.{◌≡◌, refl, sym, ap, ◌∙◌, subst}
use native.Mathlib.Omega.{arith}
use borrow.Author.Tests.{leb-true, leb-false, eqb-true, eq-eqb}
use lib.Dec.{eqb, leb}
use lib.ListN.{get_or-eq_default}
use Rattle.laws.specs.Listed.{listed}
use Rattle.laws.proofs.Listed.{listed_same}
use Rattle.read.specs.declared.CodeOffset.{CodeOffset}
use Rattle.read.specs.Reads.{after}
use Rattle.opcodes.specs.Formats.{formats, format_of}
use Rattle.opcodes.specs.InstructionKinds.{instruction_kinds, kind_of}
use Rattle.opcodes.specs.Wide.{wide_forms, wide_form_of}
use Rattle.opcodes.specs.Operands.{Operand, Layout, WideLayout, layout_of, wide_layout_of}
use Rattle.ordinary.specs.declared.Instruction.{Instruction}
use Rattle.ordinary.specs.declared.Instruction.TheVariants as instruction
use Rattle.std.specs.Prelude.{Some, Ok}
use Rattle.switches.specs.Switches.{entry_count}
use Rattle.switches.proofs.Counts.{counts_as}
use Rattle.instruction.specs.Steps.{step_of}
use Rattle.instruction.specs.Pictures.{Follows}
use Rattle.instruction.proofs.Exactly.{step_exactly}
use Rattle.filling.specs.Theorems.{TableCounted, OrdinaryKind}

-- of all bytes only that of a switch has its kind
abbrev OnlyItself : ℕ → Type 0
OnlyItself kind = listed (λ (byte : ℕ). eqb (kind_of byte) kind) 0 256 ≡ listed (λ (byte : ℕ). eqb byte kind) 0 256

table_itself : OnlyItself 0xaa
unfolding listed instruction_kinds kind_of
table_itself = refl

lookup_itself : OnlyItself 0xab
unfolding listed instruction_kinds kind_of
lookup_itself = refl

past_kinds : (byte : ℕ) → 256 ≤ byte → kind_of byte ≡ 0
unfolding instruction_kinds kind_of
past_kinds byte h = get_or-eq_default instruction_kinds 0 h

own_byte : (kind byte : ℕ) → 0 < kind → OnlyItself kind → kind_of byte ≡ kind → byte ≡ kind
own_byte kind byte some all e = go (leb 256 byte) refl
  where
    go : (t : Bool) → leb 256 byte ≡ t → byte ≡ kind
    go true q = absurd (let none = past_kinds byte (leb-true _ _ q) in omega arith)
    go false q = eqb-true byte kind (sym (listed_same (λ (b : ℕ). eqb (kind_of b) kind) (λ (b : ℕ). eqb b kind) 256 0 all byte zero-le (let small = leb-false 256 byte q in omega arith)) ∙ eq-eqb (kind_of byte) kind e)

-- so what has not the byte of a switch has not its kind
abbrev NoSwitch : ℕ → Type 0
NoSwitch kind = (kind ≡ 0xaa → ⊥) × (kind ≡ 0xab → ⊥)

same_kind : (byte : ℕ) → NoSwitch byte → NoSwitch (kind_of byte)
same_kind byte h = (λ e. h.0 (own_byte 0xaa byte (omega arith) table_itself e), λ e. h.1 (own_byte 0xab byte (omega arith) lookup_itself e))

-- the byte of a switch has no operands, alone or after wide
with_operands : {A : Type 0} (Bare : A → Type 0) (lay : ℕ → A) → Bare (lay 0xaa) → Bare (lay 0xab) → (byte : ℕ) (a : A) → (Bare a → ⊥) → lay byte ≡ a → NoSwitch byte
with_operands Bare lay table lookup byte a full e = (λ is. full (subst Bare (ap lay (sym is) ∙ e) table), λ is. full (subst Bare (ap lay (sym is) ∙ e) lookup))

abbrev Bare : Layout → Type 0
Bare (Layout.operands os) = ⊥
Bare Layout.wide = Unit {0}
Bare Layout.table_switch = Unit {0}
Bare Layout.lookup_switch = Unit {0}
Bare Layout.none = Unit {0}

alone : (byte : ℕ) (os : List Operand) → layout_of (format_of byte) ≡ Layout.operands os → NoSwitch byte
unfolding formats format_of
alone byte os e = with_operands Bare (λ byte. layout_of (format_of byte)) tt tt byte (Layout.operands os) (λ b. b) e

abbrev WideBare : WideLayout → Type 0
WideBare (WideLayout.operands os) = ⊥
WideBare WideLayout.none = Unit {0}

after_wide : (byte : ℕ) (os : List Operand) → wide_layout_of (wide_form_of byte) ≡ WideLayout.operands os → NoSwitch byte
unfolding wide_forms wide_form_of
after_wide byte os e = with_operands WideBare (λ byte. wide_layout_of (wide_form_of byte)) tt tt byte (WideLayout.operands os) (λ b. b) e

-- what an instruction says by its picture: an ordinary one has another kind, and the bounds of a table count its entries
abbrev Told : Instruction → Type 0
Told (instruction.Ordinary kind a b) = NoSwitch kind
Told (instruction.TableSwitch default low high from count) = Some count ≡ entry_count low high
Told (instruction.LookupSwitch default from count) = Unit {0}

told : (byte : ℕ) (at : CodeOffset) (l : Layout) → layout_of (format_of byte) ≡ l → (i : Instruction) (bytes : List ℕ) → Follows (kind_of byte) at l i bytes → Told i
told byte at (Layout.operands os) laid i bytes p = subst Told (sym p.is) (same_kind byte (alone byte os laid))
told byte at Layout.wide laid i bytes p = subst Told (sym p.picture.is) (after_wide p.byte p.operands p.form)
told byte at Layout.table_switch laid i bytes p = subst Told (sym p.is) (sym (counts_as _ _ p.counted p.some p.few))
told byte at Layout.lookup_switch laid i bytes p = subst Told (sym p.is) tt
told byte at Layout.none laid i bytes p = absurd p

decoded : (code pool : List ℕ) (at : CodeOffset) (i : Instruction) (next : CodeOffset) → step_of code pool at ≡ Ok (i, next) → Told i
decoded code pool at i next e =
    let p = ((step_exactly code pool at i next).0 e).picture in
    told p.opcode (after 1 at) (layout_of (format_of p.opcode)) refl i p.rest p.follows

pub table_counted : TableCounted
table_counted code pool at default low high from count = decoded code pool at (instruction.TableSwitch default low high from count)

pub ordinary_kind : OrdinaryKind
ordinary_kind code pool at kind a b = decoded code pool at (instruction.Ordinary kind a b)
