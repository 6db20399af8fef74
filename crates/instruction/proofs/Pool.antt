-- A step depends on the pool table only through the entries that its instruction names.
use Prim.Native.Nat.{ℕ, ◌+◌, ◌≤◌, ◌<◌}
use mathlib.Core.Bool.{Bool, true, false}
use mathlib.Core.List.Memᴰ
use mathlib.Core.List.{List, [], ◌∷◌, ◌++◌}
use mathlib.Core.Path.{◌≡◌, refl, sym, ap, ◌∙◌, subst}
use native.Mathlib.Omega.{arith}
use borrow.Author.Tests.{leb-true, leb-false}
use lib.Dec.{leb}
use lib.ListN.{length, get_or}
use Rattle.laws.specs.Bytes.{In}
use Rattle.read.specs.declared.CodeOffset.{CodeOffset}
use Rattle.std.specs.Prelude.{Option, Ok, Err}
use Rattle.refusals.specs.declared.Reason.{Reason}
use Rattle.read.specs.Reads.{Read, after, read_of}
use Rattle.pool.specs.Entries.{Entry, entry_at, of_kind}
use Rattle.opcodes.specs.Formats.{format_of}
use Rattle.opcodes.specs.InstructionKinds.{kind_of}
use Rattle.opcodes.specs.Operands.{Meaning, Operand, Layout, layout_of}
use Rattle.operands.specs.Checks.{unless_fault, fault_in, meant, operand_at}
use Rattle.operands.proofs.Parts.{same_end}
use Rattle.operands.proofs.Exactly.{finds, operand_exactly}
use Rattle.ordinary.specs.Ordinary.{Step, then_read, operands_from}
use Rattle.instruction.specs.Steps.{laid_out, step_of}
use Rattle.instruction.specs.Names.{index_of, indexes_from, indexes_in}
use Rattle.instruction.specs.Theorems.{StepPool}
use Rattle.instruction.proofs.Laws.{wide_alone, past_end, at_opcode}

-- two ways to go on that agree on what the read found
then_same : (r : Read) {f g : ℕ → CodeOffset → Step} → ((v : ℕ) (next : CodeOffset) → r ≡ Ok (v, next) → f v next ≡ g v next) → then_read r f ≡ then_read r g
then_same (Ok found) same = same found.0 found.1 refl
then_same (Err r) same = refl

-- two faults that do
unless_same : {fault other : ℕ → Option Reason} (at : CodeOffset) (found : Read) → ((v : ℕ) (next : CodeOffset) → found ≡ Ok (v, next) → fault v ≡ other v) → unless_fault fault at found ≡ unless_fault other at found
unfolding unless_fault
unless_same at (Ok found) same = ap (λ (k : Option Reason). unless_fault (λ x. k) at (Ok found)) (same found.0 found.1 refl)
unless_same at (Err r) same = refl

module _ (code pool other : List ℕ) where
  -- the tables agree on the entries at these indexes
  abbrev Agree : List ℕ → Type 0
  Agree indexes = (i : ℕ) → In i indexes → entry_at pool i ≡ entry_at other i

  meant_same : (n : ℕ) (meaning : Meaning) (at : CodeOffset) → Agree (index_of code n at.0 meaning) → meant pool n meaning at (read_of n code at) ≡ meant other n meaning at (read_of n code at)
  meant_same n Meaning.unsigned at agree = refl
  meant_same n Meaning.signed at agree = refl
  meant_same n (Meaning.index kinds) at agree =
      unless_same at (read_of n code at)
      (λ v next e. ap (λ (x : Entry). fault_in (of_kind kinds x)) (agree v (Memᴰ.head (finds n code at v next e).number)))
  meant_same n Meaning.zero at agree = refl
  meant_same n Meaning.array_tag at agree = refl

  -- and on those of the operands that start at an offset within the code
  abbrev AgreeFrom : List Operand → CodeOffset → Type 0
  AgreeFrom os at = (at.0 ≤ length code) × Agree (indexes_from code at.0 os)

  operand_same : (o : Operand) (os : List Operand) (at : CodeOffset) → AgreeFrom (o ∷ os) at → operand_at code pool o at ≡ operand_at code other o at
  unfolding indexes_from
  operand_same (Operand.implied v) os at agree = refl
  operand_same (Operand.bytes n meaning) os at agree = meant_same n meaning at (λ i m. agree.1 i (Memᴰ.append_left (indexes_from code (at.0 + n) os) m))

  agree_after : (o : Operand) (os : List Operand) (at : CodeOffset) (v : ℕ) (next : CodeOffset) → operand_at code pool o at ≡ Ok (v, next) → AgreeFrom (o ∷ os) at → AgreeFrom os next
  unfolding indexes_from
  agree_after (Operand.implied k) os at v next e agree = subst (AgreeFrom os) (same_end e) agree
  agree_after (Operand.bytes n meaning) os at v next e agree =
      let s = (operand_exactly code pool (Operand.bytes n meaning) at v next agree.0).0 e in
      let size : length s.bytes ≡ n = s.drawn.0 in
      subst (AgreeFrom os) (ap (λ (k : ℕ). after k at) (sym size) ∙ sym s.place) (rw (sym size) s.stand.within, λ i m. agree.1 i (Memᴰ.append_right (index_of code n at.0 meaning) m))

  operands_same : (kind : ℕ) (values : List ℕ) (os : List Operand) (at : CodeOffset) → AgreeFrom os at → operands_from code pool kind values os at ≡ operands_from code other kind values os at
  unfolding operands_from
  operands_same kind values [] at agree = refl
  operands_same kind values (o ∷ os) at agree =
      then_same (operand_at code pool o at) (λ v next e. operands_same kind (values ++ v ∷ []) os next (agree_after o os at v next e agree))
      ∙ ap (λ (r : Read). then_read r (λ v next. operands_from code other kind (values ++ v ∷ []) os next)) (operand_same o os at agree)

  laid_same : (kind : ℕ) (place at : CodeOffset) → at.0 ≤ length code → (l : Layout) → Agree (indexes_in code at.0 l) → laid_out code pool kind place at l ≡ laid_out code other kind place at l
  laid_same kind place at h (Layout.operands os) agree = operands_same kind [] os at (h, agree)
  laid_same kind place at h Layout.wide agree = sym (wide_alone code pool at) ∙ wide_alone code other at
  laid_same kind place at h Layout.table_switch agree = refl
  laid_same kind place at h Layout.lookup_switch agree = refl
  laid_same kind place at h Layout.none agree = refl

pub step_pool : StepPool
step_pool code pool other at agree = go (leb (length code) at.0) refl
  where
    go : (past : Bool) → leb (length code) at.0 ≡ past → step_of code pool at ≡ step_of code other at
    go true q =
        let past : length code ≤ at.0 = leb-true _ _ q in
        sym (past_end code pool at past) ∙ past_end code other at past
    go false q =
        let byte : ℕ = get_or code at.0 0 in
        let inside : at.0 < length code = leb-false _ _ q in
        sym (at_opcode code pool at inside refl)
        ∙ at_opcode code other at inside (laid_same code pool other (kind_of byte) at (after 1 at) (omega arith) (layout_of (format_of byte)) agree)
