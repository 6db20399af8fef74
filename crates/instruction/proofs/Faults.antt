-- A step is refused exactly for its fault, and the numbers of its refusals.
use Prim.Native.Nat.{ℕ, ◌+◌, ◌≤◌, ◌<◌}
use mathlib.Core.Bool.{So, ◌&&◌, and-eq-true_iff}
use mathlib.Core.List.{List}
use mathlib.Core.Path.{◌≡◌, refl, sym, ap, ◌∙◌, subst}
use native.Mathlib.Omega.{arith}
use borrow.Author.Tests.{leb-true}
use lib.Dec.{leb}
use lib.ListN.{length}
use Rattle.laws.specs.Bytes.{In, one_of, every}
use Rattle.laws.proofs.Bytes.{one_of_lem}
use Rattle.laws.proofs.Lists.{every_in}
use Rattle.read.specs.declared.CodeOffset.{CodeOffset}
use Rattle.std.specs.Prelude.{Err}
use Rattle.refusals.specs.declared.Reason.{Reason}
use Rattle.refusals.specs.declared.Reason.TheVariants as reason
use Rattle.refusals.specs.Numbers.{refused, number_of}
use Rattle.refusals.proofs.Numbers.{numbers_differ}
use Rattle.read.specs.Reads.{Read, big_endian, after, read_of}
use Rattle.opcodes.specs.Formats.{format_of}
use Rattle.opcodes.specs.InstructionKinds.{kind_of}
use Rattle.opcodes.specs.Operands.{Meaning, Operand, Layout, layout_of}
use Rattle.operands.specs.Faults.{WrongIndex, Wrong, BytesFault, OperandFault}
use Rattle.operands.proofs.Parts.{same_reason, same_place}
use Rattle.operands.proofs.Exactly.{byte_there, byte_read}
use Rattle.operands.proofs.Faults.{read_refused}
use Rattle.ordinary.specs.Ordinary.{then_read}
use Rattle.ordinary.specs.Faults.{WideFault}
use Rattle.ordinary.proofs.Faults.{Then, then_refused, operands_refused_exactly, wide_refused_exactly}
use Rattle.switches.specs.Faults.{TableFault, LookupFault}
use Rattle.switches.proofs.Faults.{table_refused_exactly, lookup_refused_exactly}
use Rattle.instruction.specs.Steps.{laid_out, step_of}
use Rattle.instruction.specs.Faults.{Opcode, StepFault, StepRefusedExactly, step_refusals, StepRefuses}

module _ (code pool : List ℕ) (at : CodeOffset) (why : Reason) (place : CodeOffset) where
  laid : (l : Layout) → Opcode code at l → (kind : ℕ) → laid_out code pool kind at (after 1 at) l ≡ Err (refused why place) → StepFault code pool at why place
  laid (Layout.operands os) o kind e = StepFault.of_operands os o ((operands_refused_exactly code pool kind os (after 1 at) why place o.stand.within).0 e)
  laid Layout.wide o kind e = StepFault.of_wide o ((wide_refused_exactly code pool (after 1 at) why place).0 e)
  laid Layout.table_switch o kind e = StepFault.of_table o ((table_refused_exactly code (after 1 at) why place).0 e)
  laid Layout.lookup_switch o kind e = StepFault.of_lookup o ((lookup_refused_exactly code (after 1 at) why place).0 e)
  laid Layout.none o kind e = StepFault.no_instruction (ap number_of (same_reason (sym e))) (same_place (sym e)) o

  to : step_of code pool at ≡ Err (refused why place) → StepFault code pool at why place
  unfolding step_of
  to e = go (then_refused (read_of 1 code at) (λ byte mid. laid_out code pool (kind_of byte) at mid (layout_of (format_of byte))) why place e)
    where
      go : Then (read_of 1 code at) (λ byte mid. laid_out code pool (kind_of byte) at mid (layout_of (format_of byte))) why place → StepFault code pool at why place
      go (Then.here r) =
          let f = (read_refused 1 code at why place).0 r in
          StepFault.past_end f.0 f.1 (let past : length code < at.0 + 1 = f.2 in omega arith)
      go (Then.further_on byte mid r d) =
          let b = byte_there code at byte mid r in
          laid (layout_of (format_of byte)) (record { byte = byte; stand = b.0; layout = refl }) (kind_of byte)
          (subst (λ (m : CodeOffset). laid_out code pool (kind_of byte) at m (layout_of (format_of byte)) ≡ Err (refused why place)) b.1 d)

  -- the step at an opcode is what its format lays out
  opened : {l : Layout} (o : Opcode code at l) → step_of code pool at ≡ laid_out code pool (kind_of o.byte) at (after 1 at) l
  unfolding step_of
  opened o =
      ap (λ (r : Read). then_read r (λ byte mid. laid_out code pool (kind_of byte) at mid (layout_of (format_of byte)))) (byte_read code at o.byte o.stand)
      ∙ ap (laid_out code pool (kind_of o.byte) at (after 1 at)) o.layout

  from : StepFault code pool at why place → step_of code pool at ≡ Err (refused why place)
  unfolding step_of
  from (StepFault.past_end three there past) = ap (λ (r : Read). then_read r (λ byte mid. laid_out code pool (kind_of byte) at mid (layout_of (format_of byte)))) ((read_refused 1 code at why place).1 (three, there, omega arith))
  from (StepFault.no_instruction four there o) = opened o ∙ rw (numbers_differ why reason.NotAnInstruction four, there)
  from (StepFault.of_operands os o f) = opened o ∙ (operands_refused_exactly code pool (kind_of o.byte) os (after 1 at) why place o.stand.within).1 f
  from (StepFault.of_wide o f) = opened o ∙ (wide_refused_exactly code pool (after 1 at) why place).1 f
  from (StepFault.of_table o f) = opened o ∙ (table_refused_exactly code (after 1 at) why place).1 f
  from (StepFault.of_lookup o f) = opened o ∙ (lookup_refused_exactly code (after 1 at) why place).1 f

pub step_refused_exactly : StepRefusedExactly
step_refused_exactly code pool at why place = (to code pool at why place, from code pool at why place)

-- the numbers of the faults
abbrev Numbered : Reason → Type 0
Numbered why = In (number_of why) step_refusals

numbered : {n : ℕ} (number : ℕ) → So (one_of step_refusals number) → n ≡ number → In n step_refusals
numbered number h e = subst (λ (m : ℕ). In m step_refusals) (sym e) ((one_of_lem step_refusals number).0 h)

wrong_number : (pool : List ℕ) (meaning : Meaning) (v : ℕ) (why : Reason) → Wrong pool meaning v why → Numbered why
wrong_number pool Meaning.unsigned v why w = absurd w
wrong_number pool Meaning.signed v why w = absurd w
wrong_number pool (Meaning.index kinds) v why (WrongIndex.no_entry six h) = numbered 6 refl six
wrong_number pool (Meaning.index kinds) v why (WrongIndex.wrong_kind seven p h other) = numbered 7 refl seven
wrong_number pool Meaning.zero v why w = numbered 8 refl w.0
wrong_number pool Meaning.array_tag v why w = numbered 9 refl w.0

module _ (code pool : List ℕ) (why : Reason) where
  operand_number : (o : Operand) (at : CodeOffset) → OperandFault code pool o at why → Numbered why
  operand_number (Operand.implied v) at f = absurd f
  operand_number (Operand.bytes k meaning) at (BytesFault.short three past) = numbered 3 refl three
  operand_number (Operand.bytes k meaning) at (BytesFault.wrong bytes all stand w) = wrong_number pool meaning (big_endian bytes) why w

  wide_number : (at place : CodeOffset) → WideFault code pool at why place → Numbered why
  wide_number at place (WideFault.past_end three there past) = numbered 3 refl three
  wide_number at place (WideFault.not_modified five there byte s f) = numbered 5 refl five
  wide_number at place (WideFault.of_operands byte s os q f) = operand_number f.operand place f.fault

  table_number : (at place : CodeOffset) → TableFault code at why place → Numbered why
  table_number at place (TableFault.default_short start f s) = numbered 3 refl s.number
  table_number at place (TableFault.low_short start f default d s) = numbered 3 refl s.number
  table_number at place (TableFault.high_short start f default low d l s) = numbered 3 refl s.number
  table_number at place (TableFault.bad_bounds o ten there bad) = numbered 10 refl ten
  table_number at place (TableFault.entry_short o count is few w) = numbered 3 refl w.short.number

  lookup_number : (at place : CodeOffset) → LookupFault code at why place → Numbered why
  lookup_number at place (LookupFault.default_short start f s) = numbered 3 refl s.number
  lookup_number at place (LookupFault.npairs_short start f default d s) = numbered 3 refl s.number
  lookup_number at place (LookupFault.negative o eleven there over) = numbered 11 refl eleven
  lookup_number at place (LookupFault.pair_short o count is w) = numbered 3 refl w.short.number

  step_number : (at place : CodeOffset) → StepFault code pool at why place → Numbered why
  step_number at place (StepFault.past_end three there past) = numbered 3 refl three
  step_number at place (StepFault.no_instruction four there o) = numbered 4 refl four
  step_number at place (StepFault.of_operands os o f) = operand_number f.operand place f.fault
  step_number at place (StepFault.of_wide o f) = wide_number (after 1 at) place f
  step_number at place (StepFault.of_table o f) = table_number (after 1 at) place f
  step_number at place (StepFault.of_lookup o f) = lookup_number (after 1 at) place f

pub step_refuses : StepRefuses
step_refuses code pool at why place e = step_number code pool why at place ((step_refused_exactly code pool at why place).0 e)

-- they are 3 to 11
pub from_3_to_11 : {n : ℕ} → In n step_refusals → (3 ≤ n) × (n ≤ 11)
unfolding every
from_3_to_11 {n} m =
    let both = (and-eq-true_iff (leb 3 n) (leb n 11)).0 ((every_in (λ (x : ℕ). leb 3 x && leb x 11) step_refusals).0 refl n m) in
    (leb-true 3 n both.0, leb-true n 11 both.1)
