-- Operands, and what stands after wide, are refused exactly for the first fault.
use Prim.Native.Nat.{ℕ, ◌+◌, ◌≤◌, ◌<◌}
use mathlib.Core.List.{List, [], ◌∷◌, ◌++◌}
use mathlib.Core.Path.{◌≡◌, refl, sym, ap, ◌∙◌, subst}
use native.Mathlib.Omega.{arith}
use lib.ListN.{length, length-append}
use Rattle.read.specs.declared.CodeOffset.{CodeOffset}
use Rattle.read.specs.Reads.{Read, after, read_of}
use Rattle.std.specs.Prelude.{Ok, Err}
use Rattle.refusals.specs.declared.Reason.{Reason}
use Rattle.refusals.specs.declared.Reason.TheVariants as reason
use Rattle.refusals.specs.declared.Refusal.{Refusal}
use Rattle.refusals.specs.Numbers.{refused, number_of}
use Rattle.refusals.proofs.Numbers.{numbers_differ}
use Rattle.opcodes.specs.declared.WideForm.{WideForm}
use Rattle.opcodes.specs.declared.WideForm.TheVariants as form
use Rattle.opcodes.specs.Operands.{Operand, WideLayout, wide_layout_of}
use Rattle.opcodes.specs.Wide.{wide_form_of}
use Rattle.operands.specs.Checks.{operand_at}
use Rattle.operands.specs.Pictures.{Stand, Stands}
use Rattle.operands.specs.Faults.{OperandFault}
use Rattle.operands.proofs.Parts.{clash, same_reason, same_place, same_refusal}
use Rattle.operands.proofs.Exactly.{operand_exactly, nowhere, byte_there, byte_read}
use Rattle.operands.proofs.Standing.{stand_join, stand_part}
use Rattle.operands.proofs.Faults.{read_refused, operand_refused_exactly}
use Rattle.ordinary.specs.Ordinary.{Step, then_read, operands_from, widened_by, widened, wide_step}
use Rattle.ordinary.specs.Pictures.{Pictures, NamedAll}
use Rattle.ordinary.specs.Faults.{OperandsFault, OperandsRefusedExactly, WideFault, WideRefusedExactly}
use Rattle.ordinary.proofs.Exactly.{further}

-- a read and what follows it are refused by the one or by the other
pub data Then (r : Read) (follows : ℕ → CodeOffset → Step) (why : Reason) (place : CodeOffset) : Type 0 where
  here : r ≡ Err (refused why place) → Then r follows why place
  further_on : (v : ℕ) (mid : CodeOffset) → r ≡ Ok (v, mid) → follows v mid ≡ Err (refused why place) → Then r follows why place

pub then_refused : (r : Read) (follows : ℕ → CodeOffset → Step) (why : Reason) (place : CodeOffset) → then_read r follows ≡ Err (refused why place) → Then r follows why place
then_refused (Ok found) follows why place e = Then.further_on found.0 found.1 refl e
then_refused (Err r) follows why place e = Then.here (ap (λ (s : Refusal CodeOffset). Err s) (same_refusal e))

module _ (code pool : List ℕ) (kind : ℕ) (why : Reason) (place : CodeOffset) where
  to : (values : List ℕ) (os : List Operand) (at : CodeOffset) → at.0 ≤ length code → operands_from code pool kind values os at ≡ Err (refused why place) → OperandsFault code pool os at why place
  unfolding operands_from
  to values [] at h e = absurd (clash (sym e))
  to values (o ∷ os) at h e = go (then_refused (operand_at code pool o at) (λ v mid. operands_from code pool kind (values ++ v ∷ []) os mid) why place e) (λ v mid fits d. to (values ++ v ∷ []) os mid fits d)
    where
      joined : {v : ℕ} {mid : CodeOffset} → Stands code pool o at v mid → OperandsFault code pool os mid why place → OperandsFault code pool (o ∷ os) at why place
      joined {v} {mid} s r =
          let all : length (s.bytes ++ r.bytes) ≡ length s.bytes + length r.bytes = length-append s.bytes r.bytes in
          record {
            before = o ∷ r.before;
            operand = r.operand;
            later = r.later;
            split = ap (λ (l : List Operand). o ∷ l) r.split;
            values = v ∷ r.values;
            bytes = s.bytes ++ r.bytes;
            drawn = Pictures.more s.bytes r.bytes s.drawn r.drawn refl;
            named = (s.named, r.named);
            stand = stand_join code at s.bytes r.bytes s.stand (subst (λ (m : CodeOffset). Stand code m r.bytes) s.place r.stand);
            placed = r.placed ∙ ap (after (length r.bytes)) s.place ∙ further at (length s.bytes) (length r.bytes) ∙ ap (λ (k : ℕ). after k at) (sym all);
            fault = r.fault;
          }

      go : Then (operand_at code pool o at) (λ v mid. operands_from code pool kind (values ++ v ∷ []) os mid) why place
          → ((v : ℕ) (mid : CodeOffset) → mid.0 ≤ length code → operands_from code pool kind (values ++ v ∷ []) os mid ≡ Err (refused why place) → OperandsFault code pool os mid why place)
          → OperandsFault code pool (o ∷ os) at why place
      go (Then.here r) rest =
          let f = (operand_refused_exactly code pool o at why place).0 r in
          record {
            before = [];
            operand = o;
            later = os;
            split = refl;
            values = [];
            bytes = [];
            drawn = Pictures.none;
            named = tt;
            stand = record { within = omega arith; there = refl };
            placed = f.1 ∙ nowhere at;
            fault = subst (λ (p : CodeOffset). OperandFault code pool o p why) (sym f.1) f.0;
          }
      go (Then.further_on v mid r d) rest =
          let s = (operand_exactly code pool o at v mid h).0 r in
          joined s (rest v mid (subst (λ (m : CodeOffset). m.0 ≤ length code) (sym s.place) s.stand.within) d)

  from : (values : List ℕ) (at : CodeOffset) → at.0 ≤ length code → {before : List Operand} {vs bytes : List ℕ} (p : Pictures before vs bytes) → NamedAll pool p → Stand code at bytes
      → place ≡ after (length bytes) at → (o : Operand) (later : List Operand) → OperandFault code pool o place why → operands_from code pool kind values (before ++ (o ∷ later)) at ≡ Err (refused why place)
  unfolding operands_from
  from values at h Pictures.none named s there o later fault =
      let same : place ≡ at = there ∙ sym (nowhere at) in
      ap (λ (r : Read). then_read r (λ v mid. operands_from code pool kind (values ++ v ∷ []) later mid))
      ((operand_refused_exactly code pool o at why place).1 (subst (λ (p : CodeOffset). OperandFault code pool o p why) same fault, same))
  from values at h (Pictures.more {o} {os} {v} {vs} {bytes} first rest drawn pictures e) named s there p later fault =
      let parts = stand_part code at first rest (subst (Stand code at) e s) in
      let reads : operand_at code pool o at ≡ Ok (v, after (length first) at) = (operand_exactly code pool o at v (after (length first) at) h).1 (record { bytes = first; drawn = drawn; named = named.0; stand = parts.0; place = refl }) in
      let all : length bytes ≡ length first + length rest = ap length e ∙ length-append first rest in
      ap (λ (r : Read). then_read r (λ v mid. operands_from code pool kind (values ++ v ∷ []) (os ++ (p ∷ later)) mid)) reads
      ∙ from (values ++ v ∷ []) (after (length first) at) parts.0.within pictures named.1 parts.1 (there ∙ ap (λ (k : ℕ). after k at) all ∙ sym (further at (length first) (length rest))) p later fault

pub operands_refused_exactly : OperandsRefusedExactly
operands_refused_exactly code pool kind os at why place h = (
  λ e. to code pool kind why place [] os at h e,
  λ f.
      ap (λ (l : List Operand). operands_from code pool kind [] l at) f.split
      ∙ from code pool kind why place [] at h f.drawn f.named f.stand f.placed f.operand f.later f.fault,
)

-- a byte has no operands after wide exactly where wide does not modify it
unmodified : (f : WideForm) → wide_layout_of f ≡ WideLayout.none → f ≡ form.NoInstruction
unmodified form.Local e = absurd (let z : ◌≡◌ {A = ℕ} 0 1 = cc in omega arith)
unmodified form.Increment e = absurd (let z : ◌≡◌ {A = ℕ} 0 1 = cc in omega arith)
unmodified form.NoInstruction e = refl

module _ (code pool : List ℕ) (at : CodeOffset) (why : Reason) (place : CodeOffset) where
  wide_to : wide_step code pool at ≡ Err (refused why place) → WideFault code pool at why place
  wide_to e = go (then_refused (read_of 1 code at) (λ byte mid. widened code pool byte at mid) why place e)
    where
      laid : (byte : ℕ) (l : WideLayout) → wide_layout_of (wide_form_of byte) ≡ l → Stand code at (byte ∷ []) → widened code pool byte at (after 1 at) ≡ Err (refused why place) → WideFault code pool at why place
      laid byte (WideLayout.operands os) q s d = WideFault.of_operands byte s os q ((operands_refused_exactly code pool byte os (after 1 at) why place s.within).0 (sym (ap (widened_by code pool byte at (after 1 at)) q) ∙ d))
      laid byte WideLayout.none q s d =
          let same = sym d ∙ ap (widened_by code pool byte at (after 1 at)) q in
          WideFault.not_modified (ap number_of (same_reason same)) (same_place same) byte s (unmodified (wide_form_of byte) q)

      go : Then (read_of 1 code at) (λ byte mid. widened code pool byte at mid) why place → WideFault code pool at why place
      go (Then.here r) =
          let f = (read_refused 1 code at why place).0 r in
          WideFault.past_end f.0 f.1 (let past : length code < at.0 + 1 = f.2 in omega arith)
      go (Then.further_on byte mid r d) =
          let b = byte_there code at byte mid r in
          laid byte (wide_layout_of (wide_form_of byte)) refl b.0 (subst (λ (m : CodeOffset). widened code pool byte at m ≡ Err (refused why place)) b.1 d)

  read_then : (byte : ℕ) → Stand code at (byte ∷ []) → wide_step code pool at ≡ widened code pool byte at (after 1 at)
  read_then byte s = ap (λ (r : Read). then_read r (λ byte mid. widened code pool byte at mid)) (byte_read code at byte s)

  wide_from : WideFault code pool at why place → wide_step code pool at ≡ Err (refused why place)
  wide_from (WideFault.past_end three there past) = ap (λ (r : Read). then_read r (λ byte mid. widened code pool byte at mid)) ((read_refused 1 code at why place).1 (three, there, omega arith))
  wide_from (WideFault.not_modified five there byte s f) =
      read_then byte s ∙ ap (λ (w : WideForm). widened_by code pool byte at (after 1 at) (wide_layout_of w)) f ∙ rw (numbers_differ why reason.NotAfterWide five, there)
  wide_from (WideFault.of_operands byte s os q fault) =
      read_then byte s ∙ ap (widened_by code pool byte at (after 1 at)) q ∙ (operands_refused_exactly code pool byte os (after 1 at) why place s.within).1 fault

pub wide_refused_exactly : WideRefusedExactly
wide_refused_exactly code pool at why place = (wide_to code pool at why place, wide_from code pool at why place)
