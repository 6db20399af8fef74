use mathlib.Core.Path.{◌≡◌, refl, sym, ap, ◌∙◌}
use native.Mathlib.Omega.{arith}
use borrow.Author.Rules.{rules}
use Rattle.std.specs.Prelude.{Err}
use Rattle.instruction.proofs.Exactly.{step_within}
use Rattle.filling.proofs.Entries.{entries_inside}
use Rattle.bytecode.proofs.Filling.{fill_start, fill_end, fill_refused, fill_14, fill_15, fill_next}
use Rattle.bytecode.proofs.fill.Goals as goal

pub loop-at-init : goal.loop-at-init
loop-at-init c = (refl, refl, fill_start _ _ _ _)

pub returns-in_err-instruction : goal.returns-in_err-instruction
returns-in_err-instruction c =
    let is : c.from_residual.result ≡ Err c.in_err-instruction.field-0.0 = search rules in
    let r = fill_refused _ _ _ _ _ _ _ _ _ c.loop-at.invariant.2 c.loop-at-test.true _ (sym c.instruction_at.ensures ∙ c.in_err-instruction.was) in
    record { answers = is ∙ r.0; fills_records = r.1.0; fills_entries = r.1.1 }

pub returns-then-entry_room-stored : goal.returns-then-entry_room-stored
returns-then-entry_room-stored c =
    let r = fill_14 _ _ _ _ _ _ _ _ _ c.loop-at.invariant.2 c.loop-at-test.true _ _ (sym c.instruction_at.ensures ∙ c.in_ok-instruction.was) (rw c.entries_of-own.ensures at c.if-entry_room-stored.true) in
    record { answers = ap Err c.at.ensures ∙ r.0; fills_records = r.1.0; fills_entries = r.1.1 }

pub returns-then-record_room-count : goal.returns-then-record_room-count
returns-then-record_room-count c =
    let r = fill_15 _ _ _ _ _ _ _ _ _ c.loop-at.invariant.2 c.loop-at-test.true _ _ (sym c.instruction_at.ensures ∙ c.in_ok-instruction.was) (rw c.entries_of-own.ensures at c.if-entry_room-stored.false) c.if-record_room-count.true in
    record { answers = ap Err c.at-then-record_room-count.ensures ∙ r.0; fills_records = r.1.0; fills_entries = r.1.1 }

pub put_line-requires : goal.put_line-requires
put_line-requires c =
    let decoded = sym c.instruction_at.ensures ∙ c.in_ok-instruction.was in
    record {
      at_bound = (omega (arith, c.loop-at.invariant.2.inside), omega (arith, c.loop-at.invariant.2.inside, c.loop-at.invariant.2.stored), entries_inside _ _ _ _ _ decoded);
      index_bound = (omega (arith, c.loop-at.invariant.2.kept_records, c.if-record_room-count.false), omega (arith, c.entries_of-own.ensures, c.loop-at.invariant.2.kept_entries, c.loop-at.invariant.2.fits_entries, c.if-entry_room-stored.false));
    }

pub loop-at-smaller : goal.loop-at-smaller
loop-at-smaller c =
    let within = step_within _ _ _ _ _ (sym c.instruction_at.ensures ∙ c.in_ok-instruction.was) in
    omega (arith, within.longer, c.loop-at-test.true)

pub loop-at-preserved : goal.loop-at-preserved
loop-at-preserved c = (
  refl,
  refl,
  rw (c.put_line.ensures.puts_record, c.put_line.ensures.puts_entries, c.entries_of-own.ensures)
      (fill_next _ _ _ _ _ _ _ _ _ c.loop-at.invariant.2 c.loop-at-test.true _ _ (sym c.instruction_at.ensures ∙ c.in_ok-instruction.was) (rw c.entries_of-own.ensures at c.if-entry_room-stored.false) c.if-record_room-count.false),
)

pub returns : goal.returns
returns c =
    let r = fill_end _ _ _ _ _ _ _ _ _ c.loop-at.invariant.2 c.loop-at-test.false in
    record { answers = r.0; fills_records = r.1.0; fills_entries = r.1.1 }
