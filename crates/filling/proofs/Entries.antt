-- The entries of an instruction: how many there are, and that they lie in the code.
use Prim.Native.Nat.{ℕ, zero, suc, ◌+◌, ◌*◌, ◌%◌, ◌^◌, ◌<◌}
use mathlib.Core.List.{List}
use mathlib.Core.Path.{◌≡◌, refl, ap, ap₂, ◌∙◌}
use lib.ListN.{get_or}
use Rattle.read.specs.declared.CodeOffset.{CodeOffset}
use Rattle.read.specs.Reads.{after, NumberAt}
use Rattle.records.specs.declared.SwitchEntry.{SwitchEntry}
use Rattle.switches.specs.Entries.{word_at, table_from, pairs_from}
use native.Mathlib.Omega.{arith}
use Rattle.ordinary.specs.declared.Instruction.TheVariants as instruction
use Rattle.instruction.proofs.Exactly.{step_within}
use Rattle.switches.proofs.Laws.{at_place}
use Rattle.switches.proofs.Exactly.{length_table, length_pairs}
use Rattle.filling.specs.Theorems.{AllEntries, DecodedInside}

pub all_entries : AllEntries
all_entries code (instruction.Ordinary kind a b) = refl
all_entries code (instruction.TableSwitch default low high from count) = length_table code low from count
all_entries code (instruction.LookupSwitch default from count) = length_pairs code from count

pub entries_inside : DecodedInside
entries_inside code pool at (instruction.Ordinary kind a b) next e = tt
entries_inside code pool at (instruction.TableSwitch default low high from count) next e =
    let w = step_within code pool at _ next e in
    omega (arith, w.ends, w.last.1)
entries_inside code pool at (instruction.LookupSwitch default from count) next e =
    let w = step_within code pool at _ next e in
    omega (arith, w.ends, w.last.1)

-- the entry of each number, as the code reads it
module _ (code : List ℕ) where
  table_at : (low : ℕ) (from : CodeOffset) (count i : ℕ) (d : SwitchEntry) → i < count → record { key = (low + i) % 2 ^ 32; jump = word_at code (after (4 * i) from) } ≡ get_or (table_from code low from count) i d
  unfolding table_from
  table_at low from zero i d h = absurd (omega arith)
  table_at low from (suc count) zero d h = ap₂ (λ (k : ℕ) (p : CodeOffset). record { key = k % 2 ^ 32; jump = word_at code p }) (omega arith) (at_place (omega arith))
  table_at low from (suc count) (suc i) d h =
      ap₂ (λ (k : ℕ) (p : CodeOffset). record { key = k % 2 ^ 32; jump = word_at code p }) (omega arith) (at_place (omega arith))
      ∙ table_at (low + 1) (after 4 from) count i d (omega arith)

  pairs_at : (from : CodeOffset) (count i : ℕ) (d : SwitchEntry) → i < count → record { key = word_at code (after (8 * i) from); jump = word_at code (after (8 * i + 4) from) } ≡ get_or (pairs_from code from count) i d
  unfolding pairs_from
  pairs_at from zero i d h = absurd (omega arith)
  pairs_at from (suc count) zero d h = ap₂ (λ (k j : CodeOffset). record { key = word_at code k; jump = word_at code j }) (at_place (omega arith)) (at_place (omega arith))
  pairs_at from (suc count) (suc i) d h =
      ap₂ (λ (k j : CodeOffset). record { key = word_at code k; jump = word_at code j }) (at_place (omega arith)) (at_place (omega arith))
      ∙ pairs_at (after 8 from) count i d (omega arith)

  pub table_entry : (low i : ℕ) {key jump : ℕ} (from : CodeOffset) (count : ℕ) (d : SwitchEntry) → i < count → key ≡ (low + i) % 2 ^ 32 → NumberAt 4 code (after (4 * i) from) jump → record { key = key; jump = jump } ≡ get_or (table_from code low from count) i d
  table_entry low i {key} {jump} from count d h k j = ap₂ (λ (x y : ℕ). record { key = x; jump = y }) k j.is ∙ table_at low from count i d h

  pub lookup_entry : (i : ℕ) {key jump : ℕ} (from : CodeOffset) (count : ℕ) (d : SwitchEntry) → i < count → NumberAt 4 code (after (8 * i) from) key → NumberAt 4 code (after 4 (after (8 * i) from)) jump → record { key = key; jump = jump } ≡ get_or (pairs_from code from count) i d
  lookup_entry i {key} {jump} from count d h k j =
      ap₂ (λ (x y : ℕ). record { key = x; jump = y }) k.is (j.is ∙ ap (word_at code) (at_place (omega arith)))
      ∙ pairs_at from count i d h
