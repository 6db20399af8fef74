-- Lines are stored in a row.
use Prim.Native.Nat.{ℕ, suc, ◌+◌, ◌*◌, ◌≤◌}
use mathlib.Core.List.{List, [], ◌∷◌, ◌++◌}
use mathlib.Core.Path.{◌≡◌, refl, ap, ◌∙◌}
use native.Mathlib.Nat.{add-zero}
use native.Mathlib.Omega.{arith}
use lib.ListN.{length, set, drop, length-append}
use lib.Seq.{sets, sets-eq}
use Rattle.std.specs.Prelude.{Ok}
use Rattle.instruction.specs.Entries.{entries_of}
use Rattle.lines.specs.Lines.{Lines, lines_of, list_of}
use Rattle.records.specs.declared.SwitchEntry.{SwitchEntry}
use Rattle.records.specs.Records.{record_words, entry_words, record_room, entry_room, index, words_of, all_entry_words}
use Rattle.switches.specs.Entries.{entries_in}
use Rattle.filling.specs.Filling.{record_of}
use Rattle.filling.proofs.Entries.{all_entries}
use Rattle.bytecode.specs.Decoding.{counts, fitting, fitted, run_from, with_record, with_entries, records_from, entries_from}
use Rattle.bytecode.specs.Rows.{record_row, entry_row}
use Rattle.bytecode.specs.Theorems.{RecordsInRow, EntriesInRow, AcceptedStores}
use Rattle.bytecode.proofs.Laws.{by_fitting, not_filled, instructions_in, entries_in_run, fitting_short, run_count}
use Rattle.bytecode.proofs.Accepted.{acceptance, accepted_records, accepted_entries}

sets_more : (ws vs l : List ℕ) (i : ℕ) → sets (sets l i ws) (i + length ws) vs ≡ sets l i (ws ++ vs)
sets_more [] vs l i = rw add-zero
sets_more (w ∷ ws) vs l i =
    let one : i + suc (length ws) ≡ suc i + length ws = omega arith in
    ap (λ (n : ℕ). sets (sets (set l i w) (suc i) ws) n vs) one ∙ sets_more ws vs (set l i w) (suc i)

pub entry_words_lem : (es : List SwitchEntry) → length (all_entry_words es) ≡ length es * entry_words
unfolding all_entry_words
entry_words_lem [] = refl
entry_words_lem (e ∷ es) = omega (arith, entry_words_lem es)

pub records_in_row : RecordsInRow
unfolding records_from record_row list_of
records_in_row (Lines.line l rest) k m records =
    let own = words_of (record_of l.at (index m) l.instruction) in
    let past : (k + 1) * record_words ≡ k * record_words + 6 = omega arith in
    records_in_row rest (k + 1) (m + entries_of l.instruction) (with_record k m l records)
    ∙ ap (λ (n : ℕ). sets (with_record k m l records) n (record_row (m + entries_of l.instruction) (list_of rest))) past
    ∙ sets_more own (record_row (m + entries_of l.instruction) (list_of rest)) records (k * record_words)
records_in_row Lines.end k m records = refl
records_in_row (Lines.stop r) k m records = refl

pub entries_in_row : EntriesInRow
unfolding entries_from entry_row list_of
entries_in_row code (Lines.line l rest) m entries =
    let own = all_entry_words (entries_in code l.instruction) in
    let past : (m + entries_of l.instruction) * entry_words ≡ m * entry_words + length own = omega (arith, entry_words_lem (entries_in code l.instruction), all_entries code l.instruction) in
    entries_in_row code rest (m + entries_of l.instruction) (with_entries code m l entries)
    ∙ ap (λ (n : ℕ). sets (with_entries code m l entries) n (entry_row code (list_of rest))) past
    ∙ sets_more own (entry_row code (list_of rest)) entries (m * entry_words)
entries_in_row code Lines.end m entries = refl
entries_in_row code (Lines.stop r) m entries = refl

-- How long the rows are, by what a run counts
pub record_words_lem : (ls : Lines) (k m k' m' : ℕ) → run_from k m ls ≡ Ok (counts k' m') → k * record_words + length (record_row m (list_of ls)) ≡ k' * record_words
unfolding run_from record_row list_of
record_words_lem (Lines.line l rest) k m k' m' e = omega (arith, record_words_lem rest (k + 1) (m + entries_of l.instruction) k' m' e)
record_words_lem Lines.end k m k' m' e = let same : k ≡ k' = ap instructions_in e in omega arith
record_words_lem (Lines.stop r) k m k' m' e = absurd (not_filled e)

pub row_words : (code : List ℕ) (ls : Lines) (k m k' m' : ℕ) → run_from k m ls ≡ Ok (counts k' m') → m * entry_words + length (entry_row code (list_of ls)) ≡ m' * entry_words
unfolding run_from entry_row list_of
row_words code (Lines.line l rest) k m k' m' e =
    let own = all_entry_words (entries_in code l.instruction) in
    omega (
      arith,
      row_words code rest (k + 1) (m + entries_of l.instruction) k' m' e,
      length-append own (entry_row code (list_of rest)),
      entry_words_lem (entries_in code l.instruction),
      all_entries code l.instruction,
    )
row_words code Lines.end k m k' m' e = let same : m ≡ m' = ap entries_in_run e in omega arith
row_words code (Lines.stop r) k m k' m' e = absurd (not_filled e)

-- Entries that fit are no more than the room for them
pub run_entries : (ls : Lines) (records entries k m k' m' : ℕ) → run_from k m (fitting records entries ls) ≡ Ok (counts k' m') → m' ≤ m + entries
unfolding run_from
run_entries =
    by_fitting (λ records entries ls fit. (k m k' m' : ℕ) → run_from k m fit ≡ Ok (counts k' m') → m' ≤ m + entries)
    (λ l rest fit records entries room h k m k' m' e. omega (arith, h (k + 1) (m + entries_of l.instruction) k' m' e))
    (λ l rest records entries k m k' m' e. absurd (not_filled e))
    (λ l rest entries k m k' m' e. absurd (not_filled e))
    (λ records entries k m k' m' e. let same : m ≡ m' = ap entries_in_run e in omega arith)
    (λ records entries r k m k' m' e. absurd (not_filled e))

-- words at the front of a store
at_front : (words store : List ℕ) (n : ℕ) → length words ≡ n → n ≤ length store → sets store 0 words ≡ words ++ drop n store
at_front words store n e h =
    let fits : 0 + length words ≤ length store = omega arith in
    let all : 0 + length words ≡ n = omega arith in
    sets-eq words store 0 fits ∙ ap (λ (k : ℕ). words ++ drop k store) all

pub accepted_stores : AcceptedStores
accepted_stores code pool records entries k m e =
    let a = acceptance code pool (record_room records) (entry_room entries) k m e in
    let fit = ap (run_from 0 0) a.all_fit ∙ a.filled in
    let some = fitting_short (lines_of code pool) (record_room records) (entry_room entries) in
    let number = run_count (fitted code pool (record_room records) (entry_room entries)) 0 0 k m fit in
    let few = run_entries (lines_of code pool) (record_room records) (entry_room entries) 0 0 k m fit in (
      accepted_records code pool records entries k m e
          ∙ records_in_row (lines_of code pool) 0 0 records
          ∙ at_front (record_row 0 (list_of (lines_of code pool))) records (k * record_words) (omega (arith, record_words_lem (lines_of code pool) 0 0 k m a.filled)) (omega (arith, some, number)),
      accepted_entries code pool records entries k m e
          ∙ entries_in_row code (lines_of code pool) 0 entries
          ∙ at_front (entry_row code (list_of (lines_of code pool))) entries (m * entry_words) (omega (arith, row_words code (lines_of code pool) 0 0 k m a.filled)) (omega (arith, few)),
    )
