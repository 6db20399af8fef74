-- The clauses of `fitting` by their tests, and what lines that fit store.
use Prim.Native.Nat.{ℕ, zero, suc, ◌+◌, ◌-◌, ◌*◌, ◌≤◌, ◌<◌}
use mathlib.Core.Bool.{Bool, true, false}
use mathlib.Core.List.{List}
use mathlib.Core.Path.{◌≡◌, refl, ap, ◌∙◌}
use native.Mathlib.Omega.{arith}
use borrow.Author.Tests.{le-leb, lt-leb, leb-true}
use lib.Dec.{leb}
use lib.ListN.{length}
use lib.Seq.{length-sets}
use Rattle.std.specs.Prelude.{Ok, Err}
use Rattle.refusals.specs.declared.Reason.TheVariants as reason
use Rattle.refusals.specs.declared.Refusal.{Refusal}
use Rattle.refusals.specs.Numbers.{refused}
use Rattle.read.specs.declared.CodeOffset.{CodeOffset}
use Rattle.instruction.specs.Entries.{entries_of}
use Rattle.lines.specs.Lines.{Line, Lines, list_of}
use Rattle.records.specs.Records.{record_words, entry_words, index, words_of, record_at, entry_at, all_entry_words}
use Rattle.records.proofs.Reading.{record_before, entry_before}
use Rattle.switches.specs.Entries.{entries_in}
use Rattle.filling.specs.Filling.{record_of}
use Rattle.bytecode.specs.Decoding.{Run, counts, fitting, run_from, with_record, with_entries, records_from, entries_from}

module _ (l : Line) (rest : Lines) (entries : ℕ) where
  pub fit_line : (records : ℕ) → entries_of l.instruction ≤ entries → fitting (suc records) entries (Lines.line l rest) ≡ Lines.line l (fitting records (entries - entries_of l.instruction) rest)
  unfolding fitting
  fit_line records h = rw (le-leb _ _ h, fitting)

  pub fit_14 : (records : ℕ) → entries < entries_of l.instruction → fitting records entries (Lines.line l rest) ≡ Lines.stop (refused reason.NoEntryLeft l.at)
  unfolding fitting
  fit_14 records h = rw (lt-leb _ _ h, fitting)

  pub fit_15 : entries_of l.instruction ≤ entries → fitting 0 entries (Lines.line l rest) ≡ Lines.stop (refused reason.NoRecordLeft l.at)
  unfolding fitting
  fit_15 h = rw (le-leb _ _ h, fitting)

-- What holds of lines and of those of them that fit, by the ways to fit or not
module _
    (P : ℕ → ℕ → Lines → Lines → Type 0)
    (one : (l : Line) (rest fit : Lines) (records entries : ℕ) → entries_of l.instruction ≤ entries → P records (entries - entries_of l.instruction) rest fit → P (suc records) entries (Lines.line l rest) (Lines.line l fit))
    (no_entry : (l : Line) (rest : Lines) (records entries : ℕ) → P records entries (Lines.line l rest) (Lines.stop (refused reason.NoEntryLeft l.at)))
    (no_record : (l : Line) (rest : Lines) (entries : ℕ) → P 0 entries (Lines.line l rest) (Lines.stop (refused reason.NoRecordLeft l.at)))
    (none : (records entries : ℕ) → P records entries Lines.end Lines.end)
    (stopped : (records entries : ℕ) (r : Refusal CodeOffset) → P records entries (Lines.stop r) (Lines.stop r))
  where
    pub by_fitting : (ls : Lines) (records entries : ℕ) → P records entries ls (fitting records entries ls)
    unfolding fitting
    by_fitting (Lines.line l rest) records entries = go (leb (entries_of l.instruction) entries) refl records (λ left. by_fitting rest left (entries - entries_of l.instruction))
      where
        go :
            (t : Bool) → leb (entries_of l.instruction) entries ≡ t → (k : ℕ) → ((left : ℕ) → P left (entries - entries_of l.instruction) rest (fitting left (entries - entries_of l.instruction) rest))
            → P k entries (Lines.line l rest) (elim t [ true ↦ elim k [ suc left ↦ Lines.line l (fitting left (entries - entries_of l.instruction) rest) | zero ↦ Lines.stop (refused reason.NoRecordLeft l.at) ] | false ↦ Lines.stop (refused reason.NoEntryLeft l.at) ])
        go true q (suc left) h = one l rest (fitting left (entries - entries_of l.instruction) rest) left entries (leb-true _ _ q) (h left)
        go true q zero h = no_record l rest entries
        go false q k h = no_entry l rest k entries
    by_fitting Lines.end records entries = none records entries
    by_fitting (Lines.stop r) records entries = stopped records entries r

-- lines that fit are no more than the records
pub fitting_short : (ls : Lines) (records entries : ℕ) → length (list_of (fitting records entries ls)) ≤ records
unfolding list_of
fitting_short =
    by_fitting (λ records entries ls fit. length (list_of fit) ≤ records)
    (λ l rest fit records entries room h. omega arith)
    (λ l rest records entries. omega arith) (λ l rest entries. omega arith) (λ records entries. omega arith) (λ records entries r. omega arith)

-- the parts of a run that fills the stores
abbrev pub instructions_in : Run → ℕ
instructions_in (Ok d) = d.instructions
instructions_in (Err r) = 0

abbrev pub entries_in_run : Run → ℕ
entries_in_run (Ok d) = d.entries
entries_in_run (Err r) = 0

-- a refusal fills nothing
pub not_filled : {r : Refusal CodeOffset} {k m : ℕ} → ◌≡◌ {A = Run} (Err r) (Ok (counts k m)) → ⊥
not_filled e = let z : ◌≡◌ {A = ℕ} 0 1 = cc in omega arith

-- how many records are stored in the end
pub run_count : (ls : Lines) (k m k' m' : ℕ) → run_from k m ls ≡ Ok (counts k' m') → k' ≡ k + length (list_of ls)
unfolding run_from list_of
run_count (Lines.line l rest) k m k' m' e = omega (arith, run_count rest (k + 1) (m + entries_of l.instruction) k' m' e)
run_count Lines.end k m k' m' e = let same : k ≡ k' = ap instructions_in e in omega arith
run_count (Lines.stop r) k m k' m' e = absurd (not_filled e)

-- what was stored before stays, and so do the lengths
pub records_before : (ls : Lines) (k m : ℕ) (records : List ℕ) (j : ℕ) → j < k → record_at (records_from k m ls records) (index j) ≡ record_at records (index j)
unfolding records_from
records_before (Lines.line l rest) k m records j h = records_before rest (k + 1) _ (with_record k m l records) j (omega arith) ∙ record_before records (words_of (record_of l.at (index m) l.instruction)) k j h
records_before Lines.end k m records j h = refl
records_before (Lines.stop r) k m records j h = refl

pub entries_before : (code : List ℕ) (ls : Lines) (m : ℕ) (entries : List ℕ) (j : ℕ) → j < m → entry_at (entries_from code m ls entries) (index j) ≡ entry_at entries (index j)
unfolding entries_from
entries_before code (Lines.line l rest) m entries j h = entries_before code rest (m + entries_of l.instruction) (with_entries code m l entries) j (omega arith) ∙ entry_before entries (all_entry_words (entries_in code l.instruction)) m j h
entries_before code Lines.end m entries j h = refl
entries_before code (Lines.stop r) m entries j h = refl

pub length_records : (ls : Lines) (k m : ℕ) (records : List ℕ) → length (records_from k m ls records) ≡ length records
unfolding records_from
length_records (Lines.line l rest) k m records = length_records rest (k + 1) _ (with_record k m l records) ∙ length-sets records (k * record_words) (words_of (record_of l.at (index m) l.instruction))
length_records Lines.end k m records = refl
length_records (Lines.stop r) k m records = refl

pub length_entries : (code : List ℕ) (ls : Lines) (m : ℕ) (entries : List ℕ) → length (entries_from code m ls entries) ≡ length entries
unfolding entries_from
length_entries code (Lines.line l rest) m entries = length_entries code rest _ (with_entries code m l entries) ∙ length-sets entries (m * entry_words) (all_entry_words (entries_in code l.instruction))
length_entries code Lines.end m entries = refl
length_entries code (Lines.stop r) m entries = refl
