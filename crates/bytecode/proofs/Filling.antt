-- The loop over the code: what is left to read fills the stores as all of it does.
use Prim.Native.Nat.{ℕ, suc, ◌+◌, ◌-◌, ◌*◌, ◌≤◌, ◌<◌}
use mathlib.Core.List.{List}
use mathlib.Core.Path.{◌≡◌, refl, sym, ap, ◌∙◌}
use native.Mathlib.Nat.{sub-zero}
use native.Mathlib.Omega.{arith}
use lib.ListN.{length}
use lib.Seq.{length-sets}
use Rattle.std.specs.Prelude.{Ok, Err}
use Rattle.refusals.specs.declared.Reason.TheVariants as reason
use Rattle.refusals.specs.declared.Refusal.{Refusal}
use Rattle.refusals.specs.Numbers.{refused}
use Rattle.read.specs.declared.CodeOffset.{CodeOffset}
use Rattle.ordinary.specs.declared.Instruction.{Instruction}
use Rattle.instruction.specs.Steps.{step_of}
use Rattle.instruction.specs.Entries.{entries_of}
use Rattle.instruction.proofs.Exactly.{step_within}
use Rattle.lines.specs.Lines.{Line, Lines, lines_from}
use Rattle.lines.proofs.Laws.{lines_more, lines_stop, lines_end}
use Rattle.records.specs.Records.{record_words, entry_words, record_room, entry_room, index, words_of, all_entry_words}
use Rattle.switches.specs.Entries.{entries_in}
use Rattle.filling.specs.Filling.{record_of}
use Rattle.bytecode.specs.Decoding.{Run, counts, fitting, fitted, run_from, with_record, with_entries, records_from, entries_from}
use Rattle.bytecode.proofs.Laws.{fit_line, fit_14, fit_15}

module _ (code pool records₀ entries₀ : List ℕ) where
  abbrev whole : Lines
  whole = fitted code pool (record_room records₀) (entry_room entries₀)

  -- what the answer and the stores are to be
  abbrev pub Fills : Run → List ℕ → List ℕ → Type 0
  Fills answer records entries =
      (answer ≡ run_from 0 0 whole) × ((records ≡ records_from 0 0 whole records₀) × (entries ≡ entries_from code 0 whole entries₀))

  abbrev left : ℕ → ℕ → ℕ → Lines
  left at k m = fitting (record_room records₀ - k) (entry_room entries₀ - m) (lines_from code pool (length code - k) (record { 0 = at }))

  pub record Filling (records entries : List ℕ) (at k m : ℕ) : Type 0 where
    pub counted : k ≤ at
    pub stored : m ≤ at
    pub inside : at ≤ length code
    pub kept_records : length records ≡ length records₀
    pub kept_entries : length entries ≡ length entries₀
    pub fits : k ≤ record_room records₀
    pub fits_entries : m ≤ entry_room entries₀
    pub answers : run_from k m (left at k m) ≡ run_from 0 0 whole
    pub fills_records : records_from k m (left at k m) records ≡ records_from 0 0 whole records₀
    pub fills_entries : entries_from code m (left at k m) entries ≡ entries_from code 0 whole entries₀

  pub fill_start : Filling records₀ entries₀ 0 0 0
  fill_start =
      record {
        counted = omega arith;
        stored = omega arith;
        inside = omega arith;
        kept_records = refl;
        kept_entries = refl;
        fits = omega arith;
        fits_entries = omega arith;
        answers = rw (sub-zero (length code), sub-zero (record_room records₀), sub-zero (entry_room entries₀)) refl;
        fills_records = rw (sub-zero (length code), sub-zero (record_room records₀), sub-zero (entry_room entries₀)) refl;
        fills_entries = rw (sub-zero (length code), sub-zero (record_room records₀), sub-zero (entry_room entries₀)) refl;
      }

  module _ (records entries : List ℕ) (at k m : ℕ) (l : Filling records entries at k m) where
    -- what is left is these lines
    fill_is : {ls : Lines} → left at k m ≡ ls → Fills (run_from k m ls) (records_from k m ls records) (entries_from code m ls entries)
    fill_is e =
        (sym (ap (run_from k m) e) ∙ l.answers, (sym (ap (λ ls. records_from k m ls records) e) ∙ l.fills_records, sym (ap (λ ls. entries_from code m ls entries) e) ∙ l.fills_entries))

    fill_reads : {ls : Lines} → lines_from code pool (length code - k) (record { 0 = at }) ≡ ls → left at k m ≡ fitting (record_room records₀ - k) (entry_room entries₀ - m) ls
    fill_reads e = ap (fitting (record_room records₀ - k) (entry_room entries₀ - m)) e

    pub fill_end : length code ≤ at → Fills (Ok (counts k m)) records entries
    unfolding fitting run_from records_from entries_from
    fill_end h = fill_is (fill_reads (lines_end code pool (record { 0 = at }) (length code - k) h))

    module _ (h : at < length code) where
      one_more : length code - k ≡ suc (length code - (k + 1))
      one_more = omega (arith, l.counted)

      pub fill_refused : (r : Refusal CodeOffset) → step_of code pool (record { 0 = at }) ≡ Err r → Fills (Err r) records entries
      unfolding fitting run_from records_from entries_from
      fill_refused r e = fill_is (fill_reads {ls = Lines.stop r} (rw one_more (lines_stop code pool (record { 0 = at }) _ h e)))

      module _ (i : Instruction) (next : CodeOffset) (e : step_of code pool (record { 0 = at }) ≡ Ok (i, next)) where
        abbrev this : Line
        this = record { at = record { 0 = at }; instruction = i; next = next }

        rest : Lines
        rest = lines_from code pool (length code - (k + 1)) next

        reads_this : left at k m ≡ fitting (record_room records₀ - k) (entry_room entries₀ - m) (Lines.line this rest)
        unfolding rest
        reads_this = fill_reads (rw one_more (lines_more code pool (record { 0 = at }) _ h e))

        pub fill_14 : entry_room entries₀ - m < entries_of i → Fills (Err (refused reason.NoEntryLeft (record { 0 = at }))) records entries
        unfolding run_from records_from entries_from
        fill_14 few = fill_is (reads_this ∙ fit_14 this rest _ _ few)

        module _ (room : entries_of i ≤ entry_room entries₀ - m) where
          pub fill_15 : record_room records₀ ≤ k → Fills (Err (refused reason.NoRecordLeft (record { 0 = at }))) records entries
          unfolding run_from records_from entries_from
          fill_15 full =
              let none : record_room records₀ - k ≡ 0 = omega arith in
              fill_is (reads_this ∙ ap (λ (n : ℕ). fitting n (entry_room entries₀ - m) (Lines.line this rest)) none ∙ fit_15 this rest _ room)

          fits_this : k < record_room records₀ → left at k m ≡ Lines.line this (left next.0 (k + 1) (m + entries_of i))
          unfolding rest
          fits_this free =
              let some : record_room records₀ - k ≡ suc (record_room records₀ - (k + 1)) = omega arith in
              let fewer : entry_room entries₀ - m - entries_of i ≡ entry_room entries₀ - (m + entries_of i) = omega arith in
              reads_this ∙ ap (λ (n : ℕ). fitting n (entry_room entries₀ - m) (Lines.line this rest)) some
              ∙ fit_line this rest _ (record_room records₀ - (k + 1)) room
              ∙ ap (λ (n : ℕ). Lines.line this (fitting (record_room records₀ - (k + 1)) n rest)) fewer

          pub fill_next : k < record_room records₀ → Filling (with_record k m this records) (with_entries code m this entries) next.0 (k + 1) (m + entries_of i)
          unfolding run_from records_from entries_from
          fill_next free =
              let within = step_within code pool (record { 0 = at }) i next e in
              let more = fill_is (fits_this free) in
              record {
                counted = omega (arith, within.longer, l.counted);
                stored = omega (arith, within.longer, l.stored);
                inside = within.ends;
                kept_records = length-sets records (k * record_words) (words_of (record_of (record { 0 = at }) (index m) i)) ∙ l.kept_records;
                kept_entries = length-sets entries (m * entry_words) (all_entry_words (entries_in code i)) ∙ l.kept_entries;
                fits = omega arith;
                fits_entries = omega (arith, l.fits_entries);
                answers = more.0;
                fills_records = more.1.0;
                fills_entries = more.1.1;
              }
