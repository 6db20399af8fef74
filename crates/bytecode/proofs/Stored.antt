-- The stores say what the lines say: once lines are stored, the words of the records and entries tell their jumps.
use Prim.Native.Nat.{ℕ, suc, ◌+◌, ◌-◌, ◌*◌, ◌/◌, ◌≤◌, ◌<◌}
use mathlib.Core.Bool.{true, false}
use mathlib.Core.List.{List, [], ◌∷◌, map}
use mathlib.Core.Logic.{⊎_elim}
use mathlib.Core.Path.{◌≡◌, refl, sym, ap, ap₂, ◌∙◌, subst}
use native.Mathlib.Nat.{eq-or-lt_of_le}
use native.Mathlib.Omega.{arith}
use borrow.Author.Tests.{ne_eqb}
use lib.ListN.{length}
use lib.Seq.{length-sets}
use Rattle.laws.specs.Listed.{listed}
use Rattle.laws.proofs.Listed.{listed_agree, map_listed}
use Rattle.read.specs.declared.CodeOffset.{CodeOffset}
use Rattle.ordinary.specs.declared.Instruction.{Instruction}
use Rattle.ordinary.specs.declared.Instruction.TheVariants as instruction
use Rattle.switches.specs.Switches.{entry_count}
use Rattle.std.specs.Prelude.{Ok, Option}
use Rattle.std.specs.Option.{unwrap_or}
use Rattle.instruction.specs.Steps.{step_of}
use Rattle.instruction.specs.Entries.{entries_of}
use Rattle.instruction.proofs.Exactly.{step_within}
use Rattle.lines.specs.Lines.{Line, Lines, lines_of, list_of, Consecutive}
use Rattle.lines.proofs.Exactly.{lines_exactly}
use Rattle.records.specs.declared.Record.{Record}
use Rattle.records.specs.declared.RecordIndex.{RecordIndex}
use Rattle.records.specs.declared.SwitchEntry.{SwitchEntry}
use Rattle.records.specs.Records.{record_words, entry_words, record_room, entry_room, index, words_of, record_at, entry_at, all_entry_words}
use Rattle.records.proofs.Reading.{record_there, entries_there}
use Rattle.lookup.specs.Lookup.{offset_of, Sorted}
use Rattle.jumps.specs.Jumps.{Jumps}
use Rattle.jumps.specs.Stored.{has_jump, stored_entries, entry_jump, stored_words, stored_jumps, jumps_from, jumps_in, Held, AllHeld}
use Rattle.switches.specs.Entries.{entries_in}
use Rattle.filling.specs.Filling.{record_of}
use Rattle.filling.proofs.Entries.{all_entries}
use Rattle.filling.proofs.Decoded.{table_counted, ordinary_kind}
use Rattle.bytecode.specs.Decoding.{counts, fitting, fitted, run_from, with_record, with_entries, records_from, entries_from, jump_words, line_jumps, jumps_of}
use Rattle.bytecode.specs.Theorems.{StoredSay}
use Rattle.bytecode.proofs.Laws.{by_fitting, not_filled, fitting_short, run_count, records_before, entries_before, length_records, length_entries}

-- The records from index k on are those of the lines, which start at an offset or later.
pub record Holds (code : List ℕ) (k at : ℕ) (lines : List Line) (records entries : List ℕ) : Type 0 where
  pub jumps : jumps_from records k (length lines) entries ≡ map (line_jumps code) lines
  pub held : (i : ℕ) → k ≤ i → i < k + length lines → Held entries (record_at records (index i))
  pub above : (i : ℕ) → k ≤ i → i < k + length lines → at ≤ offset_of records i
  pub rising : (i j : ℕ) → k ≤ i → i < j → j < k + length lines → offset_of records i < offset_of records j

-- one line before those that a store holds
module _
    (code : List ℕ) (k : ℕ) (l : Line) (lines : List Line) (records entries : List ℕ) (r : Record)
    (there : record_at records (index k) ≡ r) (starts : r.offset ≡ l.at.0) (on : l.at.0 < l.next.0)
    (words : stored_jumps entries r ≡ line_jumps code l) (its_entries : Held entries r)
    (rest : Holds code (k + 1) l.next.0 lines records entries)
  where
    offset_here : offset_of records k ≡ l.at.0
    offset_here = ap (λ (s : Record). s.offset) there ∙ starts

    at_or_after : (P : ℕ → Type 0) → P k → ((i : ℕ) → k + 1 ≤ i → i < k + 1 + length lines → P i) → (i : ℕ) → k ≤ i → i < k + length (l ∷ lines) → P i
    at_or_after P here after i a b = ⊎_elim (λ e. subst P e here) (λ lt. after i (omega arith) (omega arith)) (eq-or-lt_of_le a)

    pub one_more : Holds code k l.at.0 (l ∷ lines) records entries
    unfolding listed
    one_more =
        record {
          jumps = ap₂ (λ (a : Jumps) (more : List Jumps). a ∷ more) (ap (stored_jumps entries) there ∙ words) rest.jumps;
          held = at_or_after (λ i. Held entries (record_at records (index i))) (subst (Held entries) (sym there) its_entries) rest.held;
          above = at_or_after (λ i. l.at.0 ≤ offset_of records i) (omega (arith, offset_here)) (λ i a b. omega (arith, rest.above i a b));
          rising = λ i j a lt b.
              at_or_after (λ n. n < j → j < k + length (l ∷ lines) → offset_of records n < offset_of records j)
              (λ _ c. omega (arith, offset_here, rest.above j (omega arith) (omega arith)))
              (λ n c d e f. rest.rising n j c e (omega arith)) i a (omega arith) lt b;
        }

-- The words of an instruction's record and entries tell its jumps.
module _ (code pool : List ℕ) (at : CodeOffset) (next : CodeOffset) (m : ℕ) (entries : List ℕ) where
  entry_jumps : (es : List SwitchEntry) → listed (λ (i : ℕ). entry_at entries (index (m + i))) 0 (length es) ≡ es → listed (entry_jump entries (index m)) 0 (length es) ≡ map (λ (e : SwitchEntry). e.jump) es
  entry_jumps es h = sym (map_listed (λ (e : SwitchEntry). e.jump) (λ (i : ℕ). entry_at entries (index (m + i))) (length es) 0) ∙ ap (map (λ (e : SwitchEntry). e.jump)) h

  no_entries : (kind a b : ℕ) → step_of code pool at ≡ Ok ((instruction.Ordinary kind a b), next) → stored_entries (record_of at (index m) (instruction.Ordinary kind a b)) ≡ 0
  unfolding stored_entries
  no_entries kind a b e =
      let other = ordinary_kind code pool at kind a b next e in
      rw (ne_eqb _ _ other.0, ne_eqb _ _ other.1, stored_entries)

  table_number : (default low high : ℕ) (from : CodeOffset) (count : ℕ) → step_of code pool at ≡ Ok (instruction.TableSwitch default low high from count, next) → count ≡ unwrap_or (entry_count low high) 0
  table_number default low high from count e = ap (λ (number : Option ℕ). unwrap_or number 0) (table_counted code pool at default low high from count next e)

  stored_words_lem :
      (i : Instruction) → step_of code pool at ≡ Ok (i, next)
      → listed (λ (j : ℕ). entry_at entries (index (m + j))) 0 (length (entries_in code i)) ≡ entries_in code i
      → stored_words entries (record_of at (index m) i) ≡ jump_words code i
  unfolding stored_words jump_words has_jump stored_entries listed
  stored_words_lem (instruction.Ordinary kind a b) e h =
      ap (λ (n : ℕ). elim (has_jump kind) [ true ↦ a ∷ listed (entry_jump entries (index 0)) 0 n | false ↦ [] ]) (no_entries kind a b e)
  stored_words_lem (instruction.TableSwitch default low high from count) e h =
      let number = sym (all_entries code (instruction.TableSwitch default low high from count) ∙ table_number default low high from count e) in
      ap (λ (l : List ℕ). default ∷ l) (ap (listed (entry_jump entries (index m)) 0) number ∙ entry_jumps _ h)
  stored_words_lem (instruction.LookupSwitch default from count) e h =
      ap (λ (l : List ℕ). default ∷ l) (ap (listed (entry_jump entries (index m)) 0) (sym (all_entries code (instruction.LookupSwitch default from count))) ∙ entry_jumps _ h)

  stored_held : (i : Instruction) → step_of code pool at ≡ Ok (i, next) → m + entries_of i ≤ entry_room entries → Held entries (record_of at (index m) i)
  unfolding stored_entries
  stored_held (instruction.Ordinary kind a b) e h = omega (arith, no_entries kind a b e)
  stored_held (instruction.TableSwitch default low high from count) e h = omega (arith, table_number default low high from count e)
  stored_held (instruction.LookupSwitch default from count) e h = h

record_offset : (at : CodeOffset) (first : RecordIndex) (i : Instruction) → (record_of at first i).offset ≡ at.0
record_offset at first (instruction.Ordinary kind a b) = refl
record_offset at first (instruction.TableSwitch default low high from count) = refl
record_offset at first (instruction.LookupSwitch default from count) = refl

module _ (code pool : List ℕ) where
  abbrev Stores : ℕ → ℕ → CodeOffset → List ℕ → List ℕ → Lines → Type 0
  Stores k m at records entries ls = Holds code k at.0 (list_of ls) (records_from k m ls records) (entries_from code m ls entries)

  -- a line whose words are written, and whatever is stored after it
  module _ (l : Line) (k m : ℕ) (records entries : List ℕ) (after : Lines) (stands : step_of code pool l.at ≡ Ok (l.instruction, l.next)) (has_record : k < record_room records) (has_entries : m + entries_of l.instruction ≤ entry_room entries) where
    abbrev own : Record
    own = record_of l.at (index m) l.instruction

    abbrev entries_after : List ℕ
    entries_after = entries_from code (m + entries_of l.instruction) after (with_entries code m l entries)

    record_here : record_at (records_from (k + 1) (m + entries_of l.instruction) after (with_record k m l records)) (index k) ≡ own
    record_here = records_before after (k + 1) (m + entries_of l.instruction) (with_record k m l records) k (omega arith) ∙ record_there records k own has_record

    entries_here : listed (λ (j : ℕ). entry_at entries_after (index (m + j))) 0 (length (entries_in code l.instruction)) ≡ entries_in code l.instruction
    entries_here =
        let number = all_entries code l.instruction in
        listed_agree _ (λ (j : ℕ). entry_at (with_entries code m l entries) (index (m + j))) _ 0
        (λ j p q. entries_before code after (m + entries_of l.instruction) (with_entries code m l entries) (m + j) (omega (arith, number)))
        ∙ entries_there entries m (entries_in code l.instruction) (omega (arith, number))

    same_room : entry_room entries_after ≡ entry_room entries
    same_room = ap (λ (n : ℕ). n / entry_words) (length_entries code after (m + entries_of l.instruction) (with_entries code m l entries) ∙ length-sets entries (m * entry_words) (all_entry_words (entries_in code l.instruction)))

    jumps_here : stored_jumps entries_after own ≡ line_jumps code l
    jumps_here =
        ap₂ (λ (o : ℕ) (words : List ℕ). record { at = record { 0 = o }; words = words }) (record_offset l.at (index m) l.instruction)
        (stored_words_lem code pool l.at l.next m entries_after l.instruction stands entries_here)

    pub stored_line : Stores (k + 1) (m + entries_of l.instruction) l.next (with_record k m l records) (with_entries code m l entries) after → Stores k m l.at records entries (Lines.line l after)
    unfolding records_from entries_from list_of
    stored_line rest =
        let within = step_within code pool l.at l.instruction l.next stands in
        one_more code k l (list_of after) _ entries_after own record_here (record_offset l.at (index m) l.instruction) (omega (arith, within.longer)) jumps_here
        (stored_held code pool l.at l.next m entries_after l.instruction stands (omega (arith, same_room, has_entries))) rest

  -- all lines that fit, where the rest of them are stored
  abbrev AllStored : ℕ → ℕ → Lines → Lines → Type 0
  AllStored free_records free_entries ls fit =
      (at : CodeOffset) (k m : ℕ) (records entries : List ℕ) (k' m' : ℕ)
      → Consecutive code pool at ls → k + free_records ≡ record_room records → m + free_entries ≡ entry_room entries
      → run_from k m fit ≡ Ok (counts k' m') → Stores k m at records entries fit

  stored_one :
      (l : Line) (rest fit : Lines) (free_records free_entries : ℕ) → entries_of l.instruction ≤ free_entries
      → AllStored free_records (free_entries - entries_of l.instruction) rest fit → AllStored (suc free_records) free_entries (Lines.line l rest) (Lines.line l fit)
  unfolding run_from
  stored_one l rest fit free_records free_entries room h at k m records entries k' m' f r e filled =
      let kept_records = length-sets records (k * record_words) (words_of (record_of l.at (index m) l.instruction)) in
      let kept_entries = length-sets entries (m * entry_words) (all_entry_words (entries_in code l.instruction)) in
      subst (λ (a : CodeOffset). Stores k m a records entries (Lines.line l fit)) f.0
      (stored_line l k m records entries fit (ap (step_of code pool) f.0 ∙ f.2) (omega (arith, r)) (omega (arith, e))
      (h l.next (k + 1) (m + entries_of l.instruction) (with_record k m l records) (with_entries code m l entries) k' m' f.3 (omega (arith, r, kept_records)) (omega (arith, e, kept_entries)) filled))

  stored : (ls : Lines) (free_records free_entries : ℕ) → AllStored free_records free_entries ls (fitting free_records free_entries ls)
  unfolding run_from list_of listed
  stored =
      by_fitting AllStored stored_one
      (λ l rest free_records free_entries at k m records entries k' m' f r e filled. absurd (not_filled filled))
      (λ l rest free_entries at k m records entries k' m' f r e filled. absurd (not_filled filled))
      (λ free_records free_entries at k m records entries k' m' f r e filled.
      record { jumps = refl; held = λ i a b. absurd (omega arith); above = λ i a b. absurd (omega arith); rising = λ i j a lt b. absurd (omega arith) })
      (λ free_records free_entries p at k m records entries k' m' f r e filled. absurd (not_filled filled))

-- What a run that fills the stores from any marks on leaves in them
module _
    (code pool records entries : List ℕ) (k m room_of_records room_of_entries : ℕ) {k' m' : ℕ}
    (room : k + room_of_records ≡ record_room records) (entries_room : m + room_of_entries ≡ entry_room entries)
    (filled : run_from k m (fitted code pool room_of_records room_of_entries) ≡ Ok (counts k' m'))
  where
    pub holds : Stores code pool k m (record { 0 = 0 }) records entries (fitted code pool room_of_records room_of_entries)
    holds =
        stored code pool (lines_of code pool) room_of_records room_of_entries (record { 0 = 0 }) k m records entries k' m'
        ((lines_exactly code pool (lines_of code pool)).0 refl) room entries_room filled

pub stored_say : StoredSay
stored_say code pool records entries k m room_of_records room_of_entries count stored room entries_room filled =
    let fit = fitted code pool room_of_records room_of_entries in
    let number : count ≡ length (list_of fit) = omega (arith, run_count fit k m (k + count) (m + stored) filled) in
    ap (λ (n : ℕ). jumps_from (records_from k m fit records) k n (entries_from code m fit entries)) number
    ∙ (holds code pool records entries k m room_of_records room_of_entries room entries_room filled).jumps

-- and from the start
module _ (code pool records entries : List ℕ) {k m : ℕ} (filled : run_from 0 0 (fitted code pool (record_room records) (entry_room entries)) ≡ Ok (counts k m)) where
  abbrev fit : Lines
  fit = fitted code pool (record_room records) (entry_room entries)

  abbrev records_filled : List ℕ
  records_filled = records_from 0 0 fit records

  abbrev entries_filled : List ℕ
  entries_filled = entries_from code 0 fit entries

  number : k ≡ length (list_of fit)
  number = omega (arith, run_count fit 0 0 k m filled)

  all_held : Holds code 0 0 (list_of fit) records_filled entries_filled
  all_held = holds code pool records entries 0 0 (record_room records) (entry_room entries) (omega arith) (omega arith) filled

  pub filled_sorted : Sorted records_filled k
  filled_sorted =
      let few = fitting_short (lines_of code pool) (record_room records) (entry_room entries) in
      let kept : length records_filled ≡ length records = length_records fit 0 0 records in
      record {
        there = omega (arith, few, number, kept);
        rising = λ i j a b. all_held.rising i j (omega arith) a (omega (arith, number));
      }

  pub filled_held : AllHeld records_filled k entries_filled
  filled_held i a = all_held.held i (omega arith) (omega (arith, number))

  -- THE LINK: the jumps that the words of the stores say are those of the instructions
  pub filled_jumps : jumps_in records_filled k entries_filled ≡ jumps_of code fit
  filled_jumps = ap (λ (n : ℕ). jumps_in records_filled n entries_filled) number ∙ all_held.jumps
