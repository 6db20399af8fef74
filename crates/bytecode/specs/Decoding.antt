-- Document 01: the whole answer of decoding, and what the two lent stores hold afterwards. The instructions themselves are
-- those of `lines_of`, which knows no store; here they meet the stores, the limits and the check of the jumps.
use Rattle.std.specs.Prelude.{ℕ, zero, suc, ◌+◌, ◌-◌, ◌*◌, true, false, List, [], ◌∷◌, ◌++◌, map, leb, length, take, replicate, Result, Ok, Err}
use Rattle.std.proofs.lemmas.List.Edits.{sets}
use Rattle.ordinary.specs.declared.Instruction.{Instruction}
use Rattle.ordinary.specs.declared.Instruction.TheVariants as instruction
use Rattle.instruction.specs.Entries.{entries_of}
use Rattle.lines.specs.Lines.{Line, Lines, lines_of, list_of}
use Rattle.records.specs.declared.SwitchEntry.{SwitchEntry}
use Rattle.records.specs.Records.{record_words, entry_words, record_room, entry_room, index, words_of, all_entry_words}
use Rattle.switches.specs.Entries.{entries_in}
use Rattle.filling.specs.Filling.{record_of}
use Rattle.jumps.specs.declared.Failure.{Failure}
use Rattle.jumps.specs.Jumps.{Jumps, Checked, failure, check}
use Rattle.jumps.specs.Stored.{has_jump}
use Rattle.read.specs.declared.CodeOffset.{CodeOffset}
use Rattle.refusals.specs.declared.Reason.{Reason}
use Rattle.refusals.specs.declared.Reason.TheVariants as reason
use Rattle.refusals.specs.declared.Refusal.{Refusal}
use Rattle.refusals.specs.Numbers.{refused}
use Rattle.bytecode.specs.declared.Decoded.{Decoded}

-- JVMS 4.7.3: a code has fewer than 65,536 bytes
abbrev pub code_limit : ℕ
code_limit = 65535

abbrev pub pool_limit : ℕ
pool_limit = 4096

-- The room for records and entries. 14: the entries of this instruction exceed the room left. 15: no record is left
unfoldable pub fitting : ℕ → ℕ → Lines → Lines
fitting records entries (Lines.line l rest) =
    elim (leb (entries_of l.instruction) entries) [
      | true ↦ elim records [
        | suc left ↦ Lines.line l (fitting left (entries - entries_of l.instruction) rest)
        | zero ↦ Lines.stop (refused reason.NoRecordLeft l.at)
      ]
      | false ↦ Lines.stop (refused reason.NoEntryLeft l.at)
    ]
fitting records entries Lines.end = Lines.end
fitting records entries (Lines.stop r) = Lines.stop r

-- The lines of a code as far as there is room for them
abbrev pub fitted : List ℕ → List ℕ → ℕ → ℕ → Lines
fitted code pool room_of_records room_of_entries = fitting room_of_records room_of_entries (lines_of code pool)

-- How many instructions and switch entries were decoded
abbrev pub counts : ℕ → ℕ → Decoded
counts instructions entries = record { instructions = instructions; entries = entries }

-- What filling the stores answers, before any jump is looked at, and what decoding does
abbrev pub Run : Type 0
Run = Result Decoded (Refusal CodeOffset)

abbrev pub Decision : Type 0
Decision = Result Decoded Failure

-- What lines answer and store, where so many records and entries are stored before them
unfoldable pub run_from : ℕ → ℕ → Lines → Run
run_from k m (Lines.line l rest) = run_from (k + 1) (m + entries_of l.instruction) rest
run_from k m Lines.end = Ok (counts k m)
run_from k m (Lines.stop r) = Err r

-- one line in the store of records, at its index, and in the store of entries
abbrev pub with_record : ℕ → ℕ → Line → List ℕ → List ℕ
with_record k m l records = sets records (k * record_words) (words_of (record_of l.at (index m) l.instruction))

abbrev pub with_entries : List ℕ → ℕ → Line → List ℕ → List ℕ
with_entries code m l entries = sets entries (m * entry_words) (all_entry_words (entries_in code l.instruction))

unfoldable pub records_from : ℕ → ℕ → Lines → List ℕ → List ℕ
records_from k m (Lines.line l rest) records = records_from (k + 1) (m + entries_of l.instruction) rest (with_record k m l records)
records_from k m Lines.end records = records
records_from k m (Lines.stop r) records = records

unfoldable pub entries_from : List ℕ → ℕ → Lines → List ℕ → List ℕ
entries_from code m (Lines.line l rest) entries = entries_from code (m + entries_of l.instruction) rest (with_entries code m l entries)
entries_from code m Lines.end entries = entries
entries_from code m (Lines.stop r) entries = entries

-- JVMS 6.5: the jumps of an instruction, its own or a switch's default and then those of its entries
unfoldable pub jump_words : List ℕ → Instruction → List ℕ
jump_words code (instruction.Ordinary kind a b) = elim (has_jump kind) [ true ↦ a ∷ [] | false ↦ [] ]
jump_words code (instruction.TableSwitch default low high from count) =
    default ∷ map (λ (e : SwitchEntry). e.jump) (entries_in code (instruction.TableSwitch default low high from count))
jump_words code (instruction.LookupSwitch default from count) =
    default ∷ map (λ (e : SwitchEntry). e.jump) (entries_in code (instruction.LookupSwitch default from count))

abbrev pub line_jumps : List ℕ → Line → Jumps
line_jumps code l = record { at = l.at; words = jump_words code l.instruction }

abbrev pub jumps_of : List ℕ → Lines → List Jumps
jumps_of code ls = map (line_jumps code) (list_of ls)

-- Jumps are checked after all decoding. A refusal before it has no second number: it is 0
abbrev pub judged : Run → Checked → Decision
judged (Ok d) (Ok good) = Ok d
judged (Ok d) (Err f) = Err f
judged (Err r) c = Err (failure r.reason r.place 0)

-- What lines answer, within the limits
abbrev pub answer_of : List ℕ → Lines → Decision
answer_of code ls = judged (run_from 0 0 ls) (check (jumps_of code ls))

-- A refusal at the start of the code
abbrev pub at_once : Reason → Decision
at_once r = Err (failure r (record { 0 = 0 }) 0)

-- The limits go before any answer. 1: the code is over its limit. 2: the pool table is
unfoldable pub limited : List ℕ → List ℕ → Decision → Decision
limited code pool answer =
    elim (leb (length code) code_limit) [
      | true ↦ elim (leb (length pool) pool_limit) [ true ↦ answer | false ↦ at_once reason.PoolTooLong ]
      | false ↦ at_once reason.CodeTooLong
    ]

-- The whole answer, where there is room for so many records and so many entries
unfoldable pub decoding : List ℕ → List ℕ → ℕ → ℕ → Decision
decoding code pool room_of_records room_of_entries = limited code pool (answer_of code (fitted code pool room_of_records room_of_entries))

-- A store afterwards: what is written where the answer is acceptance. A refusal leaves the words before a mark as they
-- were, and every word from it on is zero
unfoldable pub store_after : ℕ → Decision → List ℕ → List ℕ → List ℕ
store_after mark (Ok d) before written = written
store_after mark (Err f) before written = take mark before ++ replicate (length before - mark) 0

-- Decoding writes from the start of both stores, so both marks are 0
abbrev pub records_after : List ℕ → List ℕ → List ℕ → List ℕ → List ℕ
records_after code pool records entries =
    store_after 0 (decoding code pool (record_room records) (entry_room entries)) records (records_from 0 0 (fitted code pool (record_room records) (entry_room entries)) records)

abbrev pub entries_after : List ℕ → List ℕ → List ℕ → List ℕ → List ℕ
entries_after code pool records entries =
    store_after 0 (decoding code pool (record_room records) (entry_room entries)) entries (entries_from code 0 (fitted code pool (record_room records) (entry_room entries)) entries)
