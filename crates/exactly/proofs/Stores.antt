-- Of the stores only their room counts.
use Prim.Native.Nat.{ℕ, ◌*◌, ◌≤◌}
use mathlib.Core.List.{List, ◌++◌}
use mathlib.Core.Path.{◌≡◌, refl, sym, ap, ◌∙◌}
use native.Mathlib.Omega.{arith}
use lib.ListN.{length, take, drop}
use lib.Seq.{take_at}
use Rattle.std.specs.Prelude.{Ok, Err}
use Rattle.refusals.specs.declared.Reason.{Reason}
use Rattle.refusals.specs.Numbers.{number_of}
use Rattle.read.specs.declared.CodeOffset.{CodeOffset}
use Rattle.lines.specs.Lines.{lines_of, list_of}
use Rattle.records.specs.Records.{record_words, entry_words, record_room, entry_room}
use Rattle.bytecode.specs.Decoding.{Decision, decoding}
use Rattle.bytecode.specs.Rows.{record_row, entry_row}
use Rattle.bytecode.proofs.Accepted.{acceptance}
use Rattle.bytecode.proofs.Rows.{record_words_lem, row_words, accepted_stores}
use Rattle.exactly.specs.Standing.{Standing}
use Rattle.exactly.specs.Answers.{StoredTo, Demand2, Why}
use Rattle.exactly.specs.Stores.{NotForRoom, LargerRooms, SameWords}
use Rattle.exactly.proofs.Answers.{demand_2_exactly, refused_exactly}

-- What holds in some room holds in any larger, but for a refusal for want of room
module _ (code pool : List ℕ) (room_of_records room_of_entries room_of_records' room_of_entries' : ℕ) (more_records : room_of_records ≤ room_of_records') (more_entries : room_of_entries ≤ room_of_entries') where
  stored_more : {ls : List (Standing code pool)} {end : CodeOffset} → StoredTo code pool room_of_records room_of_entries ls end → StoredTo code pool room_of_records' room_of_entries' ls end
  stored_more s =
      record { short_code = s.short_code; short_pool = s.short_pool; tile = s.tile; records_fit = omega (arith, s.records_fit); entries_fit = omega (arith, s.entries_fit) }

  accepted_more : {k m : ℕ} → Demand2 code pool room_of_records room_of_entries k m → Demand2 code pool room_of_records' room_of_entries' k m
  accepted_more d =
      let a = d.accepted in
      record { lines = d.lines; accepted = record { stored = stored_more a.stored; instructions = a.instructions; switch_entries = a.switch_entries; land = a.land }; only = d.only }

  why_more : {n : Reason} {place : CodeOffset} {second : ℕ} → (number_of n ≡ 14 → ⊥) → (number_of n ≡ 15 → ⊥) → Why code pool room_of_records room_of_entries n place second → Why code pool room_of_records' room_of_entries' n place second
  why_more a b (Why.long_code h t) = Why.long_code h t
  why_more a b (Why.long_pool h k t) = Why.long_pool h k t
  why_more a b (Why.bad_instruction ls at s inside fault none) = Why.bad_instruction ls at (stored_more s) inside fault none
  why_more a b (Why.no_entry_left ls l s few t) = absurd (a t.0)
  why_more a b (Why.no_record_left ls l s room full t) = absurd (b t.0)
  why_more a b (Why.bad_jump ls s fails) = Why.bad_jump ls (stored_more s) fails

  same_answer : (answer : Decision) → decoding code pool room_of_records room_of_entries ≡ answer → NotForRoom answer → decoding code pool room_of_records' room_of_entries' ≡ answer
  same_answer (Ok d) e room = (demand_2_exactly code pool room_of_records' room_of_entries' d.instructions d.entries).1 (accepted_more ((demand_2_exactly code pool room_of_records room_of_entries d.instructions d.entries).0 e))
  same_answer (Err f) e room =
      (refused_exactly code pool room_of_records' room_of_entries' f.reason f.place f.second).1 (why_more room.0 room.1 ((refused_exactly code pool room_of_records room_of_entries f.reason f.place f.second).0 e))

pub larger_rooms : LargerRooms
larger_rooms code pool room_of_records room_of_entries room_of_records' room_of_entries' h k room =
    same_answer code pool room_of_records room_of_entries room_of_records' room_of_entries' h k (decoding code pool room_of_records room_of_entries) refl room

-- the used words are the rows of the lines, whatever the store
front : (row rest rest' : List ℕ) (n : ℕ) → length row ≡ n → {after after' : List ℕ} → after ≡ row ++ rest → after' ≡ row ++ rest' → take n after' ≡ take n after
front row rest rest' n h e e' = ap (take n) e' ∙ take_at row rest' n h ∙ sym (ap (take n) e ∙ take_at row rest n h)

pub same_words : SameWords
same_words code pool records entries records' entries' k m e e' =
    let a = accepted_stores code pool records entries k m e in
    let b = accepted_stores code pool records' entries' k m e' in
    let filled = (acceptance code pool (record_room records) (entry_room entries) k m e).filled in (
      front (record_row 0 (list_of (lines_of code pool))) (drop (k * record_words) records) (drop (k * record_words) records') (k * record_words) (omega (arith, record_words_lem (lines_of code pool) 0 0 k m filled)) a.0 b.0,
      front (entry_row code (list_of (lines_of code pool))) (drop (m * entry_words) entries) (drop (m * entry_words) entries') (m * entry_words) (omega (arith, row_words code (lines_of code pool) 0 0 k m filled)) a.1 b.1,
    )
