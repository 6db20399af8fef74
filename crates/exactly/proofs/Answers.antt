-- Each answer of `decode` exactly when, over the instructions that stand in the code.
use Prim.Native.Nat.{ℕ, zero, suc, ◌+◌, ◌-◌, ◌≤◌, ◌<◌}
use mathlib.Core.Bool.{Bool, true, false}
use mathlib.Core.List.Memᴰ
use mathlib.Core.List.{List, [], ◌∷◌, map, Memᴰ}
use mathlib.Core.Logic.{◌↔◌, ◌⊎◌, inl, inr, ⊎_elim}
use mathlib.Core.Path.{◌≡◌, refl, sym, ap, ap₂, ◌∙◌, subst}
use native.Mathlib.Omega.{arith}
use borrow.Author.Tests.{leb-true, leb-false}
use lib.Dec.{leb}
use lib.ListN.{length}
use Rattle.laws.specs.Bytes.{In, one_of}
use Rattle.laws.proofs.Bytes.{one_of_lem}
use Rattle.std.specs.Prelude.{Ok, Err}
use Rattle.refusals.specs.declared.Reason.{Reason}
use Rattle.refusals.specs.declared.Reason.TheVariants as reason
use Rattle.refusals.specs.declared.Refusal.{Refusal}
use Rattle.refusals.specs.Numbers.{refused, number_of}
use Rattle.refusals.proofs.Numbers.{numbers_differ}
use Rattle.read.specs.declared.CodeOffset.{CodeOffset}
use Rattle.instruction.specs.Steps.{step_of}
use Rattle.instruction.specs.Entries.{entries_of}
use Rattle.instruction.specs.Faults.{step_refusals}
use Rattle.instruction.proofs.Faults.{step_refused_exactly, step_refuses}
use Rattle.lines.specs.Lines.{Line, Lines, lines_of, list_of, Consecutive}
use Rattle.lines.proofs.Exactly.{lines_exactly}
use Rattle.jumps.specs.declared.Failure.{Failure}
use Rattle.jumps.specs.Jumps.{Jumps, Checked, failure, target_of, starts_of, check}
use Rattle.jumps.specs.Landing.{AllLand, Fails}
use Rattle.jumps.proofs.Exactly.{good_exactly, bad_exactly}
use Rattle.bytecode.specs.declared.Decoded.{Decoded}
use Rattle.bytecode.specs.Decoding.{Run, Decision, counts, code_limit, pool_limit, fitting, fitted, run_from, line_jumps, jumps_of, judged, answer_of, decoding}
use Rattle.bytecode.proofs.Laws.{fit_line, fit_14, fit_15}
use Rattle.bytecode.proofs.Limits.{over_code, over_pool, both_within, Limits, by_limits}
use Rattle.exactly.specs.Standing.{Standing, lines_in, total_entries, LinesTile, jumps_drawn, all_jumps_drawn}
use Rattle.exactly.specs.Answers.{StoredTo, Demand2, Demand2Exactly, Why, RefusedExactly, refusals, RefusalNumbers}
use Rattle.exactly.proofs.Standing.{onto, list_onto, run_onto, fit_onto, standing_line, lines_are, lines_past, after_line, all_jumps_drawn_lem, count_lines}

abbrev start : CodeOffset
start = record { 0 = 0 }

module _ (code pool : List ℕ) where
  -- What a run over consecutive lines comes to: lines that are stored, and then the end of the code, a fault of an instruction,
  -- or a line for which there is no room
  data Ending (at : CodeOffset) (records entries : ℕ) : Run → Type 0 where
    filled : {d : Decoded} → at.0 ≡ length code → Ending at records entries (Ok d)
    fault : {r : Refusal CodeOffset} → at.0 < length code → step_of code pool at ≡ Err r → Ending at records entries (Err r)
    no_entry : {r : Refusal CodeOffset} (s : Standing code pool) → s.line.at ≡ at → entries < entries_of s.line.instruction → number_of r.reason ≡ 14 → r.place ≡ at → Ending at records entries (Err r)
    no_record : {r : Refusal CodeOffset} (s : Standing code pool) → s.line.at ≡ at → entries_of s.line.instruction ≤ entries → records ≡ 0 → number_of r.reason ≡ 15 → r.place ≡ at → Ending at records entries (Err r)

  record Course (at : CodeOffset) (records entries : ℕ) (r : Run) : Type 0 where
    lines : List (Standing code pool)
    end : CodeOffset
    tile : LinesTile at lines end
    records_fit : length lines ≤ records
    entries_fit : total_entries (lines_in lines) ≤ entries
    ending : Ending end (records - length lines) (entries - total_entries (lines_in lines)) r

  with_room : {at : CodeOffset} {records entries records' entries' : ℕ} {r : Run} → records ≡ records' → entries ≡ entries' → Ending at records entries r → Ending at records' entries' r
  with_room {at} {records} {entries} {records'} {entries'} {r} e f ends = subst (λ (x : ℕ). Ending at x entries' r) e (subst (λ (x : ℕ). Ending at records x r) f ends)

  -- no line, and an end at once
  at_once : (at : CodeOffset) (records entries : ℕ) (r : Run) → Ending at records entries r → Course at records entries r
  unfolding total_entries
  at_once at records entries r ends =
      record {
        lines = [];
        end = at;
        tile = refl;
        records_fit = omega arith;
        entries_fit = omega arith;
        ending = with_room (omega arith) (omega arith) ends;
      }

  -- one line more before a course, and a line that has no room
  module _ (l : Line) (at : CodeOffset) (entries : ℕ) (e : l.at ≡ at) (decoded : step_of code pool at ≡ Ok (l.instruction, l.next)) where
    abbrev own : ℕ
    own = entries_of l.instruction

    abbrev this : Standing code pool
    this = standing_line code pool l (ap (step_of code pool) e ∙ decoded)

    one_more : (left : ℕ) (r : Run) → own ≤ entries → Course l.next left (entries - own) r → Course at (suc left) entries r
    unfolding total_entries
    one_more left r room c =
        let total : ℕ = total_entries (lines_in c.lines) in
        let few = c.entries_fit in
        let records_left : left - length c.lines ≡ suc left - suc (length c.lines) = omega arith in
        let entries_left : entries - own - total ≡ entries - (own + total) = omega arith in
        record {
          lines = this ∷ c.lines;
          end = c.end;
          tile = (e, c.tile);
          records_fit = omega (arith, c.records_fit);
          entries_fit = omega arith;
          ending = with_room records_left entries_left c.ending;
        }

    one_line :
        (k m : ℕ) (rest : Lines) (records : ℕ)
        → ((left : ℕ) → Course l.next left (entries - own) (run_from (k + 1) (m + own) (fitting left (entries - own) rest)))
        → Course at records entries (run_from k m (fitting records entries (Lines.line l rest)))
    unfolding run_from
    one_line k m rest records more = go (leb own entries) refl records
      where
        go : (t : Bool) → leb own entries ≡ t → (r : ℕ) → Course at r entries (run_from k m (fitting r entries (Lines.line l rest)))
        go true q (suc left) = subst (λ (ls : Lines). Course at (suc left) entries (run_from k m ls)) (sym (fit_line l rest entries left (leb-true _ _ q))) (one_more left _ (leb-true _ _ q) (more left))
        go true q zero = subst (λ (ls : Lines). Course at 0 entries (run_from k m ls)) (sym (fit_15 l rest entries (leb-true _ _ q))) (at_once at 0 entries _ (Ending.no_record this e (leb-true _ _ q) refl refl e))
        go false q r = subst (λ (ls : Lines). Course at r entries (run_from k m ls)) (sym (fit_14 l rest entries r (leb-false _ _ q))) (at_once at r entries _ (Ending.no_entry this e (leb-false _ _ q) refl e))

  course : (ls : Lines) (at : CodeOffset) (k m records entries : ℕ) → Consecutive code pool at ls → Course at records entries (run_from k m (fitting records entries ls))
  unfolding fitting run_from
  course Lines.end at k m records entries c = at_once at records entries (Ok (counts k m)) (Ending.filled c)
  course (Lines.stop r) at k m records entries c = at_once at records entries (Err r) (Ending.fault c.0 c.1)
  course (Lines.line l rest) at k m records entries c =
      one_line l at entries c.0 c.2 k m rest records (λ left. course rest l.next (k + 1) (m + entries_of l.instruction) left (entries - entries_of l.instruction) c.3)

-- Where lines are stored up to an offset, what comes after them decides.
module _ (code pool : List ℕ) (room_of_records room_of_entries : ℕ) (ls : List (Standing code pool)) (end : CodeOffset) (stored : StoredTo code pool room_of_records room_of_entries ls end) where
  abbrev total : ℕ
  total = total_entries (lines_in ls)

  module _ (rest : Lines) (c : Consecutive code pool end rest) where
    abbrev left : Lines
    left = fitting (room_of_records - length ls) (room_of_entries - total) rest

    fitted_onto : fitted code pool room_of_records room_of_entries ≡ onto (lines_in ls) left
    fitted_onto =
        ap (fitting room_of_records room_of_entries) (lines_are code pool ls end rest stored.tile c)
        ∙ fit_onto (lines_in ls) rest room_of_records room_of_entries (rw (count_lines ls) stored.records_fit) stored.entries_fit
        ∙ ap (λ (n : ℕ). onto (lines_in ls) (fitting (room_of_records - n) (room_of_entries - total) rest)) (count_lines ls)

    ran_onto : run_from 0 0 (onto (lines_in ls) left) ≡ run_from (length ls) total left
    ran_onto =
        let count : 0 + length (lines_in ls) ≡ length ls = omega (arith, count_lines ls) in
        run_onto (lines_in ls) left 0 0 ∙ ap₂ (λ (x y : ℕ). run_from x y left) count (let same : 0 + total ≡ total = omega arith in same)

    answered : {after : Lines} → left ≡ after → decoding code pool room_of_records room_of_entries ≡ judged (run_from (length ls) total after) (check (jumps_of code (onto (lines_in ls) after)))
    unfolding decoding
    answered e =
        both_within code pool (answer_of code (fitted code pool room_of_records room_of_entries)) stored.short_code stored.short_pool
        ∙ ap (answer_of code) fitted_onto
        ∙ ap (λ (r : Run). judged r (check (jumps_of code (onto (lines_in ls) left)))) ran_onto
        ∙ ap (λ (x : Lines). judged (run_from (length ls) total x) (check (jumps_of code (onto (lines_in ls) x)))) e

    pub stopped : (r : Refusal CodeOffset) → left ≡ Lines.stop r → decoding code pool room_of_records room_of_entries ≡ Err (failure r.reason r.place 0)
    unfolding run_from
    stopped r e = answered e

  pub all_judged : end.0 ≡ length code → decoding code pool room_of_records room_of_entries ≡ judged (Ok (counts (length ls) total)) (check (all_jumps_drawn ls))
  unfolding fitting run_from
  all_judged e =
      answered Lines.end e refl
      ∙ ap (λ (js : List Jumps). judged (Ok (counts (length ls) total)) (check js)) (ap (map (line_jumps code)) (list_onto (lines_in ls)) ∙ sym (all_jumps_drawn_lem code pool ls))

-- The jumps of lines land exactly where the check is good
drawn_land : (code pool : List ℕ) (ls : List (Standing code pool))
    → (check (all_jumps_drawn ls) ≡ Ok tt) ↔ ((s : Standing code pool) → Memᴰ s ls → AllLand (starts_of (all_jumps_drawn ls)) s.line.at (jumps_drawn s).words)
drawn_land code pool ls = (
  λ g s m. (good_exactly (all_jumps_drawn ls)).0 g (jumps_drawn s) (Memᴰ.map (λ (x : Standing code pool). jumps_drawn x) m),
  λ land. (good_exactly (all_jumps_drawn ls)).1 (λ j m.
      let s = Memᴰ.of_map (λ (x : Standing code pool). jumps_drawn x) ls m in
      subst (λ (x : Jumps). AllLand (starts_of (all_jumps_drawn ls)) x.at x.words) s.2 (land s.0 s.1)),
)

module _ (code pool : List ℕ) (room_of_records room_of_entries : ℕ) where
  abbrev answer : Decision
  answer = decoding code pool room_of_records room_of_entries

  -- Why the answer is a refusal, and that it is the answer
  record Refused : Type 0 where
    failed : Failure
    why : Why code pool room_of_records room_of_entries failed.reason failed.place failed.second
    is : answer ≡ Err failed

  -- All lines are stored: the check of their jumps decides
  record StoredAll : Type 0 where
    lines : List (Standing code pool)
    stored : StoredTo code pool room_of_records room_of_entries lines (record { 0 = length code })
    is : answer ≡ judged (Ok (counts (length lines) (total_entries (lines_in lines)))) (check (all_jumps_drawn lines))

  module _ (h : length code ≤ code_limit) (k : length pool ≤ pool_limit) where
    of_run : (r : Run) → answer ≡ judged r (check (jumps_of code (fitted code pool room_of_records room_of_entries))) → Course code pool start room_of_records room_of_entries r → Refused ⊎ StoredAll
    of_run r q c = by_ending r c.ending q
      where
        stored : StoredTo code pool room_of_records room_of_entries c.lines c.end
        stored = record { short_code = h; short_pool = k; tile = c.tile; records_fit = c.records_fit; entries_fit = c.entries_fit }

        by_ending : (r : Run) → Ending code pool c.end (room_of_records - length c.lines) (room_of_entries - total_entries (lines_in c.lines)) r → answer ≡ judged r (check (jumps_of code (fitted code pool room_of_records room_of_entries))) → Refused ⊎ StoredAll
        by_ending (Ok d) (Ending.filled e) q =
            let there : c.end ≡ record { 0 = length code } = ap (λ (i : ℕ). record { 0 = i }) e in
            inr (record { lines = c.lines; stored = subst (StoredTo code pool room_of_records room_of_entries c.lines) there stored; is = all_judged code pool room_of_records room_of_entries c.lines c.end stored e })
        by_ending (Err r) (Ending.fault inside e) q =
            inl (record { failed = failure r.reason r.place 0; why = Why.bad_instruction c.lines c.end stored inside ((step_refused_exactly code pool c.end r.reason r.place).0 e) refl; is = q })
        by_ending (Err r) (Ending.no_entry s at few is there) q =
            inl (record { failed = failure r.reason r.place 0; why = Why.no_entry_left c.lines s (subst (StoredTo code pool room_of_records room_of_entries c.lines) (sym at) stored) (omega (arith, c.entries_fit)) (is, there ∙ sym at, refl); is = q })
        by_ending (Err r) (Ending.no_record s at room none is there) q =
            inl (record { failed = failure r.reason r.place 0; why = Why.no_record_left c.lines s (subst (StoredTo code pool room_of_records room_of_entries c.lines) (sym at) stored) (omega (arith, c.entries_fit)) (omega (arith, c.records_fit)) (is, there ∙ sym at, refl); is = q })

    by_course : Refused ⊎ StoredAll
    unfolding decoding
    by_course =
        of_run (run_from 0 0 (fitted code pool room_of_records room_of_entries)) (both_within code pool (answer_of code (fitted code pool room_of_records room_of_entries)) h k)
        (course code pool (lines_of code pool) start 0 0 room_of_records room_of_entries ((lines_exactly code pool (lines_of code pool)).0 refl))

  -- What an answer says, and that the computed one says the truth
  abbrev Says : Decision → Type 0
  Says (Ok d) = Demand2 code pool room_of_records room_of_entries d.instructions d.entries
  Says (Err f) = Why code pool room_of_records room_of_entries f.reason f.place f.second

  only_lines : (ls others : List (Standing code pool)) → LinesTile start ls (record { 0 = length code }) → LinesTile start others (record { 0 = length code }) → lines_in others ≡ lines_in ls
  only_lines ls others h k =
      let same : onto (lines_in others) Lines.end ≡ onto (lines_in ls) Lines.end = sym (lines_are code pool others (record { 0 = length code }) Lines.end k refl) ∙ lines_are code pool ls (record { 0 = length code }) Lines.end h refl in
      sym (list_onto (lines_in others)) ∙ ap list_of same ∙ list_onto (lines_in ls)

  judged_says : (a : StoredAll) (v : Checked) → check (all_jumps_drawn a.lines) ≡ v → Says (judged (Ok (counts (length a.lines) (total_entries (lines_in a.lines)))) v)
  judged_says a (Ok good) g =
      record {
        lines = a.lines;
        accepted = record { stored = a.stored; instructions = refl; switch_entries = refl; land = (drawn_land code pool a.lines).0 g };
        only = λ others h. only_lines a.lines others a.stored.tile h;
      }
  judged_says a (Err f) b = Why.bad_jump a.lines a.stored ((bad_exactly (all_jumps_drawn a.lines) f.reason f.place f.second).0 b)

  truth : Says answer
  unfolding decoding
  truth = by_limit (by_limits code pool (answer_of code (fitted code pool room_of_records room_of_entries)) refl)
    where
      by_limit : Limits code pool (answer_of code (fitted code pool room_of_records room_of_entries)) answer → Says answer
      by_limit (Limits.long_code h e) = subst Says (sym e) (Why.long_code h (refl, refl, refl))
      by_limit (Limits.long_pool h k e) = subst Says (sym e) (Why.long_pool h k (refl, refl, refl))
      by_limit (Limits.within h k e) =
          ⊎_elim (λ r. subst Says (sym r.is) r.why) (λ a. subst Says (sym a.is) (judged_says a (check (all_jumps_drawn a.lines)) refl)) (by_course h k)

  -- And what is true is the answer
  accepted_is : (k m : ℕ) → Demand2 code pool room_of_records room_of_entries k m → answer ≡ Ok (counts k m)
  accepted_is k m d =
      let a = d.accepted in
      all_judged code pool room_of_records room_of_entries d.lines (record { 0 = length code }) a.stored refl
      ∙ ap (judged (Ok (counts (length d.lines) (total_entries (lines_in d.lines))))) ((drawn_land code pool d.lines).1 a.land)
      ∙ ap₂ (λ (x y : ℕ). Ok (counts x y)) (sym a.instructions) (sym a.switch_entries)

  why_is : (n : Reason) (place : CodeOffset) (second : ℕ) → Why code pool room_of_records room_of_entries n place second → answer ≡ Err (failure n place second)
  unfolding decoding fitting
  why_is n place second (Why.long_code h t) = rw (numbers_differ n reason.CodeTooLong t.0, t.1, t.2) (over_code code pool _ h)
  why_is n place second (Why.long_pool h k t) = rw (numbers_differ n reason.PoolTooLong t.0, t.1, t.2) (over_pool code pool _ h k)
  why_is n place second (Why.bad_instruction ls at stored inside wrong none) =
      rw none (stopped code pool room_of_records room_of_entries ls at stored (Lines.stop (refused n place)) (inside, (step_refused_exactly code pool at n place).1 wrong) (refused n place) refl)
  why_is n place second (Why.no_entry_left ls s stored few t) =
      let rest : Lines = lines_past code pool s in
      let fewer : room_of_entries - total_entries (lines_in ls) < entries_of s.line.instruction = omega (arith, stored.entries_fit) in
      rw (numbers_differ n reason.NoEntryLeft t.0, t.1, t.2)
      (stopped code pool room_of_records room_of_entries ls s.line.at stored (Lines.line s.line rest) (after_line code pool s) (refused reason.NoEntryLeft s.line.at) (fit_14 s.line rest _ (room_of_records - length ls) fewer))
  why_is n place second (Why.no_record_left ls s stored room full t) =
      let rest : Lines = lines_past code pool s in
      let empty : room_of_records - length ls ≡ 0 = omega arith in
      let some : entries_of s.line.instruction ≤ room_of_entries - total_entries (lines_in ls) = omega arith in
      rw (numbers_differ n reason.NoRecordLeft t.0, t.1, t.2)
      (stopped code pool room_of_records room_of_entries ls s.line.at stored (Lines.line s.line rest) (after_line code pool s) (refused reason.NoRecordLeft s.line.at)
      (ap (λ (x : ℕ). fitting x (room_of_entries - total_entries (lines_in ls)) (Lines.line s.line rest)) empty ∙ fit_15 s.line rest _ some))
  why_is n place second (Why.bad_jump ls stored fails) =
      all_judged code pool room_of_records room_of_entries ls (record { 0 = length code }) stored refl
      ∙ ap (judged (Ok (counts (length ls) (total_entries (lines_in ls))))) ((bad_exactly (all_jumps_drawn ls) n place second).1 fails)

pub demand_2_exactly : Demand2Exactly
demand_2_exactly code pool room_of_records room_of_entries k m = (λ e. subst (Says code pool room_of_records room_of_entries) e (truth code pool room_of_records room_of_entries), accepted_is code pool room_of_records room_of_entries k m)

pub refused_exactly : RefusedExactly
refused_exactly code pool room_of_records room_of_entries n place second = (λ e. subst (Says code pool room_of_records room_of_entries) e (truth code pool room_of_records room_of_entries), why_is code pool room_of_records room_of_entries n place second)

-- The numbers
numbered : {n : ℕ} (numbers : List ℕ) (number : ℕ) → one_of numbers number ≡ true → n ≡ number → In n numbers
numbered numbers number h e = subst (λ (m : ℕ). In m numbers) (sym e) ((one_of_lem numbers number).0 h)

step_refusal : {n : ℕ} → In n step_refusals → In n refusals
step_refusal m = Memᴰ.tail (Memᴰ.tail (Memᴰ.append_left (12 ∷ 13 ∷ 14 ∷ 15 ∷ []) m))

why_number : (code pool : List ℕ) (room_of_records room_of_entries : ℕ) (n : Reason) (place : CodeOffset) (second : ℕ) → Why code pool room_of_records room_of_entries n place second → In (number_of n) refusals × (In (number_of n) (12 ∷ 13 ∷ []) ⊎ (second ≡ 0))
why_number code pool room_of_records room_of_entries n place second (Why.long_code h t) = (numbered refusals 1 refl t.0, inr t.2)
why_number code pool room_of_records room_of_entries n place second (Why.long_pool h k t) = (numbered refusals 2 refl t.0, inr t.2)
why_number code pool room_of_records room_of_entries n place second (Why.bad_instruction ls at stored inside wrong none) = (step_refusal (step_refuses code pool at n place ((step_refused_exactly code pool at n place).1 wrong)), inr none)
why_number code pool room_of_records room_of_entries n place second (Why.no_entry_left ls s stored few t) = (numbered refusals 14 refl t.0, inr t.2)
why_number code pool room_of_records room_of_entries n place second (Why.no_record_left ls s stored room full t) = (numbered refusals 15 refl t.0, inr t.2)
why_number code pool room_of_records room_of_entries n place second (Why.bad_jump ls stored fails) = of_jump fails.fails
  where
    of_jump : Fails (starts_of (all_jumps_drawn ls)) (target_of fails.at.at fails.word) n → In (number_of n) refusals × (In (number_of n) (12 ∷ 13 ∷ []) ⊎ (second ≡ 0))
    of_jump (Fails.below_zero t e is) = (numbered refusals 12 refl is, inl (numbered (12 ∷ 13 ∷ []) 12 refl is))
    of_jump (Fails.nowhere t e missed is) = (numbered refusals 13 refl is, inl (numbered (12 ∷ 13 ∷ []) 13 refl is))

pub refusal_numbers : RefusalNumbers
refusal_numbers code pool room_of_records room_of_entries n place second e = why_number code pool room_of_records room_of_entries n place second ((refused_exactly code pool room_of_records room_of_entries n place second).0 e)
