-- What an acceptance means: both lengths are within their limits, all instructions have room, the code ends with the last
-- of them, and every jump lands. The stores then tell the jumps of these instructions.
use Prim.Native.Nat.{ℕ, ◌+◌, ◌≤◌}
use mathlib.Core.List.{List}
use mathlib.Core.Path.{◌≡◌, refl, sym, ap, ap₂, ◌∙◌, subst}
use native.Mathlib.Omega.{arith}
use lib.ListN.{length}
use Rattle.std.specs.Prelude.{Ok, Err}
use Rattle.refusals.specs.Numbers.{refused}
use Rattle.instruction.specs.Entries.{entries_of}
use Rattle.lines.specs.Lines.{Lines, lines_of}
use Rattle.records.specs.Records.{record_room, entry_room}
use Rattle.jumps.specs.declared.Failure.{Failure}
use Rattle.jumps.specs.Jumps.{Checked, check}
use Rattle.jumps.specs.Stored.{jumps_in}
use Rattle.bytecode.specs.Decoding.{Run, Decision, counts, code_limit, pool_limit, fitting, fitted, run_from, records_from, entries_from, jumps_of, judged, answer_of, decoding, store_after, records_after, entries_after}
use Rattle.bytecode.specs.Theorems.{StoresSay}
use Rattle.bytecode.proofs.Laws.{by_fitting, not_filled}
use Rattle.bytecode.proofs.Limits.{Limits, by_limits}
use Rattle.bytecode.proofs.Stored.{filled_jumps}

-- lines that fill stores fit all
pub filled_fits : (ls : Lines) (records entries k m k' m' : ℕ) → run_from k m (fitting records entries ls) ≡ Ok (counts k' m') → fitting records entries ls ≡ ls
unfolding run_from
filled_fits =
    by_fitting (λ records entries ls fit. (k m k' m' : ℕ) → run_from k m fit ≡ Ok (counts k' m') → fit ≡ ls)
    (λ l rest fit records entries room h k m k' m' e. ap (Lines.line l) (h (k + 1) (m + entries_of l.instruction) k' m' e))
    (λ l rest records entries k m k' m' e. absurd (not_filled e))
    (λ l rest entries k m k' m' e. absurd (not_filled e))
    (λ records entries k m k' m' e. refl)
    (λ records entries r k m k' m' e. refl)

never : {f : Failure} {k m : ℕ} → ◌≡◌ {A = Decision} (Err f) (Ok (counts k m)) → ⊥
never e = let z : ◌≡◌ {A = ℕ} 0 1 = cc in omega arith

-- the answer of a decision as that of the run before it
abbrev run_of : Decision → Run
run_of (Ok d) = Ok d
run_of (Err f) = Err (refused f.reason f.place)

judged_accepted : (r : Run) (c : Checked) (k m : ℕ) → judged r c ≡ Ok (counts k m) → (r ≡ Ok (counts k m)) × (c ≡ Ok tt)
judged_accepted (Ok d) (Ok good) k m e = (ap run_of e, refl)
judged_accepted (Ok d) (Err f) k m e = absurd (never e)
judged_accepted (Err r) c k m e = absurd (never e)

module _ (code pool : List ℕ) (room_of_records room_of_entries k m : ℕ) where
  pub record Acceptance : Type 0 where
    pub short_code : length code ≤ code_limit
    pub short_pool : length pool ≤ pool_limit
    pub all_fit : fitted code pool room_of_records room_of_entries ≡ lines_of code pool
    pub filled : run_from 0 0 (lines_of code pool) ≡ Ok (counts k m)
    pub good : check (jumps_of code (lines_of code pool)) ≡ Ok tt

  pub acceptance : decoding code pool room_of_records room_of_entries ≡ Ok (counts k m) → Acceptance
  unfolding decoding
  acceptance accepted = go (by_limits code pool (answer_of code (fitted code pool room_of_records room_of_entries)) accepted)
    where
      go : Limits code pool (answer_of code (fitted code pool room_of_records room_of_entries)) (Ok (counts k m)) → Acceptance
      go (Limits.within c p e) =
          let both = judged_accepted _ _ k m (sym e) in
          let fits = filled_fits (lines_of code pool) room_of_records room_of_entries 0 0 k m both.0 in
          record {
            short_code = c;
            short_pool = p;
            all_fit = fits;
            filled = ap (run_from 0 0) (sym fits) ∙ both.0;
            good = ap (λ (ls : Lines). check (jumps_of code ls)) (sym fits) ∙ both.1;
          }
      go (Limits.long_pool c p e) = absurd (never (sym e))
      go (Limits.long_code c e) = absurd (never (sym e))

module _ (code pool records entries : List ℕ) (k m : ℕ) (accepted : decoding code pool (record_room records) (entry_room entries) ≡ Ok (counts k m)) where
  accepts : Acceptance code pool (record_room records) (entry_room entries) k m
  accepts = acceptance code pool (record_room records) (entry_room entries) k m accepted

  -- the stores are those of all instructions
  pub accepted_records : records_after code pool records entries ≡ records_from 0 0 (lines_of code pool) records
  unfolding store_after
  accepted_records = rw (accepted, accepts.all_fit)

  pub accepted_entries : entries_after code pool records entries ≡ entries_from code 0 (lines_of code pool) entries
  unfolding store_after
  accepted_entries = rw (accepted, accepts.all_fit)

pub stores_say : StoresSay
stores_say code pool records entries k m accepted =
    let a = acceptance code pool (record_room records) (entry_room entries) k m accepted in
    ap₂ (λ (r e : List ℕ). jumps_in r k e) (accepted_records code pool records entries k m accepted) (accepted_entries code pool records entries k m accepted)
    ∙ subst (λ (ls : Lines). jumps_in (records_from 0 0 ls records) k (entries_from code 0 ls entries) ≡ jumps_of code ls) a.all_fit
    (filled_jumps code pool records entries (ap (run_from 0 0) a.all_fit ∙ a.filled))
