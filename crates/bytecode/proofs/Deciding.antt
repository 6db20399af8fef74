-- From the run and the check of the jumps to the answer and what is left in the stores.
use Prim.Native.Nat.{ℕ, ◌≤◌, ◌<◌}
use mathlib.Core.Bool.{true, false}
use mathlib.Core.List.{List}
use mathlib.Core.Path.{◌≡◌, refl, sym, ap, ap₂, ◌∙◌}
use native.Mathlib.Nat.{sub-zero}
use Rattle.std.proofs.lemmas.Bool.{false≢true, true≢false}
use lib.ListN.{length, replicate}
use Rattle.std.specs.Prelude.{Ok, Err, is_err}
use Rattle.refusals.specs.declared.Reason.TheVariants as reason
use Rattle.refusals.specs.declared.Refusal.{Refusal}
use Rattle.read.specs.declared.CodeOffset.{CodeOffset}
use Rattle.lines.specs.Lines.{Lines}
use Rattle.records.specs.Records.{record_room, entry_room}
use Rattle.jumps.specs.declared.Failure.{Failure}
use Rattle.jumps.specs.Jumps.{Checked, failure, check}
use Rattle.jumps.specs.Stored.{jumps_in, AllHeld}
use Rattle.lookup.specs.Lookup.{Sorted}
use Rattle.bytecode.specs.declared.Decoded.{Decoded}
use Rattle.bytecode.specs.Decoding.{Run, Decision, at_once, code_limit, pool_limit, fitted, run_from, jumps_of, judged, answer_of, decoding, store_after, records_after, entries_after}
use Rattle.bytecode.specs.Theorems.{RefusedStores}
use Rattle.bytecode.proofs.Limits.{over_code, over_pool, both_within}
use Rattle.bytecode.proofs.Filling.{Fills}
use Rattle.bytecode.proofs.Stored.{filled_sorted, filled_held, filled_jumps}

module _ (code pool records₀ entries₀ : List ℕ) where
  abbrev fit : Lines
  fit = fitted code pool (record_room records₀) (entry_room entries₀)

  abbrev answered : Decision
  answered = decoding code pool (record_room records₀) (entry_room entries₀)

  -- what is to be known of an answer and of the stores before they are settled
  abbrev pub Decides : Decision → List ℕ → List ℕ → Type 0
  Decides answer records entries =
      (answer ≡ answered)
      × ((store_after 0 answer records₀ records ≡ records_after code pool records₀ entries₀)
      × (store_after 0 answer entries₀ entries ≡ entries_after code pool records₀ entries₀))

  decides_refused : {f : Failure} (records entries : List ℕ) → answered ≡ Err f → Decides (Err f) records entries
  unfolding store_after
  decides_refused records entries e = (sym e, (rw e refl, rw e refl))

  module _ (records entries : List ℕ) where
    pub code_too_long : code_limit < length code → Decides (at_once reason.CodeTooLong) records entries
    unfolding decoding
    code_too_long h = decides_refused records entries (over_code code pool (answer_of code fit) h)

    pub pool_too_long : length code ≤ code_limit → pool_limit < length pool → Decides (at_once reason.PoolTooLong) records entries
    unfolding decoding
    pool_too_long h k = decides_refused records entries (over_pool code pool (answer_of code fit) h k)

  module _ (h : length code ≤ code_limit) (k : length pool ≤ pool_limit) where
    within : answered ≡ answer_of code fit
    unfolding decoding
    within = both_within code pool (answer_of code fit) h k

    module _ {answer : Run} (records entries : List ℕ) (fills : Fills code pool records₀ entries₀ answer records entries) where
      pub not_filled : {r : Refusal CodeOffset} → answer ≡ Err r → Decides (Err (failure r.reason r.place 0)) records entries
      not_filled e = decides_refused records entries (within ∙ ap (λ (a : Run). judged a (check (jumps_of code fit))) (sym fills.0 ∙ e))

      module _ {d : Decoded} (e : answer ≡ Ok d) where
        filled : run_from 0 0 fit ≡ Ok d
        filled = sym fills.0 ∙ e

        pub sorted : Sorted records d.instructions
        sorted = rw fills.1.0 (filled_sorted code pool records₀ entries₀ filled)

        pub held : AllHeld records d.instructions entries
        held = rw (fills.1.0, fills.1.1) (filled_held code pool records₀ entries₀ filled)

        same_jumps : check (jumps_in records d.instructions entries) ≡ check (jumps_of code fit)
        same_jumps = rw (fills.1.0, fills.1.1) (ap check (filled_jumps code pool records₀ entries₀ filled))

        module _ {verdict : Checked} (checks : verdict ≡ check (jumps_in records d.instructions entries)) where
          judges : answered ≡ judged (Ok d) verdict
          judges = within ∙ ap₂ judged filled (sym (checks ∙ same_jumps))

          pub jumps_bad : {f : Failure} → verdict ≡ Err f → Decides (Err f) records entries
          jumps_bad b = decides_refused records entries (judges ∙ ap (judged (Ok d)) b)

          pub jumps_good : verdict ≡ Ok tt → Decides (Ok d) records entries
          unfolding store_after
          jumps_good g =
              let accepted : answered ≡ Ok d = judges ∙ ap (judged (Ok d)) g in
              (sym accepted, (rw accepted fills.1.0, rw accepted fills.1.1))

-- from the mark 0 on, a refusal clears all of a store
cleared_all : (f : Failure) (before written : List ℕ) → store_after 0 (Err f) before written ≡ replicate (length before) 0
unfolding store_after
cleared_all f before written = ap (λ (n : ℕ). replicate n 0) (sub-zero (length before))

-- what was left open is settled: a refusal clears the store, and an acceptance leaves it
pub settled_refused : (answer : Decision) (before store after : List ℕ) {is : List ℕ} → is_err answer ≡ true → length store ≡ length before → after ≡ replicate (length store) 0 → store_after 0 answer before store ≡ is → after ≡ is
settled_refused (Ok d) before store after r kept cleared e = absurd (false≢true r)
settled_refused (Err f) before store after r kept cleared e = cleared ∙ ap (λ (n : ℕ). replicate n 0) kept ∙ sym (cleared_all f before store) ∙ e

pub settled_accepted : (answer : Decision) (before store : List ℕ) {is : List ℕ} → is_err answer ≡ false → store_after 0 answer before store ≡ is → store ≡ is
unfolding store_after
settled_accepted (Ok d) before store a e = e
settled_accepted (Err f) before store r e = absurd (true≢false r)

pub refused_stores : RefusedStores
refused_stores code pool records entries f e = (rw e (cleared_all f records _), rw e (cleared_all f entries _))
