-- What a method that is found, its identifier and its stores tell, as the program needs it.
use Prim.Native.Nat.{ℕ, ◌≤◌, ◌<◌}
use mathlib.Core.List.{List}
use mathlib.Core.Path.{◌≡◌, sym, ap, ◌∙◌}
use native.Mathlib.Omega.{arith}
use lib.ListN.{length}
use Rattle.std.specs.Prelude.{Some, Ok}
use Rattle.bundle.specs.declared.Sections.{Sections}
use Rattle.bundle.specs.Reading.{next_of}
use Rattle.bundle.specs.Theorems.{SectionsInside}
use Rattle.bundle.proofs.Inside.{method_inside}
use Rattle.identifier.specs.Identifier.{identifying}
use Rattle.identifier.proofs.Exactly.{identifies_exactly}
use Rattle.records.specs.Records.{record_room, entry_room}
use Rattle.lookup.specs.Lookup.{Sorted}
use Rattle.jumps.specs.Stored.{AllHeld}
use Rattle.bytecode.specs.declared.Decoded.{Decoded}
use Rattle.bytecode.specs.Decoding.{Decision, fitted, run_from, decoding, store_after, records_after, entries_after}
use Rattle.bytecode.proofs.Stored.{filled_sorted, filled_held}
use Rattle.bytecode.proofs.Accepted.{acceptance}

pub identifier_fits : (name descriptor : List ℕ) (room n : ℕ) → identifying name descriptor room ≡ Ok n → n ≤ room
identifier_fits name descriptor room n e = ((identifies_exactly name descriptor room n).0 e).fits

-- the stores of an accepted code hold its records in order, and the entries of each
module _ (code pool records entries : List ℕ) {answer : Decision} {d : Decoded} (a : answer ≡ decoding code pool (record_room records) (entry_room entries)) (e : answer ≡ Ok d) where
  accepted : decoding code pool (record_room records) (entry_room entries) ≡ Ok d
  accepted = sym a ∙ e

  filled : run_from 0 0 (fitted code pool (record_room records) (entry_room entries)) ≡ Ok d
  filled =
      let all = acceptance code pool (record_room records) (entry_room entries) d.instructions d.entries accepted in
      ap (run_from 0 0) all.all_fit ∙ all.filled

  module _ {records' entries' : List ℕ} (r : records' ≡ records_after code pool records entries) (s : entries' ≡ entries_after code pool records entries) where
    pub accepted_sorted : Sorted records' d.instructions
    unfolding store_after
    accepted_sorted = rw (r, accepted) (filled_sorted code pool records entries filled)

    pub accepted_held : AllHeld records' d.instructions entries'
    unfolding store_after
    accepted_held = rw (r, s, accepted) (filled_held code pool records entries filled)

-- a method that was found lies inside the bundle, and it is not empty
module _ (bundle : List ℕ) (at : ℕ) {sections : Sections} (e : Ok (Some sections) ≡ next_of bundle at) where
  pub found_inside : SectionsInside bundle at sections
  found_inside = method_inside bundle at sections (sym e)

  pub found_ends : (at < sections.code.end) × (sections.code.end ≤ length bundle)
  found_ends =
      let i = found_inside in
      (omega (arith, i.name.after, i.name.ordered, i.descriptor.after, i.descriptor.ordered, i.pool.after, i.pool.ordered, i.code.after, i.code.ordered), i.code.within)
