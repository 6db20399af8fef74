-- From the sorted records to the answers.
use Prim.Native.Nat.{ℕ, ◌<◌}
use mathlib.Core.Bool.{Bool, true, false, So}
use mathlib.Core.List.{List}
use mathlib.Core.Logic.{◌↔◌, ◌⊎◌, inl, inr, ⊎_elim}
use mathlib.Core.Path.{◌≡◌, refl, sym, ap, ◌∙◌}
use native.Mathlib.Omega.{arith}
use borrow.Author.Tests.{le-leb, leb-true, not-true}
use lib.Dec.{leb}
use Rattle.laws.specs.Bytes.{one_of}
use Rattle.laws.proofs.Bools.{so_not}
use Rattle.laws.proofs.Bytes.{one_of_lem}
use Rattle.laws.proofs.Listed.{in_listed}
use Rattle.read.specs.declared.CodeOffset.{CodeOffset}
use Rattle.records.specs.declared.RecordIndex.{RecordIndex}
use Rattle.records.specs.Records.{record_room, index}
use Rattle.std.specs.Option.{is_some}
use Rattle.std.specs.Prelude.{Option, Some, None, Ok, Err}
use Rattle.lookup.specs.Lookup.{offset_of, offsets_of, first_from, rises, Sorted, not_sorted, lookup_of}
use Rattle.lookup.proofs.First.{Fits, fits}
use Rattle.lookup.proofs.Rising.{rises_sorted, sorted_rises}

-- an offset of the first records is the offset at an index below their count
pub one_of_offsets : (records : List ℕ) (count y : ℕ) → So (one_of (offsets_of records count) y) ↔ ((k : ℕ) × (k < count) × (offset_of records k ≡ y))
one_of_offsets records count y = (
  λ h. let m = (in_listed (offset_of records) count 0).0 ((one_of_lem (offsets_of records count) y).0 h) in (m.0, omega (arith, m.2), m.3),
  λ h. (one_of_lem (offsets_of records count) y).1 ((in_listed (offset_of records) count 0).1 (h.0, omega arith, omega (arith, h.1), h.2)),
)

module _ (records : List ℕ) (count : ℕ) (x : CodeOffset) where
  told : (a : Option RecordIndex) → Fits records x 0 count a → is_some a ≡ one_of (offsets_of records count) x.0
  told (Some k) f = sym ((one_of_offsets records count x.0).1 (k.0, omega (arith, f.1), f.2))
  told None f = sym (not-true _ ((so_not _).1 (λ h. let m = (one_of_offsets records count x.0).0 h in f m.0 (omega arith) (omega (arith, m.1)) m.2)))

  pub is_offset : {y : ℕ} → x.0 ≡ y → is_some (first_from records x (index 0) count) ≡ one_of (offsets_of records count) y
  is_offset e = told (first_from records x (index 0) count) (fits records x count (index 0)) ∙ ap (one_of (offsets_of records count)) e

  pub lookup_sorted : Sorted records count → Ok (first_from records x (index 0) count) ≡ lookup_of records count x
  unfolding lookup_of
  lookup_sorted s = rw (le-leb _ _ s.there, sorted_rises records count s, lookup_of)

  pub sorted_or_refused : Sorted records count ⊎ (Err not_sorted ≡ lookup_of records count x)
  unfolding lookup_of
  sorted_or_refused = go (leb count (record_room records)) refl (rises records count) refl
    where
      go : (t : Bool) → leb count (record_room records) ≡ t → (u : Bool) → rises records count ≡ u → Sorted records count ⊎ (Err not_sorted ≡ lookup_of records count x)
      go true p true q = inl (rises_sorted records count (leb-true _ _ p) q)
      go true p false q = inr (rw (p, q, lookup_of))
      go false p u q = inr (rw (p, lookup_of))

  pub lookup_refused : (Sorted records count → ⊥) → Err not_sorted ≡ lookup_of records count x
  lookup_refused n = ⊎_elim (λ s. absurd (n s)) (λ e. e) sorted_or_refused
