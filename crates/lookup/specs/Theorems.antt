-- Each answer of the lookup exactly when. The proofs are in proofs/Exactly.antt.
use Rattle.std.specs.Prelude.{ℕ, ◌<◌, List, ◌↔◌, ◌≡◌, Some, None, Ok, Err}
use Rattle.read.specs.declared.CodeOffset.{CodeOffset}
use Rattle.records.specs.declared.RecordIndex.{RecordIndex}
use Rattle.lookup.specs.Lookup.{offset_of, Sorted, not_sorted, lookup_of}

-- the record at the index is the one with the offset; no other of them can have it, since the offsets increase
pub record Has (records : List ℕ) (count : ℕ) (x : CodeOffset) (i : RecordIndex) : Type 0 where
  pub sorted : Sorted records count
  pub counted : i.0 < count
  pub same : offset_of records i.0 ≡ x.0

-- proved as `found_exactly`
abbrev pub FoundExactly : Type 0
FoundExactly =
    (records : List ℕ) (count : ℕ) (x : CodeOffset) (i : RecordIndex) → (lookup_of records count x ≡ Ok (Some i)) ↔ Has records count x i

pub record HasNone (records : List ℕ) (count : ℕ) (x : CodeOffset) : Type 0 where
  pub sorted : Sorted records count
  pub other : (i : ℕ) → i < count → offset_of records i ≡ x.0 → ⊥

-- proved as `nothing_exactly`
abbrev pub NothingExactly : Type 0
NothingExactly =
    (records : List ℕ) (count : ℕ) (x : CodeOffset) → (lookup_of records count x ≡ Ok None) ↔ HasNone records count x

-- proved as `refused_exactly`
abbrev pub Refused35Exactly : Type 0
Refused35Exactly =
    (records : List ℕ) (count : ℕ) (x : CodeOffset)
    → (lookup_of records count x ≡ Err not_sorted) ↔ (Sorted records count → ⊥)
