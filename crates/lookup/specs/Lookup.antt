-- Document 01, offset lookup: the record of an offset among the first so many of a store.
use Rattle.std.specs.Prelude.{ℕ, zero, suc, ◌+◌, ◌-◌, ◌≤◌, ◌<◌, Bool, true, false, List, ltb, leb, eqb, Option, Some, None, Result, Ok, Err}
use Rattle.laws.specs.Bytes.{every}
use Rattle.laws.specs.Listed.{listed}
use Rattle.read.specs.declared.CodeOffset.{CodeOffset}
use Rattle.records.specs.declared.RecordIndex.{RecordIndex}
use Rattle.records.specs.Records.{record_room, index, offset_at}
use Rattle.refusals.specs.declared.Reason.TheVariants as reason
use Rattle.refusals.specs.declared.Refusal.{Refusal}
use Rattle.refusals.specs.Numbers.{refused}

-- The offset of record i as a number, and the offsets of the first records in order
abbrev pub offset_of : List ℕ → ℕ → ℕ
offset_of records i = (offset_at records (index i)).0

abbrev pub offsets_of : List ℕ → ℕ → List ℕ
offsets_of records count = listed (offset_of records) 0 count

-- The first of the n records from an index on that has the offset
unfoldable pub first_from : List ℕ → CodeOffset → RecordIndex → ℕ → Option RecordIndex
first_from records x i zero = None
first_from records x i (suc n) =
    elim (eqb (offset_of records i.0) x.0) [ true ↦ Some i | false ↦ first_from records x (index (i.0 + 1)) n ]

-- Each offset is below the next, as a test and as a fact on any two
abbrev pub rises : List ℕ → ℕ → Bool
rises records count = every (λ (i : ℕ). ltb (offset_of records i) (offset_of records (i + 1))) (listed (λ i. i) 0 (count - 1))

pub record Sorted (records : List ℕ) (count : ℕ) : Type 0 where
  pub there : count ≤ record_room records
  pub rising : (i j : ℕ) → i < j → j < count → offset_of records i < offset_of records j

-- 35: the records are not all there, or their offsets do not strictly increase
abbrev pub not_sorted : Refusal CodeOffset
not_sorted = refused reason.NotSorted (record { 0 = 0 })

-- The whole answer.
unfoldable pub lookup_of : List ℕ → ℕ → CodeOffset → Result (Option RecordIndex) (Refusal CodeOffset)
lookup_of records count x =
    elim (leb count (record_room records)) [
      | true ↦ elim (rises records count) [ true ↦ Ok (first_from records x (index 0) count) | false ↦ Err not_sorted ]
      | false ↦ Err not_sorted
    ]
