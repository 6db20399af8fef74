-- Worked examples: a store, a count and an offset, and the answer. Proved in proofs/Examples.antt.
use Rattle.std.specs.Prelude.{ℕ, ◌-◌, ◌^◌, true, false, List, [], ◌∷◌, take, Option, Some, None, Result, Ok, Err}
use Rattle.laws.specs.Bytes.{one_of}
use Rattle.laws.specs.Examples.{Computes}
use Rattle.read.specs.declared.CodeOffset.{CodeOffset}
use Rattle.records.specs.declared.RecordIndex.{RecordIndex}
use Rattle.records.specs.Records.{index}
use Rattle.refusals.specs.Answers.{by_number}
use Rattle.lookup.specs.Lookup.{offsets_of, rises, lookup_of}

-- records with these offsets; the other words are no offsets
abbrev store_of : List ℕ → List ℕ
store_of [] = []
store_of (offset ∷ offsets) = offset ∷ 91 ∷ 92 ∷ 93 ∷ 94 ∷ 95 ∷ store_of offsets

abbrev three : List ℕ
three = store_of (0 ∷ 3 ∷ 7 ∷ [])

abbrev falling : List ℕ
falling = store_of (0 ∷ 7 ∷ 3 ∷ [])

abbrev equal : List ℕ
equal = store_of (0 ∷ 3 ∷ 3 ∷ [])

abbrev at : ℕ → Result (Option RecordIndex) (ℕ × CodeOffset)
at i = Ok (Some (index i))

abbrev nothing : Result (Option RecordIndex) (ℕ × CodeOffset)
nothing = Ok None

abbrev refused : Result (Option RecordIndex) (ℕ × CodeOffset)
refused = Err (35, record { 0 = 0 })

-- proved as `lookups_compute`
abbrev pub LookupsCompute : Type 0
LookupsCompute =
    Computes (λ (q : List ℕ × ℕ × ℕ). by_number (lookup_of q.0 q.1 (record { 0 = q.2 }))) (
    ((three, 3, 0), at 0)
    ∷ ((three, 3, 3), at 1)
    ∷ ((three, 3, 7), at 2)
    ∷ ((three, 3, 5), nothing)
    ∷ ((three, 3, 8), nothing)
    ∷ ((three, 3, 91), nothing)
    ∷ ((three, 3, 2 ^ 64 - 1), nothing)
    ∷ ((three, 2, 7), nothing)
    ∷ ((three, 0, 0), nothing)
    ∷ (([], 0, 0), nothing)
    ∷ (([], 1, 0), refused)
    ∷ ((three, 4, 0), refused)
    ∷ ((three, 2 ^ 64 - 1, 0), refused)
    ∷ ((take 17 three, 3, 0), refused)
    ∷ ((take 17 three, 2, 3), at 1)
    ∷ ((equal, 3, 0), refused)
    ∷ ((falling, 3, 0), refused)
    ∷ ((falling, 2, 7), at 1)
    ∷ [])

-- proved as `offsets_compute`
abbrev pub OffsetsCompute : Type 0
OffsetsCompute =
    Computes (λ (q : List ℕ × ℕ × ℕ). one_of (offsets_of q.0 q.1) q.2) (
    ((three, 3, 0), true)
    ∷ ((three, 3, 7), true)
    ∷ ((three, 3, 5), false)
    ∷ ((three, 3, 91), false)
    ∷ ((three, 2, 7), false)
    ∷ (([], 0, 0), false)
    ∷ [])

-- proved as `rises_compute`
abbrev pub RisesCompute : Type 0
RisesCompute =
    Computes (λ (q : List ℕ × ℕ). rises q.0 q.1) (
    ((three, 3), true)
    ∷ ((equal, 3), false)
    ∷ ((falling, 3), false)
    ∷ ((falling, 2), true)
    ∷ ((three, 1), true)
    ∷ (([], 0), true)
    ∷ [])
