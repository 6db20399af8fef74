-- The test of each offset against the next, as the order of any two.
use Prim.Native.Nat.{ℕ, zero, suc, ◌+◌, ◌-◌, ◌≤◌, ◌<◌}
use mathlib.Core.Bool.{Bool, So}
use mathlib.Core.List.{List}
use mathlib.Core.Logic.{⊎_elim}
use mathlib.Core.Path.{refl, ap}
use native.Mathlib.Nat.{eq-or-lt_of_le}
use native.Mathlib.Numerals.{add-one}
use native.Mathlib.Omega.{arith}
use borrow.Author.Tests.{ltb-true, lt-ltb}
use lib.Dec.{ltb}
use Rattle.laws.specs.Listed.{listed}
use Rattle.laws.proofs.Lists.{every_in}
use Rattle.laws.proofs.Listed.{in_listed}
use Rattle.records.specs.Records.{record_room}
use Rattle.lookup.specs.Lookup.{offset_of, rises, Sorted}

abbrev below : List ℕ → ℕ → Bool
below records i = ltb (offset_of records i) (offset_of records (i + 1))

abbrev pub Climbs : List ℕ → ℕ → Type 0
Climbs records count = (i : ℕ) → i + 1 < count → offset_of records i < offset_of records (i + 1)

module _ (records : List ℕ) (count : ℕ) where
  order : Climbs records count → (i j : ℕ) → i < j → j < count → offset_of records i < offset_of records j
  order h i zero l m = omega arith
  order h i (suc j) l m =
      let next : offset_of records j < offset_of records (suc j) = rw add-one at (h j (omega arith)) in
      ⊎_elim (λ e. omega (arith, next, ap (offset_of records) e)) (λ k. omega (arith, next, order h i j k (omega arith))) (eq-or-lt_of_le (let s : i ≤ j = omega arith in s))

  pub in_order : count ≤ record_room records → Climbs records count → Sorted records count
  in_order there h = record { there = there; rising = order h }

  neighbours : So (rises records count) → Climbs records count
  neighbours h i l = ltb-true _ _ ((every_in (below records) (listed (λ i. i) 0 (count - 1))).0 h i ((in_listed (λ i. i) (count - 1) 0).1 (i, omega arith, omega arith, refl)))

  pub rises_sorted : count ≤ record_room records → So (rises records count) → Sorted records count
  rises_sorted there r = in_order there (neighbours r)

  pub sorted_rises : Sorted records count → So (rises records count)
  sorted_rises s =
      (every_in (below records) (listed (λ i. i) 0 (count - 1))).1 (λ i m.
      let k = (in_listed (λ i. i) (count - 1) 0).0 m in
      lt-ltb _ _ (s.rising i (i + 1) (omega arith) (omega (arith, k.2, k.3))))
