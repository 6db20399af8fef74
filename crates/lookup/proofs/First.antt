-- What a search answers: `first_from` is the one answer that fits the records of a span.
use Prim.Native.Nat.{ℕ, zero, suc, ◌+◌, ◌≤◌, ◌<◌}
use mathlib.Core.Bool.{Bool, true, false}
use mathlib.Core.List.{List}
use mathlib.Core.Logic.{⊎_elim}
use mathlib.Core.Path.{◌≡◌, refl, sym, ap, ◌∙◌}
use native.Mathlib.Nat.{eq-or-lt_of_le, lt_of_not-le}
use native.Mathlib.Omega.{arith}
use borrow.Author.Tests.{eqb-true, eqb-false}
use lib.Dec.{eqb}
use Rattle.read.specs.declared.CodeOffset.{CodeOffset}
use Rattle.records.specs.declared.RecordIndex.{RecordIndex}
use Rattle.records.specs.Records.{index, offset_at}
use Rattle.std.specs.Prelude.{Option, Some, None}
use Rattle.lookup.specs.Lookup.{offset_of, first_from, Sorted}

-- The order of the offsets is that of the records.
module _ {records : List ℕ} {count : ℕ} (sorted : Sorted records count) where
  not_below : (i j : ℕ) → i ≤ j → j < count → offset_of records i ≤ offset_of records j
  not_below i j h l = ⊎_elim (λ e. omega (arith, ap (offset_of records) e)) (λ m. omega (arith, sorted.rising i j m l)) (eq-or-lt_of_le h)

  before : (i j : ℕ) → i < count → offset_of records i < offset_of records j → i < j
  before i j l h = lt_of_not-le (λ m. omega (arith, not_below j i m l))

  same_record : (i j : ℕ) → i < count → j < count → offset_of records i ≡ offset_of records j → i ≡ j
  same_record i j l m e =
      let a : i < j → ⊥ = λ h. omega (arith, sorted.rising i j h m) in
      let b : j < i → ⊥ = λ h. omega (arith, sorted.rising j i h l) in
      omega (arith, a, b)

  pub fewer : {n : ℕ} → n ≤ count → Sorted records n
  fewer h = record { there = omega (arith, sorted.there); rising = λ i j l m. sorted.rising i j l (omega arith) }

module _ (records : List ℕ) (x : CodeOffset) where
  -- an answer that fits the n records from i on
  abbrev pub Fits : ℕ → ℕ → Option RecordIndex → Type 0
  Fits i n (Some k) = (i ≤ k.0) × (k.0 < i + n) × (offset_of records k.0 ≡ x.0)
  Fits i n None = (k : ℕ) → i ≤ k → k < i + n → offset_of records k ≡ x.0 → ⊥

  -- what fits a part fits the span, where no record outside the part has the offset
  wider :
      (i n j m : ℕ) → i ≤ j → j + m ≤ i + n → ((k : ℕ) → i ≤ k → k < i + n → offset_of records k ≡ x.0 → (j ≤ k) × (k < j + m))
      → (a : Option RecordIndex) → Fits j m a → Fits i n a
  wider i n j m p q inside (Some k) f = (omega (arith, f.0), omega (arith, f.1), f.2)
  wider i n j m p q inside None f = λ k l h e. let there = inside k l h e in f k there.0 there.1 e

  pub fits : (n : ℕ) (i : RecordIndex) → Fits i.0 n (first_from records x i n)
  unfolding first_from
  fits zero i = λ k l h e. omega arith
  fits (suc n) i = go (eqb (offset_of records i.0) x.0) refl _ (fits n (index (i.0 + 1)))
    where
      go : (t : Bool) → eqb (offset_of records i.0) x.0 ≡ t → (a : Option RecordIndex) → Fits (i.0 + 1) n a → Fits i.0 (suc n) (elim t [ true ↦ Some i | false ↦ a ])
      go true e a f = (omega arith, omega arith, eqb-true _ _ e)
      go false e a f =
          wider i.0 (suc n) (i.0 + 1) n (omega arith) (omega arith)
          (λ k l h same. (⊎_elim (λ here. absurd (eqb-false _ _ e (ap (offset_of records) here ∙ same))) (λ past. omega (arith, past)) (eq-or-lt_of_le l), omega arith))
          a f

  one_answer : (i n : ℕ) → Sorted records (i + n) → (a b : Option RecordIndex) → Fits i n a → Fits i n b → a ≡ b
  one_answer i n sorted (Some j) (Some k) f g = ap (λ (m : ℕ). Some (index m)) (same_record sorted _ _ f.1 g.1 (f.2 ∙ sym g.2))
  one_answer i n sorted (Some j) None f g = absurd (g _ f.0 f.1 f.2)
  one_answer i n sorted None (Some k) f g = absurd (f _ g.0 g.1 g.2)
  one_answer i n sorted None None f g = refl

  pub is_first : (i : RecordIndex) (n : ℕ) → Sorted records (i.0 + n) → (a : Option RecordIndex) → Fits i.0 n a → a ≡ first_from records x i n
  is_first i n sorted a f = one_answer i.0 n sorted a (first_from records x i n) f (fits n i)

  -- What is found in a span: of no records nothing, and else by the offset of a record in the middle.
  pub no_record : (i : RecordIndex) {n : ℕ} → n ≡ 0 → None ≡ first_from records x i n
  unfolding first_from
  no_record i e = rw e

  module _ (i : RecordIndex) (n mid : ℕ) (sorted : Sorted records (i.0 + n)) (inside : (i.0 ≤ mid) × (mid < i.0 + n)) {there : CodeOffset} (read : there ≡ offset_at records (index mid)) where
    middle : there.0 ≡ offset_of records mid
    middle = ap (λ (o : CodeOffset). o.0) read

    pub at_middle : {k : ℕ} → mid ≡ k → there.0 ≡ x.0 → Some (index k) ≡ first_from records x i n
    at_middle is e = is_first i n sorted (Some (index _)) (omega arith, omega arith, sym (middle ∙ ap (offset_of records) is) ∙ e)

    part :
        (j : RecordIndex) (m : ℕ) → i.0 ≤ j.0 → j.0 + m ≤ i.0 + n
        → ((k : ℕ) → i.0 ≤ k → k < i.0 + n → offset_of records k ≡ x.0 → (j.0 ≤ k) × (k < j.0 + m))
        → first_from records x j m ≡ first_from records x i n
    part j m p q only = is_first i n sorted (first_from records x j m) (wider i.0 n j.0 m p q only (first_from records x j m) (fits m j))

    pub left_half : (h : ℕ) → i.0 + h ≡ mid → x.0 < there.0 → first_from records x i h ≡ first_from records x i n
    left_half h up less = part i h (omega arith) (omega arith) (λ k p q e. (p, let earlier = before sorted k mid q (omega (arith, middle, e)) in omega arith))

    pub right_half : (j : RecordIndex) (m : ℕ) → j.0 ≡ mid + 1 → j.0 + m ≡ i.0 + n → there.0 < x.0 → first_from records x j m ≡ first_from records x i n
    right_half j m from up more =
        part j m (omega arith) (omega arith)
        (λ k p q e. (let later = before sorted mid k (omega arith) (omega (arith, middle, e)) in omega arith, omega arith))
