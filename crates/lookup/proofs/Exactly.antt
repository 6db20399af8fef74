-- Each answer of the lookup exactly when: a sorted store is answered by what fits it, and any other is refused.
use Prim.Native.Nat.{ℕ}
use mathlib.Core.List.{List}
use mathlib.Core.Logic.{⊎_elim}
use mathlib.Core.Path.{◌≡◌, sym, ap, ◌∙◌, subst}
use native.Mathlib.Omega.{arith}
use Rattle.read.specs.declared.CodeOffset.{CodeOffset}
use Rattle.records.specs.declared.RecordIndex.{RecordIndex}
use Rattle.records.specs.Records.{index}
use Rattle.std.specs.Prelude.{Option, Some, None, Ok, Err}
use Rattle.lookup.specs.Lookup.{first_from, Sorted, not_sorted, lookup_of}
use Rattle.lookup.specs.Theorems.{FoundExactly, NothingExactly, Refused35Exactly}
use Rattle.lookup.proofs.First.{fewer, Fits, fits, is_first}
use Rattle.lookup.proofs.Answers.{lookup_sorted, lookup_refused, sorted_or_refused}

module _ (records : List ℕ) (count : ℕ) (x : CodeOffset) where
  module _ (s : Sorted records count) (a : Option RecordIndex) where
    answer_fits : lookup_of records count x ≡ Ok a → Fits records x 0 count a
    answer_fits e =
        let same : Ok (first_from records x (index 0) count) ≡ Ok a = lookup_sorted records count x s ∙ e in
        let it : first_from records x (index 0) count ≡ a = cc in
        subst (Fits records x 0 count) it (fits records x count (index 0))

    fit_answers : Fits records x 0 count a → lookup_of records count x ≡ Ok a
    fit_answers f = sym (ap (λ (b : Option RecordIndex). Ok b) (is_first records x (index 0) count (fewer s (omega arith)) a f) ∙ lookup_sorted records count x s)

pub found_exactly : FoundExactly
found_exactly records count x i = (
  λ e.
      ⊎_elim
      (λ s. let f = answer_fits records count x s (Some i) e in record { sorted = s; counted = omega (arith, f.1); same = f.2 })
      (λ refused. cc)
      (sorted_or_refused records count x),
  λ h. fit_answers records count x h.sorted (Some i) (omega arith, omega (arith, h.counted), h.same),
)

pub nothing_exactly : NothingExactly
nothing_exactly records count x = (
  λ e.
      ⊎_elim
      (λ s. record { sorted = s; other = λ i l. answer_fits records count x s None e i (omega arith) (omega arith) })
      (λ refused. cc)
      (sorted_or_refused records count x),
  λ h. fit_answers records count x h.sorted None (λ i l m. h.other i (omega arith)),
)

pub refused_exactly : Refused35Exactly
refused_exactly records count x = (
  λ e s. let clash : Ok (first_from records x (index 0) count) ≡ Err not_sorted = lookup_sorted records count x s ∙ e in cc,
  λ n. sym (lookup_refused records count x n),
)
