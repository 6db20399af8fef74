-- What the library finds in the rows of a store: whether their offsets rise.
use Prim.Native.Nat.{ℕ, ◌+◌, ◌*◌, ◌≤◌, ◌<◌}
use mathlib.Core.Bool.{Bool, true, false, false≢true}
use mathlib.Core.List.{List, []}
use mathlib.Core.Path.{◌≡◌, sym, ap, subst, ◌∙◌}
use native.Mathlib.Omega.{arith}
use borrow.Author.Tests.{ltb-true, lt-ltb}
use lib.Dec.{ltb}
use lib.ListN.{length, get_or, take}
use lib.Seq.{length-take-le}
use Rattle.std.specs.List.{IsAllAdjacentAnswer}
use Rattle.std.specs.Simd.{first_chunks}
use Rattle.std.proofs.lemmas.List.{get_or-take}
use Rattle.records.specs.Records.{record_words, record_room}
use Rattle.records.proofs.Rows.{length_rows, word_of_row}
use Rattle.lookup.specs.Lookup.{offset_of, Sorted}
use Rattle.lookup.proofs.Rising.{in_order}

-- the first rows of a store, and the offset in a row
abbrev pub rows_of : List ℕ → ℕ → List (List ℕ)
rows_of records count = take count (first_chunks record_words (record_room records) records)

abbrev pub offset_in : List ℕ → ℕ
offset_in row = get_or row 0 0

module _ (records : List ℕ) (count : ℕ) (there : count ≤ record_room records) where
  long : length (rows_of records count) ≡ count
  long = length-take-le count (first_chunks record_words (record_room records) records) (omega (arith, length_rows record_words (record_room records) records))

  offset_of_row : (k : ℕ) (d : List ℕ) → k < count → offset_in (get_or (rows_of records count) k d) ≡ offset_of records k
  offset_of_row k d h =
      let first : k * record_words + 0 ≡ k * record_words = omega arith in
      ap offset_in (get_or-take count (first_chunks record_words (record_room records) records) k d h)
      ∙ word_of_row record_words (record_room records) records k 0 d (omega arith) (omega arith)
      ∙ ap (λ n. get_or records n 0) first

  abbrev pub Answers : List (List ℕ) → Bool → Type 0
  Answers rows r = IsAllAdjacentAnswer (λ row next b. b ≡ ltb (offset_in row) (offset_in next)) rows r

  rising : Answers (rows_of records count) true → Sorted records count
  rising h =
      in_order records count there
      (λ i l.
      let below = ltb-true _ _ (sym (h i [] (omega (arith, long)))) in
      omega (arith, below, offset_of_row i [] (omega arith), offset_of_row (i + 1) [] l))

  falling : Answers (rows_of records count) false → Sorted records count → ⊥
  falling h s =
      let l : h.0 + 1 < count = omega (arith, h.1, long) in
      let below = s.rising h.0 (h.0 + 1) (omega arith) l in
      false≢true (h.2 [] ∙ lt-ltb _ _ (omega (arith, below, offset_of_row h.0 [] (omega arith), offset_of_row (h.0 + 1) [] l)))

  module _ {rows : List (List ℕ)} (front : rows ≡ first_chunks record_words (record_room records) records) {r : Bool} (answers : Answers (take count rows) r) where
    pub sorted : r ≡ true → Sorted records count
    sorted e = rising (subst (λ rows. Answers (take count rows) true) front (subst (Answers (take count rows)) e answers))

    pub not_sorted : r ≡ false → Sorted records count → ⊥
    not_sorted e = falling (subst (λ rows. Answers (take count rows) false) front (subst (Answers (take count rows)) e answers))
