-- A record of any width, written into a store.
use Prim.Native.Nat.{ℕ, ◌+◌, ◌-◌, ◌≤◌}
use mathlib.Core.List.{List, ◌++◌, append_assoc}
use mathlib.Core.Path.{◌≡◌, sym, ap, ap₂, ◌∙◌}
use native.Mathlib.Omega.{arith}
use borrow.Rule.Slice.PartMut.{put_mid}
use lib.ListN.{length, take, drop, length-append}
use lib.Seq.{sets, sets-eq, take_at, drop_at, drop-drop, length-take-le}

module _ (store : List ℕ) (i : ℕ) (record_words : List ℕ) (fits : i + length record_words ≤ length store) where
  front_length : length (take i store ++ record_words) ≡ i + length record_words
  front_length =
      let some : length (take i store) ≡ i = length-take-le i store (omega arith) in
      rw (length-append (take i store) record_words, some)

  take_record : take (i + length record_words) (sets store i record_words) ≡ take i store ++ record_words
  take_record = ap (take (i + length record_words)) (sets-eq record_words store i fits) ∙ take_at (take i store ++ record_words) _ _ front_length

  drop_record : drop (i + length record_words) (sets store i record_words) ≡ drop (i + length record_words) store
  drop_record = ap (drop (i + length record_words)) (sets-eq record_words store i fits) ∙ drop_at (take i store ++ record_words) _ _ front_length

  drop_past_record : (n : ℕ) → i + length record_words ≤ n → drop n (sets store i record_words) ≡ drop n store
  drop_past_record n h =
      let past : i + length record_words + (n - (i + length record_words)) ≡ n = omega arith in
      ap (λ (k : ℕ). drop k (sets store i record_words)) (sym past)
      ∙ sym (drop-drop (n - (i + length record_words)) (i + length record_words) (sets store i record_words))
      ∙ ap (drop (n - (i + length record_words))) drop_record
      ∙ drop-drop (n - (i + length record_words)) (i + length record_words) store
      ∙ ap (λ (k : ℕ). drop k store) past

  -- what stands before the record, the record, and what follows in place of the words up to n
  pub then_record : (more : List ℕ) (n : ℕ) → i + length record_words ≤ n → take (i + length record_words) (sets store i record_words) ++ (more ++ drop n (sets store i record_words)) ≡ take i store ++ (record_words ++ more ++ drop n store)
  then_record more n h =
      ap₂ (λ (front back : List ℕ). front ++ (more ++ back)) take_record (drop_past_record n h)
      ∙ append_assoc (take i store) record_words (more ++ drop n store)
      ∙ ap (λ (l : List ℕ). take i store ++ l) (sym (append_assoc record_words more (drop n store)))

-- a part of a store replaced as a whole
pub part_replaced : (at k : ℕ) (store part record_words : List ℕ) → at + k ≤ length store → k ≡ length record_words → part ≡ record_words → put_mid at k store part ≡ sets store at record_words
part_replaced at k store part record_words fits long same =
    ap (λ (l : List ℕ). take at store ++ (l ++ drop k (drop at store))) same
    ∙ ap (λ (l : List ℕ). take at store ++ (record_words ++ l)) (drop-drop k at store ∙ ap (λ (m : ℕ). drop (at + m) store) long)
    ∙ sym (append_assoc (take at store) record_words (drop (at + length record_words) store))
    ∙ sym (sets-eq record_words store at (omega arith))
