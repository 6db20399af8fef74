-- Entries written one after the other.
use Prim.Native.Nat.{ℕ, suc, ◌+◌, ◌*◌, ◌≤◌, ◌<◌}
use mathlib.Core.List.{List, ◌∷◌}
use mathlib.Core.Path.{◌≡◌, refl, sym, ap, ◌∙◌}
use native.Mathlib.Nat.{add-zero}
use native.Mathlib.Numerals.{add-one}
use native.Mathlib.Omega.{arith}
use lib.ListN.{length, get_or, drop, drop_of_length-le}
use lib.Seq.{sets, length-sets, drop-cons}
use Rattle.records.specs.declared.SwitchEntry.{SwitchEntry}
use Rattle.records.specs.Records.{entry_words, entry_words_of, all_entry_words}

-- i of the entries stand in the store from the first index on, and writing what is left gives the whole
module _ (before : List ℕ) (first : ℕ) (whole : List SwitchEntry) where
  pub record Filled (i : ℕ) (store : List ℕ) : Type 0 where
    pub kept : length store ≡ length before
    pub gives : sets store ((first + i) * entry_words) (all_entry_words (drop i whole)) ≡ sets before (first * entry_words) (all_entry_words whole)

  pub filled_none : Filled 0 before
  filled_none = record { kept = refl; gives = rw add-zero }

  -- the next entry is written, or none is left
  module _ {i : ℕ} {store : List ℕ} (f : Filled i store) where
    pub filled_next : (e : SwitchEntry) → e ≡ get_or whole i e → i < length whole → {next : List ℕ} → next ≡ sets store ((first + i) * entry_words) (entry_words_of e) → Filled (i + 1) next
    unfolding all_entry_words
    filled_next e is h n =
        let left : drop i whole ≡ e ∷ drop (i + 1) whole = rw add-one (drop-cons whole i e h ∙ ap (λ (x : SwitchEntry). x ∷ drop (suc i) whole) (sym is)) in
        let further : (first + (i + 1)) * entry_words ≡ suc (suc ((first + i) * entry_words)) = omega arith in
        record {
          kept = ap length n ∙ length-sets store ((first + i) * entry_words) (entry_words_of e) ∙ f.kept;
          gives = rw (n, further) (rw left at f.gives);
        }

    pub filled_all : length whole ≤ i → store ≡ sets before (first * entry_words) (all_entry_words whole)
    unfolding all_entry_words
    filled_all h = rw (drop_of_length-le whole h) at f.gives
