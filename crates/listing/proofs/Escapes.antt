-- The bytes of a shown text, one by one, and the ends of the entry.
use Prim.Native.Nat.{ℕ, ◌+◌, ◌/◌, ◌≤◌, ◌<◌}
use mathlib.Core.List.{List, [], ◌∷◌, ◌++◌, append-nil, append_assoc}
use mathlib.Core.Path.{◌≡◌, refl, sym, ap, ◌∙◌}
use native.Mathlib.Numerals.{add-one}
use borrow.Author.Tests.{lt-ltb, le-ltb}
use lib.ListN.{length, get_or, take}
use lib.Seq.{take-suc, take_all}
use Rattle.std.specs.Prelude.{Ok, Err}
use Rattle.refusals.specs.declared.Reason.TheVariants as reason
use Rattle.refusals.specs.Numbers.{refused}
use Rattle.listing.specs.Escapes.{shown_byte, shown_text, showing}
use Rattle.listing.proofs.Laws.{unchanged, at_front}

shown_append : (s t : List ℕ) → shown_text (s ++ t) ≡ shown_text s ++ shown_text t
unfolding shown_text
shown_append [] t = refl
shown_append (b ∷ s) t = ap (λ (u : List ℕ). shown_byte b ++ u) (shown_append s t) ∙ sym (append_assoc (shown_byte b) (shown_text s) (shown_text t))

-- one byte more
pub shown_more : (text : List ℕ) (i : ℕ) → i < length text → shown_text (take (i + 1) text) ≡ shown_text (take i text) ++ shown_byte (get_or text i 0)
unfolding shown_text
shown_more text i h =
    ap shown_text (ap (λ (k : ℕ). take k text) (add-one i) ∙ take-suc text i 0 h)
    ∙ shown_append (take i text) (get_or text i 0 ∷ [])
    ∙ ap (λ (u : List ℕ). shown_text (take i text) ++ u) (append-nil (shown_byte (get_or text i 0)))

pub none_shown : shown_text [] ≡ []
unfolding shown_text
none_shown = refl

module _ (text : List ℕ) (room : ℕ) where
  pub shown_refused : room / 4 < length text → showing text room ≡ Err (refused reason.TooShort 0)
  unfolding showing
  shown_refused h = rw (lt-ltb _ _ h, showing)

  pub shown_answered : length text ≤ room / 4 → showing text room ≡ Ok (length (shown_text text))
  unfolding showing
  shown_answered h = rw (le-ltb _ _ h, showing)

pub ruleset showing_ends = (shown_refused, shown_answered, shown_more, none_shown, take_all, unchanged, at_front)
