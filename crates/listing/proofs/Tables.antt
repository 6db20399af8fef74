-- The table of meanings and its texts, computed.
use Prim.Native.Nat.{ℕ, ◌≤◌, ◌<◌}
use mathlib.Core.Bool.{So}
use mathlib.Core.List.{map}
use mathlib.Core.Path.{◌≡◌, refl}
use lib.ListN.{length}
use Rattle.laws.specs.Bytes.{ascii, every}
use Rattle.phrases.specs.Texts.{has_no_bar, table, item}
use Rattle.phrases.proofs.Texts.{within, item_is, item_short}
use Rattle.wording.proofs.Laws.{some_text}
use Rattle.listing.specs.Meanings.{meanings, meaning_of, meaning_or_none}
use Rattle.listing.specs.declared.TheConstants.{MEANINGS}

no_bars : So (every has_no_bar (map ascii meanings))
unfolding every meanings
no_bars = refl

all_short : So (every (within 50) (map ascii meanings))
unfolding every meanings
all_short = refl

-- each byte of the code's table
the_meanings : MEANINGS.now ≡ table (map ascii meanings)
unfolding table meanings
the_meanings = refl

-- the text with a number in it
module _ (n : ℕ) where
  pub meant : item n MEANINGS.now ≡ meaning_of n
  unfolding meaning_of
  meant = item_is (map ascii meanings) 50 no_bars all_short the_meanings n

  pub meaning_short : length (item n MEANINGS.now) ≤ 50
  meaning_short = item_short (map ascii meanings) 50 no_bars all_short the_meanings n

  pub has_meaning : 0 < length (meaning_of n) → meaning_or_none n ≡ meaning_of n
  unfolding meaning_or_none
  has_meaning h = some_text (meaning_of n) _ h
