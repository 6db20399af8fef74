-- The table and its texts, computed.
use Prim.Native.Nat.{ℕ, ◌≤◌}
use mathlib.Core.Bool.{So}
use mathlib.Core.List.{map}
use mathlib.Core.Path.{◌≡◌, refl}
use Rattle.laws.specs.Bytes.{ascii, every}
use lib.ListN.{length}
use Rattle.phrases.specs.Texts.{has_no_bar, table, item}
use Rattle.phrases.proofs.Texts.{within, item_is, item_short}
use Rattle.mnemonics.specs.Mnemonics.{mnemonics, mnemonic_of}
use Rattle.mnemonics.specs.declared.TheConstants.{MNEMONICS}

pub no_bars : So (every has_no_bar (map ascii mnemonics))
unfolding every mnemonics
no_bars = refl

pub all_short : So (every (within 15) (map ascii mnemonics))
unfolding every mnemonics
all_short = refl

-- each byte of the code's table
the_mnemonics : MNEMONICS.now ≡ table (map ascii mnemonics)
unfolding table mnemonics
the_mnemonics = refl

-- the text with a number in it
module _ (n : ℕ) where
  pub named : item n MNEMONICS.now ≡ mnemonic_of n
  unfolding mnemonic_of
  named = item_is (map ascii mnemonics) 15 no_bars all_short the_mnemonics n

  pub name_short : length (item n MNEMONICS.now) ≤ 15
  name_short = item_short (map ascii mnemonics) 15 no_bars all_short the_mnemonics n
