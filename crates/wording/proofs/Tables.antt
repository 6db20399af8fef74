-- The tables and their texts, computed.
use Prim.Native.Nat.{ℕ, ◌≤◌}
use mathlib.Core.Bool.{So}
use mathlib.Core.List.{map}
use mathlib.Core.Path.{◌≡◌, refl}
use lib.ListN.{length}
use Rattle.laws.specs.Bytes.{ascii, every}
use Rattle.phrases.specs.Texts.{has_no_bar, table, item}
use Rattle.phrases.proofs.Texts.{within, item_is, item_short}
use Rattle.wording.specs.Names.{kind_names, array_types, kind_name, array_type}
use Rattle.wording.specs.declared.TheConstants.{KIND_NAMES, ARRAY_TYPES}

kind_bars : So (every has_no_bar (map ascii kind_names))
unfolding every kind_names
kind_bars = refl

kinds_short : So (every (within 20) (map ascii kind_names))
unfolding every kind_names
kinds_short = refl

array_bars : So (every has_no_bar (map ascii array_types))
unfolding every array_types
array_bars = refl

arrays_short : So (every (within 20) (map ascii array_types))
unfolding every array_types
arrays_short = refl

-- each byte of the code's tables
the_kinds : KIND_NAMES.now ≡ table (map ascii kind_names)
unfolding table kind_names
the_kinds = refl

the_arrays : ARRAY_TYPES.now ≡ table (map ascii array_types)
unfolding table array_types
the_arrays = refl

-- the text with a number in a table
module _ (n : ℕ) where
  pub kind_named : item n KIND_NAMES.now ≡ kind_name n
  unfolding kind_name
  kind_named = item_is (map ascii kind_names) 20 kind_bars kinds_short the_kinds n

  pub kind_short : length (item n KIND_NAMES.now) ≤ 20
  kind_short = item_short (map ascii kind_names) 20 kind_bars kinds_short the_kinds n

  pub array_named : item n ARRAY_TYPES.now ≡ array_type n
  unfolding array_type
  array_named = item_is (map ascii array_types) 20 array_bars arrays_short the_arrays n

  pub array_short : length (item n ARRAY_TYPES.now) ≤ 20
  array_short = item_short (map ascii array_types) 20 array_bars arrays_short the_arrays n
