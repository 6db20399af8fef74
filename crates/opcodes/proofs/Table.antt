-- The code's table is the list of formats.
use Prim.Native.Nat.{ℕ, ◌<◌}
use mathlib.Core.Path.{◌≡◌, refl}
use lib.ListN.{get_or}
use Rattle.std.proofs.lemmas.List.{get_or_default}
use Rattle.opcodes.specs.Formats.{formats, format_of}
use Rattle.opcodes.specs.declared.Format.TheVariants as format
use Rattle.opcodes.specs.declared.TheConstants.{FORMATS}

-- the one computed test: all 256 entries
the_formats : FORMATS ≡ formats
unfolding formats
the_formats = refl

pub in_table : (byte : ℕ) → byte < 256 → get_or FORMATS byte format.Plain ≡ format_of byte
unfolding format_of formats
in_table byte small = get_or_default FORMATS byte format.Plain format.NoInstruction small
