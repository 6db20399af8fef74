-- The ends of an entry, where a line is written or its output too short.
use Prim.Native.Nat.{ℕ, ◌≤◌, ◌<◌}
use mathlib.Core.List.{List, append_assoc}
use mathlib.Core.Path.{◌≡◌, refl}
use borrow.Author.Tests.{lt-ltb, le-ltb}
use lib.ListN.{length}
use Rattle.std.specs.Prelude.{Ok, Err}
use Rattle.refusals.specs.declared.Reason.TheVariants as reason
use Rattle.refusals.specs.declared.Refusal.{Refusal}
use Rattle.refusals.specs.Numbers.{refused}
use Rattle.output.specs.Output.{output_after}
use Rattle.output.proofs.Writing.{sets_front}
use Rattle.phrases.specs.Wrote.{with_bytes}
use Rattle.listing.specs.Lines.{line_room, lining}

module _ (line : List ℕ) (room : ℕ) where
  pub line_refused : room < line_room → lining line room ≡ Err (refused reason.TooShort 0)
  unfolding lining
  line_refused h = rw (lt-ltb _ _ h, lining)

  pub line_answered : line_room ≤ room → lining line room ≡ Ok (length line)
  unfolding lining
  line_answered h = rw (le-ltb _ _ h, lining)

module _ (bytes out : List ℕ) where
  pub unchanged : (r : Refusal ℕ) → output_after (Err r) bytes out ≡ out
  unfolding output_after
  unchanged r = refl

  -- bytes at the front
  pub at_front : length bytes ≤ length out → with_bytes out 0 bytes ≡ output_after (Ok (length bytes)) bytes out
  unfolding with_bytes output_after
  at_front h = sets_front out bytes h

pub ruleset entry = (line_refused, line_answered, unchanged, at_front, append_assoc)
