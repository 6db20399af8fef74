-- An answer as document 01 writes it: what is found, or the number and the place of the refusal. Worked examples and the
-- settled list say answers so, and hold each number.
use Rattle.std.specs.Prelude.{ℕ, Result, Ok, Err}
use Rattle.refusals.specs.declared.Refusal.{Refusal}
use Rattle.refusals.specs.Numbers.{number_of}

abbrev pub by_number : {T Place : Type 0} → Result T (Refusal Place) → Result T (ℕ × Place)
by_number (Ok found) = Ok found
by_number (Err r) = Err (number_of r.reason, r.place)
