-- A failure as document 01 writes it: its number, its place and its second number.
use Rattle.std.specs.Prelude.{ℕ, Result, Ok, Err}
use Rattle.refusals.specs.Numbers.{number_of}
use Rattle.read.specs.declared.CodeOffset.{CodeOffset}
use Rattle.jumps.specs.declared.Failure.{Failure}

abbrev pub failure_by_number : {T : Type 0} → Result T Failure → Result T (ℕ × CodeOffset × ℕ)
failure_by_number (Ok good) = Ok good
failure_by_number (Err f) = Err (number_of f.reason, f.place, f.second)
