-- What a function promises that writes a piece of a line.
use Rattle.std.specs.Prelude.{ℕ, ◌+◌, ◌≤◌, List, ◌≡◌, length}
use Rattle.std.proofs.lemmas.List.Edits.{sets}
use Rattle.phrases.specs.declared.Line.{Line}

-- so many bytes may follow
abbrev pub HasRoom : ℕ → Line → Type 0
HasRoom most line = line.length + most ≤ length line.out.now

-- an output with these bytes at a place
unfoldable pub with_bytes : List ℕ → ℕ → List ℕ → List ℕ
with_bytes out at bytes = sets out at bytes

-- These bytes, at most so many, stand in the output where the line ended before. The line ends after them, and all else of
-- the output, which is the same one, is as it was
pub record Wrote (most : ℕ) (before : Line) (bytes : List ℕ) (after : Line) : Type 0 where
  pub ends : after.length ≡ before.length + length bytes
  pub writes : after.out.now ≡ with_bytes before.out.now before.length bytes
  pub short : length bytes ≤ most
  pub same_room : length after.out.now ≡ length before.out.now
  pub same_output : after.out ≡ record before.out { now = after.out.now }
