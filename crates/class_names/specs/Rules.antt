-- The rule of a class name, document 01, "Texts", written apart from any reader.
use Rattle.std.specs.Prelude.{ℕ, List, [], ◌∷◌, ◌++◌, ◌≡◌}
use Rattle.laws.specs.Bytes.{byte, ascii}
use Rattle.names.specs.Rules.{Name, Joined}

-- the bytes that no segment holds: those that part and end segments, and . [ < >
abbrev pub barred_bytes : List ℕ
barred_bytes = ascii "/;.[<>"

-- a segment is not empty
abbrev pub Segment : List ℕ → Type 0
Segment = Name barred_bytes

-- segments joined by /
abbrev pub ClassName : List ℕ → Type 0
ClassName = Joined barred_bytes

-- alone, the last segment may be empty
pub data LoneClassName (s : List ℕ) : Type 0 where
  closed : ClassName s → LoneClassName s
  empty : s ≡ [] → LoneClassName s
  trailing : {t : List ℕ} → ClassName t → s ≡ t ++ byte "/" ∷ [] → LoneClassName s
